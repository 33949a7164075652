-- Clients whose readers have seen just what is published.
use Rattle.life.proofs.Common.{AllZip, AllByRecursion, ◌≡◌, List, [], ◌∷◌, refl, ap, inl, subst, StartsWith, SeenValue}
use Rattle.life.proofs.Common.{begins_refl, Client, HasLearnt}

seated_one : (start : SeenValue) (c : Client) → c.reader ≡ start → HasLearnt start c c
seated_one start c is = record {
  kept = record { requests = refl; book = refl; seen = begins_refl c.reader.batches };
  told = subst (λ (r : SeenValue). StartsWith c.reader.batches r.batches) is (begins_refl c.reader.batches);
  one = inl refl;
}

-- it is as if each had learnt of it
pub seated_learnt : (start : SeenValue) (cs : List Client) → AllByRecursion (λ c. c.reader ≡ start) cs
    → AllZip (HasLearnt start) cs cs
seated_learnt start [] all = tt
seated_learnt start (c ∷ cs) all = (seated_one start c all.0, seated_learnt start cs all.1)

pub seated_book : (start : SeenValue) (cs : List Client) → AllByRecursion (λ c. c.reader ≡ start) cs
    → AllByRecursion (λ c. c.reader.book ≡ start.book) cs
seated_book start [] all = tt
seated_book start (c ∷ cs) all = (ap (λ (r : SeenValue). r.book) all.0, seated_book start cs all.1)
