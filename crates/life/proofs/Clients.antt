-- Lists of clients, member by member.
use Rattle.life.proofs.Common.{AllZip, AllByRecursion, ◌≡◌, ◌<◌, List, [], ◌∷◌, ◌++◌, length, refl, sym, ◌∙◌, subst}
use Rattle.life.proofs.Common.{arith, version_of, StartsWith, SeenValue, begins_refl, begins_trans, Client, Reply, Act}
use Rattle.life.proofs.Common.{Learns, LeadsAll, HasActed, AreReplies, acts_for, KeepsClient, HasLearnt, HasAnswered}
use Rattle.life.proofs.Common.{HasSettled, run_acts, seen_by_all, with_run}
use Rattle.thread_tree.proofs.Halves.{halves_of}
use Rattle.life.specs.declared.client.Request.{Request}
use Rattle.life.specs.Clients.{IsServed}
use Rattle.life.proofs.Calls.{learns, learns_all, leads_append}

-- ---- what is kept

kept_refl : (c : Client) → KeepsClient c c
kept_refl c = record { requests = refl; book = refl; seen = begins_refl c.reader.batches }

kept_trans : (c d e : Client) → KeepsClient c d → KeepsClient d e → KeepsClient c e
kept_trans c d e h k = record {
  requests = k.requests ∙ h.requests;
  book = k.book ∙ h.book;
  seen = begins_trans e.reader.batches d.reader.batches c.reader.batches k.seen h.seen;
}

pub kept_all : (cs : List Client) → AllZip KeepsClient cs cs
kept_all [] = tt
kept_all (c ∷ cs) = (kept_refl c, kept_all cs)

pub kept_then : (cs ds es : List Client) → AllZip KeepsClient cs ds → AllZip KeepsClient ds es
    → AllZip KeepsClient cs es
kept_then [] [] [] h k = tt
kept_then (c ∷ cs) (d ∷ ds) (e ∷ es) h k = (kept_trans c d e h.0 k.0, kept_then cs ds es h.1 k.1)
kept_then _ _ _ h k = absurd (search)

pub learnt_kept : (start : SeenValue) (cs ds : List Client) → AllZip (HasLearnt start) cs ds → AllZip KeepsClient cs ds
learnt_kept start [] [] h = tt
learnt_kept start (c ∷ cs) (d ∷ ds) h = (h.0.kept, learnt_kept start cs ds h.1)
learnt_kept start _ _ h = absurd h

-- the readers are of one book still
pub kept_book : (f g : SeenValue) (cs ds : List Client) → g.book ≡ f.book
    → AllByRecursion (λ c. c.reader.book ≡ f.book) cs → AllZip KeepsClient cs ds
    → AllByRecursion (λ c. c.reader.book ≡ g.book) ds
kept_book f g [] [] same all h = tt
kept_book f g (c ∷ cs) (d ∷ ds) same all h = (h.0.book ∙ all.0 ∙ sym same, kept_book f g cs ds same all.1 h.1)
kept_book f g _ _ same all h = absurd h

-- ---- halves

pub settled_halves : (end : SeenValue) (all xs ys cs ds : List Client) → all ≡ xs ++ ys
    → AllZip (HasSettled end) xs cs → AllZip (HasSettled end) ys ds → AllZip (HasSettled end) all (cs ++ ds)
settled_halves end = halves_of (HasSettled end)

-- a client without others
alone : (R : Client → Client → Type 0) (c d : Client) (rest : List Client) → length (c ∷ rest) < 2 → R c d
    → AllZip R (c ∷ rest) (d ∷ rest)
alone R c d [] short one = (one, tt)
alone R c d (r ∷ rest) short one = absurd (omega (arith, short))

alone_of : (R : Client → Client → Type 0) (all new : List Client) (c d : Client) (rest : List Client)
    → all ≡ c ∷ rest → new ≡ d ∷ rest → length all < 2 → R c d → AllZip R all new
alone_of R all new c d rest is becomes short one =
    let few : length (c ∷ rest) < 2 = subst (λ (l : List Client). length l < 2) is short in
    subst (λ (l : List Client). AllZip R l new) (sym is)
    (subst (λ (l : List Client). AllZip R (c ∷ rest) l) (sym becomes) (alone R c d rest few one))

pub settled_alone : (end : SeenValue) (all new : List Client) (c d : Client) (rest : List Client) → all ≡ c ∷ rest
    → new ≡ d ∷ rest → length all < 2 → HasSettled end c d → AllZip (HasSettled end) all new
settled_alone end = alone_of (HasSettled end)

-- ---- a run

-- a client that learnt, was answered, and settled
served_one : (start end : SeenValue) (c d e f : Client) → HasLearnt start c d → KeepsClient d e → HasAnswered d e
    → HasSettled end e f → IsServed start end c f
served_one start end c d e f l k a s =
    let requests : d.requests ≡ f.requests = sym (s.requests ∙ k.requests) in
    let replies : e.replies ≡ f.replies = sym s.replies in
    let told : List Act = Learns (version_of end.batches) ∷ [] in
    let entered : LeadsAll d.reader.batches (acts_for f.requests.items f.replies.items) e.reader.batches = subst
    (λ (l : List Act). LeadsAll d.reader.batches l e.reader.batches)
    (λ i. acts_for (requests i).items (replies i).items) a.leads in
    let rest : LeadsAll d.reader.batches (acts_for f.requests.items f.replies.items ++ told) end.batches = leads_append
    d.reader.batches (acts_for f.requests.items f.replies.items) e.reader.batches told end.batches entered
    (end.batches, learns_all e.reader.batches end.batches s.later, refl) in
    record {
      reader = s.reader;
      requests = s.requests ∙ k.requests ∙ l.kept.requests;
      each = subst (λ (rs : List Request). AreReplies rs f.replies.items) (λ i. (requests i).items)
          (subst (λ (rs : List Reply). AreReplies d.requests.items rs) (λ i. (replies i).items) a.each);
      leads = (d.reader.batches, learns c.reader d.reader start (l.kept.seen, l.told) l.one, rest);
    }

-- all clients
pub served_all : (start end : SeenValue) (cs ds es fs : List Client) → AllZip (HasLearnt start) cs ds
    → AllZip KeepsClient ds es → AllZip HasAnswered ds es → AllZip (HasSettled end) es fs
    → AllZip (IsServed start end) cs fs
served_all start end [] [] [] [] l k a s = tt
served_all start end (c ∷ cs) (d ∷ ds) (e ∷ es) (f ∷ fs) l k a s =
    (served_one start end c d e f l.0 k.0 a.0 s.0, served_all start end cs ds es fs l.1 k.1 a.1 s.1)
served_all start end _ _ _ _ l k a s = absurd (search)

-- ---- what it adds

acted_one : (start end : SeenValue) (acts : List Act) (c d : Client) → HasActed acts c.reader.batches
    → IsServed start end c d
    → HasActed (acts ++ run_acts (version_of start.batches) (version_of end.batches) d) d.reader.batches
acted_one start end acts c d acted served =
    let mine : List Act = run_acts (version_of start.batches) (version_of end.batches) d in
    subst (λ (x : SeenValue). HasActed (acts ++ mine) x.batches) (sym served.reader)
    (leads_append [] acts c.reader.batches mine end.batches acted served.leads)

pub acted_all : (start end : SeenValue) (acts : List (List Act)) (cs ds : List Client)
    → AllZip HasActed acts (seen_by_all cs) → AllZip (IsServed start end) cs ds
    → AllZip HasActed (with_run (version_of start.batches) (version_of end.batches) acts ds) (seen_by_all ds)
acted_all start end [] [] [] acted served = tt
acted_all start end (a ∷ more) (c ∷ cs) (d ∷ ds) acted served =
    (acted_one start end a c d acted.0 served.0, acted_all start end more cs ds acted.1 served.1)
acted_all start end _ _ _ acted served = absurd (search)

pub settled_all : (start end : SeenValue) (cs ds : List Client) → AllZip (IsServed start end) cs ds
    → AllByRecursion (StartsWith end.batches) (seen_by_all ds)
settled_all start end [] [] served = tt
settled_all start end (c ∷ cs) (d ∷ ds) served = (
  subst (λ (r : SeenValue). StartsWith end.batches r.batches) (sym served.0.reader) (begins_refl end.batches),
  settled_all start end cs ds served.1,
)
settled_all start end _ _ served = absurd served
