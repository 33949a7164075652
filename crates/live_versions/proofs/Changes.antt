-- The changes that a writer has logged and not yet published.
use Rattle.std.proofs.Common.{◌≡◌, List, [], ◌∷◌, ◌++◌, fold, refl, ap, sym, ◌∙◌}
use Rattle.std.proofs.lemmas.List.{append-nil}
use Rattle.std.proofs.lemmas.List.Sums.{fold-append}
use Rattle.live_versions.specs.declared.rule.Common.{Common}
use Rattle.live_versions.specs.declared.rule.Change.{Change}
use Rattle.live_versions.specs.declared.rule.Change.TheVariants.{Load, Seal}
use Rattle.live_set.specs.Loads.{LoadValue}
use Rattle.live_set.specs.Sets.{SetValue, with_load}
use Rattle.live_loads.specs.Seen.{SeenValue}
use Rattle.live_versions.specs.StoreRule.{applied_to}
use Rattle.live_versions.specs.Changes.{loads_of, EndsIn}

pub loads_of-append : (a b : List Change) → loads_of (a ++ b) ≡ loads_of a ++ loads_of b
loads_of-append [] b = refl
loads_of-append (Load x ∷ cs) b = ap (λ l. x ∷ l) (loads_of-append cs b)
loads_of-append (Seal f ∷ cs) b = loads_of-append cs b

pub load_added : (old new : List Change) (x : LoadValue) → new ≡ old ++ Load x ∷ [] → loads_of new ≡ loads_of old ++ x
    ∷ []
load_added old new x is = ap loads_of is ∙ loads_of-append old (Load x ∷ [])

pub seal_added : (old new : List Change) (f : SeenValue) → new ≡ old ++ Seal f ∷ [] → loads_of new ≡ loads_of old
seal_added old new f is = ap loads_of is ∙ (loads_of-append old (Seal f ∷ []) ∙ append-nil (loads_of old))

-- seals leave the set as it is
pub fold-set : (s : Common) (cs : List Change) → (fold applied_to s cs).set ≡ fold with_load s.set (loads_of cs)
fold-set s [] = refl
fold-set s (Load x ∷ cs) = fold-set (applied_to s (Load x)) cs
fold-set s (Seal f ∷ cs) = fold-set (applied_to s (Seal f)) cs

-- only the last seal counts
pub fold-sealed : (s : Common) (cs : List Change) (f : SeenValue) → EndsIn f cs → fold applied_to s cs
    ≡ record { set = fold with_load s.set (loads_of cs); seen = f }
fold-sealed s cs f ends =
    let last : fold applied_to s cs ≡ applied_to (fold applied_to s ends.0) (Seal f) = ap (λ l. fold applied_to s l)
    ends.1 ∙ fold-append applied_to s ends.0 (Seal f ∷ []) in
    let all : loads_of cs ≡ loads_of ends.0 = seal_added ends.0 cs f ends.1 in
    last ∙ ap (λ (z : SetValue). record { set = z; seen = f })
    (fold-set s ends.0 ∙ ap (λ l. fold with_load s.set l) (sym all))
