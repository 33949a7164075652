-- Where steps lead.
use Rattle.std.proofs.Common.{◌≡◌, ℕ, List, [], ◌∷◌, ◌++◌, None, Some, refl, sym, ap, subst, ◌∙◌}
use Rattle.std.proofs.lemmas.List.{append-nil}
use Rattle.java_formats.specs.declared.Sort.{Sort}
use Rattle.java_formats.specs.JavaSteps.{Step, step, texts_behind, Leads}

-- steps, and then more steps
pub leads_on : (old here new : List (Sort × List ℕ)) (steps more : List Step) → Leads old steps here
    → Leads here more new → Leads old (steps ++ more) new
leads_on old here new [] more e l = subst (λ (texts : List (Sort × List ℕ)). Leads texts more new) (sym e) l
leads_on [] here new (s ∷ steps) more e l = absurd e
leads_on (text ∷ others) here new (s ∷ steps) more (e, f) l =
    (e, leads_on (texts_behind text.0 s ++ others) here new steps more f l)

-- one more step
pub leads_further : (old others : List (Sort × List ℕ)) (sort : Sort) (text : List ℕ) (steps : List Step) (s : Step)
    → Leads old steps ((sort, text) ∷ others) → step sort text ≡ Some s
    → Leads old (steps ++ s ∷ []) (texts_behind sort s ++ others)
leads_further old others sort text steps s l e =
    leads_on old ((sort, text) ∷ others) (texts_behind sort s ++ others) steps (s ∷ []) l (e, refl)

-- all steps through a text begin with those that were taken
pub begins_so : (old here : List (Sort × List ℕ)) (steps all : List Step) → Leads old steps here → Leads old all []
    → (more : List Step) × (all ≡ steps ++ more) × Leads here more []
begins_so old here [] all e l = (all, refl, subst (λ (texts : List (Sort × List ℕ)). Leads texts all []) e l)
begins_so [] here (s ∷ steps) all e l = absurd e
begins_so (text ∷ others) here (s ∷ steps) [] e l = absurd (cc l)
begins_so (text ∷ others) here (s ∷ steps) (t ∷ all) (e, f) (g, h) =
    let same : t ≡ s = cc (e, g) in
    let there : Leads (texts_behind text.0 s ++ others) all [] =
    subst (λ (u : Step). Leads (texts_behind text.0 u ++ others) all []) same h in
    let rest = begins_so (texts_behind text.0 s ++ others) here steps all f there in (
      rest.0,
      ap (λ (u : Step). u ∷ all) same ∙ ap (λ (us : List Step). s ∷ us) rest.1,
      rest.2,
    )

-- no steps lead through texts of which the first is invalid
pub stuck : (others : List (Sort × List ℕ)) (sort : Sort) (text : List ℕ) (steps : List Step) → None ≡ step sort text
    → Leads ((sort, text) ∷ others) steps [] → ⊥
stuck others sort text [] none l = absurd (cc l)
stuck others sort text (s ∷ steps) none (e, f) = absurd (cc (none, e))

-- where the steps taken lead to texts that none lead through, none lead through the old ones
pub blocks : (old here : List (Sort × List ℕ)) (steps : List Step) → Leads old steps here
    → ((more : List Step) → Leads here more [] → ⊥) → (all : List Step) → Leads old all [] → ⊥
blocks old here steps l none all whole =
    let rest = begins_so old here steps all l whole in
    none rest.0 rest.2

-- one list of steps leads through a text
pub one_way : (old : List (Sort × List ℕ)) (steps all : List Step) → Leads old steps [] → Leads old all []
    → steps ≡ all
one_way old steps all l whole =
    let rest = begins_so old [] steps all l whole in
    no_more steps all rest.0 rest.1 rest.2
  where
    no_more : (steps all more : List Step) → all ≡ steps ++ more → Leads [] more [] → steps ≡ all
    no_more steps all [] e f = sym (e ∙ append-nil steps)
    no_more steps all (s ∷ more) e f = absurd f
