use Rattle.std.proofs.Common.{ℕ, List, ◌∷◌, sym, ap, ◌∙◌, rules}
use denote.Ref.{Bor}
use Rattle.std.proofs.lemmas.Slice.Eq.{slice_eq-Decides}
use Rattle.kuit_formats.specs.KuitReading.{waiting_names}
use Rattle.kuit_formats.proofs.ContentLemmas.{waiting_push, same_first}
use Rattle.kuit_formats.proofs.content.close.Goals as goal

pub returns-in-Some-clause-yes : goal.returns-in-Some-clause-yes
returns-in-Some-clause-yes c = λ yes.
    let decides = slice_eq-Decides (λ a b. search rules) c.in-Some.last.now c.args.name.now c.eq.result c.eq.ensures in
    let same = decides.0 yes in
    ap (λ (names : List (Bor (List ℕ))). waiting_names names) c.in-Some.ensures.items
    ∙ waiting_push c.pop.new.self.items c.in-Some.last
    ∙ ap (λ (name : List ℕ). name ∷ waiting_names c.pop.new.self.items) same

pub returns-in-Some-clause-no : goal.returns-in-Some-clause-no
returns-in-Some-clause-no c = λ no names is.
    let last = ap (λ (names : List (Bor (List ℕ))). waiting_names names) c.in-Some.ensures.items
    ∙ waiting_push c.pop.new.self.items c.in-Some.last in
    let decides = slice_eq-Decides (λ a b. search rules) c.in-Some.last.now c.args.name.now c.eq.result c.eq.ensures in
    let same = decides.1 (same_first c.in-Some.last.now c.args.name.now _ names (sym last ∙ is)) in
    absurd (cc (same, no))
