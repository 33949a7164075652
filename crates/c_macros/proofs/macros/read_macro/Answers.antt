use Rattle.std.proofs.Common.{◌≡◌, ℕ, List, ◌++◌, sym, subst}
use Rattle.std.specs.Prelude.{codes, MatchOption}
use Rattle.c_signature.proofs.DirectiveLemmas.{macro_prefix}
use Rattle.c_macros.specs.Macros.{MacroAt, Kind}
use Rattle.c_macros.proofs.macros.read_macro.Goals as goal

pub returns : goal.returns
returns c =
    let text_is : c.args.text.now ≡ codes "<PRI" ++ c.in_ok-behind.behind.now = macro_prefix c.args.text.now
    c.as_slice.result.now c.in_ok-behind.behind.now c.as_slice.ensures c.in_ok-behind.ensures.cases.0
    c.in_ok-behind.ensures.cases.1 in
    subst (λ (t : List ℕ). MatchOption c.read_name.result ((kind : Kind) (rest : List ℕ) → MacroAt kind t rest → ⊥)
    (λ found. MacroAt found.0 t found.1.now)) (sym text_is) c.read_name.ensures
