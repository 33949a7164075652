use Rattle.std.proofs.Common.{ℕ, ◌++◌, ◌∙◌, ap, sym, arith, List, length, ◌<◌}
use Rattle.std.specs.Prelude.{codes}
use Rattle.std.proofs.lemmas.Bool.{eqb-true, eqb-false, some_since}
use Rattle.c_signature.specs.Directives.{BeginsMacro}
use Rattle.c_signature.proofs.DirectiveLemmas.{macro_prefix, macro_parts, macro_from, some_there}
use Rattle.c_signature.proofs.directives.begins_macro.Goals as goal
use Rattle.c_signature.proofs.directives.begins_macro.Goals.{then-not-has_macros-via-then-not-has_macros}
use Rattle.c_signature.proofs.directives.begins_macro.Goals.{then-not-has_macros-via-else-not-has_macros+then-is_empty}

pub returns-then-not-has_macros : goal.returns-then-not-has_macros
returns-then-not-has_macros c =
    let text_is = macro_prefix c.args.text.now c.as_slice.result.now c.in-Some.behind.now c.as_slice.ensures
    c.in-Some.ensures.cases.0 c.in-Some.ensures.cases.1 ∙ ap (λ (t : List ℕ). codes "<PRI" ++ t)
    c.in-Some-split_byte.ensures in
    let parts = λ (m : BeginsMacro c.args.text.now). macro_parts c.args.text.now c.in-Some-split_byte.behind.now
    c.split_name.result.0.now c.split_name.result.1.now c.in-Some-split_byte.conversion text_is c.split_name.ensures
    m in (
      λ e. absurd (cc e),
      λ m. elim c.then-not-has_macros.branch [
        | then-not-has_macros-via-then-not-has_macros w ↦ w.if-not-has_macros.ensures ∙ (parts m).0
        | then-not-has_macros-via-else-not-has_macros+then-is_empty w ↦ let some = (parts m).1 in absurd
            (omega (arith, some, eqb-true _ _ (sym w.if-is_empty.ensures)))
      ],
    )

pub returns : goal.returns
returns c =
    let text_is = macro_prefix c.args.text.now c.as_slice.result.now c.in-Some.behind.now c.as_slice.ensures
    c.in-Some.ensures.cases.0 c.in-Some.ensures.cases.1 ∙ ap (λ (t : List ℕ). codes "<PRI" ++ t)
    c.in-Some-split_byte.ensures in
    let some : 0 < length c.split_name.result.0.now = omega (
      arith,
      eqb-false (length c.split_name.result.0.now) 0
          (sym c.if-is_empty.ensures),
    ) in (
      λ e.
          let close = some_there c.after_byte.result _ _ c.after_byte.ensures (sym c.is_some.ensures ∙ e) in
          macro_from c.args.text.now c.in-Some-split_byte.behind.now c.split_name.result.0.now c.split_name.result.1.now
          close.0.now c.in-Some-split_byte.conversion text_is c.split_name.ensures (sym c.if-not-has_macros.ensures)
          some close.1,
      λ m.
          let parts = macro_parts c.args.text.now c.in-Some-split_byte.behind.now c.split_name.result.0.now
          c.split_name.result.1.now c.in-Some-split_byte.conversion text_is c.split_name.ensures m in
          c.is_some.ensures ∙ some_since c.after_byte.result _ _ c.after_byte.ensures
          (λ none. none parts.2.0 parts.2.1),
    )
