use Rattle.std.proofs.Common.{◌≡◌, ◌∷◌, ◌++◌, refl, sym, ap, subst}
use Rattle.std.proofs.lemmas.Bool.{false≢true}
use Rattle.c_signature.specs.Directives.{Head, Directive, HeadAt, IsAllowed, own_argument}
use Rattle.c_signature.specs.Conversions.{Argument}
use Rattle.c_signature.specs.Pieces.{percent}
use Rattle.c_signature.specs.Signature.{amount_requests, argument_requests}
use Rattle.c_signature.specs.Readers.{amount_view, modifier_view, argument_view}
use Rattle.c_signature.proofs.DirectiveLemmas.{head_from, directive_from, refuses_macro}
use Rattle.c_signature.proofs.DirectiveLemmas.{refuses_invalid, tail_needs, tail_allows}
use Rattle.c_signature.proofs.directives.read_parts.Goals as goal

pub returns-then-begins_macro-clause-err : goal.returns-then-begins_macro-clause-err
returns-then-begins_macro-clause-err c =
    let h : Head = record {
      number = c.read_number-number.result.0;
      flags = c.split_flags.result.0.now;
      width =
          amount_view c.read_width-width.result.0;
      precision = amount_view c.read_precision-precision.result.0;
    } in
    refuses_macro h c.args.text.now _
    (head_from h _ _ _ _ _ c.read_number-number.ensures c.split_flags.ensures c.read_width-width.ensures
    c.read_precision-precision.ensures) (c.if-begins_macro.ensures.0 refl)

pub returns-in_default-clause-err : goal.returns-in_default-clause-err
returns-in_default-clause-err c =
    let h : Head = record {
      number = c.read_number-number.result.0;
      flags = c.split_flags.result.0.now;
      width =
          amount_view c.read_width-width.result.0;
      precision = amount_view c.read_precision-precision.result.0;
    } in
    refuses_invalid h c.args.text.now _
    (head_from h _ _ _ _ _ c.read_number-number.ensures c.split_flags.ensures c.read_width-width.ensures
    c.read_precision-precision.ensures) (λ m. false≢true (c.if-begins_macro.ensures.1 m))
    (λ d more same at. tail_needs d _ _ more (rw c.in_default.ensures at c.read_modifier-modifier.ensures) at)

pub returns-then-not-is_allowed-clause-err : goal.returns-then-not-is_allowed-clause-err
returns-then-not-is_allowed-clause-err c =
    let h : Head = record {
      number = c.read_number-number.result.0;
      flags = c.split_flags.result.0.now;
      width =
          amount_view c.read_width-width.result.0;
      precision = amount_view c.read_precision-precision.result.0;
    } in
    refuses_invalid h c.args.text.now _
    (head_from h _ _ _ _ _ c.read_number-number.ensures c.split_flags.ensures c.read_width-width.ensures
    c.read_precision-precision.ensures) (λ m. false≢true (c.if-begins_macro.ensures.1 m))
    (λ d more same at. tail_allows d h _ _ _ _ more (rw c.in-Some.ensures at c.read_modifier-modifier.ensures)
    (λ allowed. false≢true (c.if-not-is_allowed.ensures.1 (rw c.argument_of-argument.ensures allowed))) same at)

pub returns-clause-ok : goal.returns-clause-ok
returns-clause-ok c =
    let h : Head = record {
      number = c.read_number-number.result.0;
      flags = c.split_flags.result.0.now;
      width =
          amount_view c.read_width-width.result.0;
      precision = amount_view c.read_precision-precision.result.0;
    } in
    let d : Directive = record {
      head = h;
      modifier = modifier_view c.read_modifier-modifier.result.0;
      conversion =
          c.in-Some.conversion;
    } in
    let own : argument_view c.argument_of-argument.result ≡ own_argument d = c.argument_of-argument.ensures in
    let head : HeadAt h (percent ∷ c.args.text.now) c.read_precision-precision.result.1.now =
    head_from h _ _ _ _ _ c.read_number-number.ensures c.split_flags.ensures c.read_width-width.ensures
    c.read_precision-precision.ensures in (
      d,
      directive_from d _ _ _ c.in-Some.rest.now head c.read_modifier-modifier.ensures c.in-Some.ensures
          (subst (λ (a : Argument). IsAllowed a h.number) own (c.if-not-is_allowed.ensures.0 refl)),
      ap (λ (a : Argument). amount_requests h.width ++ amount_requests h.precision ++ argument_requests h.number a)
          (sym own),
    )
