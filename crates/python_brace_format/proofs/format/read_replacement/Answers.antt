use Rattle.std.proofs.Common.{ap, refl, subst, List, ℕ, ◌++◌, ◌∙◌, take, length, ◌-◌}
use Rattle.python_brace_format.specs.BraceSpecifiers.{FormatAt}
use Rattle.python_brace_format.proofs.EndLemmas.{closing_end, closing_within, name_before}
use Rattle.python_brace_format.proofs.ReaderLemmas.{no_field_in, no_format_in, not_closed_in}
use Rattle.python_brace_format.proofs.format.read_replacement.Goals as goal

pub returns-in_err-behind_field : goal.returns-in_err-behind_field
returns-in_err-behind_field c = rw c.from_residual.ensures (no_field_in c.args.text.now c.in_err-behind_field.ensures)

pub returns-in_err-closing : goal.returns-in_err-closing
returns-in_err-closing c = rw c.from_residual-in_err-closing.ensures (no_format_in c.args.text.now
    c.in_ok-behind_field.behind_field.now c.in_ok-behind_field.ensures c.in_err-closing.ensures)

pub returns-in_err-rest : goal.returns-in_err-rest
returns-in_err-rest c = rw c.from_residual-in_err-rest.ensures (not_closed_in c.args.text.now
    c.in_ok-behind_field.behind_field.now c.in_ok-closing.closing.now c.in_ok-behind_field.ensures
    c.in_ok-closing.ensures c.in_err-rest.ensures)

pub slice_bounds-result-count : goal.slice_bounds-result-count
slice_bounds-result-count c = closing_within c.args.text.now c.in_ok-closing.closing.now (closing_end c.args.text.now
    c.in_ok-behind_field.behind_field.now c.in_ok-closing.closing.now c.in_ok-behind_field.ensures
    c.in_ok-closing.ensures)

pub returns : goal.returns
returns c =
    let text = c.args.text.now in
    let closing = c.in_ok-closing.closing.now in
    let ends = closing_end text c.in_ok-behind_field.behind_field.now closing c.in_ok-behind_field.ensures
    c.in_ok-closing.ensures in
    record {
      inner = text;
      behind_field = c.in_ok-behind_field.behind_field.now;
      begins = refl;
      field_at = c.in_ok-behind_field.ensures;
      format_at = subst (λ (t : List ℕ). FormatAt c.in_ok-behind_field.behind_field.now t) c.in_ok-rest.ensures
          c.in_ok-closing.ensures;
      name_is = name_before text closing ends
          ∙ ap (λ (t : List ℕ). take (length text - length closing) text ++ t) c.in_ok-rest.ensures;
    }
