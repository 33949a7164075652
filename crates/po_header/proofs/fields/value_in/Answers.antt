use Rattle.po_header.proofs.Kit.{◌≡◌, ap, ◌∙◌, sym, arith, List, ℕ, Some, None, drop, ◌++◌, option_copied}
use Rattle.std.proofs.lemmas.Str.Pattern.{strip_prefix_char}
use Rattle.po_header.proofs.FieldLemmas.{line_value-other, line_value-no_colon, line_value-some}
use Rattle.po_header.proofs.fields.value_in.Goals as goal

pub returns-in_err-after : goal.returns-in_err-after
returns-in_err-after c = ap option_copied c.from_residual.ensures
    ∙ sym (line_value-other c.args.name.now c.args.line.now c.in_err-after.ensures.cases)

-- the line after its name, as `strip_prefix` returns it
behind_name : (name line after : List ℕ) (n : ℕ) → line ≡ name ++ drop n line → after ≡ drop n line → line ≡ name
    ++ after
behind_name name line after n split rest = split ∙ ap (λ (t : List ℕ). name ++ t) (sym rest)

pub returns-in_err-value : goal.returns-in_err-value
returns-in_err-value c =
    let h = c.in_ok-after.ensures.cases in
    ap option_copied c.from_residual-in_err-value.ensures
    ∙ sym (line_value-no_colon c.args.name.now c.args.line.now c.in_ok-after.after.now (behind_name _ _ _ h.0 h.1.1 h.2)
    (strip_prefix_char 58 c.in_ok-after.after.now None c.in_err-value.ensures.cases (omega arith)))

pub returns : goal.returns
returns c =
    let h = c.in_ok-after.ensures.cases in
    ap Some c.trim_blanks.ensures
    ∙ sym (line_value-some c.args.name.now c.args.line.now c.in_ok-after.after.now c.in_ok-value.value.now
    (behind_name _ _ _ h.0 h.1.1 h.2) (strip_prefix_char 58 c.in_ok-after.after.now (Some c.in_ok-value.value)
    c.in_ok-value.ensures.cases (omega arith)))
