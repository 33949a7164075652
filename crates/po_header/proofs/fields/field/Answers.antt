use Rattle.std.proofs.Common.{◌≡◌, ◌∙◌, sym, arith, ℕ, ◌<◌, List, ◌∷◌, Some, None, length, drop}
use Rattle.std.specs.List.{position_or_len, before_first, after_first}
use Rattle.std.specs.Str.{IsUtf8, IsCharBoundary}
use Rattle.std.proofs.lemmas.List.Splits.{slice_split_first}
use Rattle.std.proofs.lemmas.Str.{IsUtf8-drop}
use Rattle.std.proofs.lemmas.Str.Pattern.{split_once_first}
use Rattle.po_header.specs.Fields.{is_line_end, lines}
use Rattle.po_header.proofs.FieldLemmas.{field_value-first, field_value-next, field_value-last, one_line}
use Rattle.po_header.proofs.fields.field.Goals as goal

cut_lines : (rest line later : List ℕ) → position_or_len is_line_end rest < length rest → line
    ≡ before_first is_line_end rest → later ≡ after_first is_line_end rest → lines rest ≡ line ∷ lines later
cut_lines rest line later lt e f = rw (e, f) (slice_split_first is_line_end rest 0 lt)

later_utf8 : (rest later : List ℕ) (j k : ℕ) → IsUtf8 rest → j ≡ k → IsCharBoundary rest k → later ≡ drop j rest
    → IsUtf8 later
later_utf8 rest later j k utf8 e boundary f = rw (f, e) (IsUtf8-drop rest k utf8 boundary)

pub returns-in-Some-value_in : goal.returns-in-Some-value_in
returns-in-Some-value_in c =
    let h = split_once_first 10 c.lines.rest.now (Some (c.in-Some.line, c.in-Some.later)) c.in-Some.ensures.cases
    (omega arith) in
    field_value-first c.lines.rest.now c.args.name.now c.in-Some.line.now c.in-Some.later.now
    c.in-Some-value_in.value.now (cut_lines _ _ _ h.0 h.1 h.2) c.in-Some-value_in.ensures ∙ sym c.lines.invariant.0

pub lines-preserved : goal.lines-preserved
lines-preserved c =
    let h = split_once_first 10 c.lines.rest.now (Some (c.in-Some.line, c.in-Some.later)) c.in-Some.ensures.cases
    (omega arith) in (
      c.lines.invariant.0 ∙ field_value-next c.lines.rest.now c.args.name.now c.in-Some.line.now c.in-Some.later.now
          (cut_lines _ _ _ h.0 h.1 h.2) c.in_default-value_in.ensures,
      later_utf8 _ _ _ _ c.lines.invariant.1 c.in-Some.ensures.cases.2.1.ends c.in-Some.ensures.cases.2.1.after
          c.in-Some.ensures.cases.4,
    )

pub returns : goal.returns
returns c =
    let h = split_once_first 10 c.lines.rest.now None c.in_default.ensures.cases (omega arith) in
    c.value_in-2.ensures ∙ field_value-last c.lines.rest.now c.args.name.now (one_line c.lines.rest.now h)
    ∙ sym c.lines.invariant.0
