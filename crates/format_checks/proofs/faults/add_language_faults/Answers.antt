use Rattle.std.proofs.Common.{◌+◌, ◌++◌, ◌∙◌, ℕ, Option, map, drop, arith, ap, sym, refl}
use Rattle.std.proofs.lemmas.List.{drop_more, drop_all}
use Rattle.format_checks.specs.AskedViews.{reading_view}
use Rattle.format_checks.specs.FormatViews.{entry_view}
use Rattle.format_checks.specs.declared.Fault.{Fault}
use Rattle.format_checks.specs.FormatFaults.{list_of}
use Rattle.format_checks.proofs.FaultLemmas.{adds_flagged, compared_none, compared_more, compared_all, verdict_of}
use Rattle.format_checks.proofs.faults.add_language_faults.Goals as goal

pub forms-init : goal.forms-init
forms-init c = (
  refl,
  compared_none c.args.entry.line (entry_view c.args.entry) c.args.often.now c.args.language 0
      c.args.faults.now.items refl,
  refl,
)

pub forms-preserved : goal.forms-preserved
forms-preserved c =
    let e = entry_view c.args.entry in
    let forms = c.args.entry.forms.now in
    let index = c.forms.text-index in
    let cut = drop_more forms index _ c.forms-test.true in
    let verdict = verdict_of e c.args.often.now c.args.language c.forms.form _ c.original.result.now
    c.rule_for-rule.result (reading_view c.in_ok-original.original) _ c.in_ok-found.found c.original.ensures
    c.in_ok-original.ensures c.rule_for-rule.ensures (ap reading_view c.forms.invariant.2)
    c.in_ok-found.ensures in (
      ap (λ (k : ℕ). k + 1) c.forms.invariant.0,
      compared_more c.args.entry.line e c.args.often.now c.args.language c.forms.form (c.forms.form + 1)
          (map (λ form. form.now) (drop index forms)) (map (λ form. form.now) (drop (index + 1) forms)) _ _ _ _
          c.in_ok-found.found c.forms.invariant.1 (ap (map (λ form. form.now)) cut) refl verdict
          (c.in_ok-add_fault.ensures ∙ ap (λ (f : Option Fault). c.forms.faults.items ++ list_of f) c.fault_of.ensures),
      c.forms.invariant.2,
    )

pub returns : goal.returns
returns c =
    let e = entry_view c.args.entry in
    let forms = c.args.entry.forms.now in
    adds_flagged c.args.entry.line e c.args.often.now c.args.language _ _ (sym c.if-not-has.ensures)
    (compared_all c.args.entry.line e c.args.often.now c.args.language c.forms.form
    (map (λ form. form.now) (drop c.forms.text-index forms)) _ _ c.forms.invariant.1
    (ap (map (λ form. form.now)) (drop_all c.forms.text-index forms (omega (arith, c.forms-test.false)))))
