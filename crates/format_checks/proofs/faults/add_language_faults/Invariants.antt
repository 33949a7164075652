use Rattle.std.proofs.Common.{◌≡◌, drop, map}
use Rattle.format_checks.specs.FormatViews.{entry_view}
use Rattle.format_checks.proofs.FaultLemmas.{HasCompared}
use Rattle.format_checks.proofs.faults.add_language_faults.Given as goal

abbrev pub invariant-forms : goal.invariant-forms
invariant-forms l = (l.form ≡ l.text-index)
    × HasCompared l.entry.line (entry_view l.entry) l.often l.language l.form
    (map (λ form. form.now) (drop l.text-index l.entry.forms.now)) l.fn.faults.items l.faults.items
    × (l.original ≡ l.initial.original)
