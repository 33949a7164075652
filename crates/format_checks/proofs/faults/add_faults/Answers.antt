use Rattle.format_checks.specs.FormatViews.{entry_view}
use Rattle.format_checks.proofs.FaultLemmas.{adds_nothing, adds_language, adds_all}
use Rattle.format_checks.proofs.faults.add_faults.Goals as goal

pub languages-init : goal.languages-init
languages-init c = adds_nothing c.args.entry.line c.args.faults.now.items

pub languages-preserved : goal.languages-preserved
languages-preserved c = adds_language c.args.entry.line (entry_view c.args.entry) c.args.often.now
    c.languages.language-index _ _ _ c.languages-test.true c.languages.invariant
    c.in_ok-add_language_faults.ensures

pub returns : goal.returns
returns c = adds_all c.args.entry.line (entry_view c.args.entry) c.args.often.now c.languages.language-index _ _
    c.languages-test.false c.languages.invariant
