use Rattle.std.proofs.Common.{◌∙◌, sym}
use Rattle.format_checks.specs.AskedViews.{reading_view}
use Rattle.format_checks.proofs.FaultLemmas.{objc_result, placed_result}
use Rattle.format_checks.proofs.languages.read.Goals as goal

pub returns-then-is_objc : goal.returns-then-is_objc
returns-then-is_objc c = objc_result c.args.language c.args.text.now reading_view c.read_objc.result
    (sym c.if-is_objc.ensures) c.read_objc.ensures

pub returns-in-Some : goal.returns-in-Some
returns-in-Some c = placed_result c.args.language c.in-Some.notation c.args.text.now reading_view c.read_placed.result
    (sym c.lisp_of.ensures ∙ c.in-Some.is) c.read_placed.ensures
