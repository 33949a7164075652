use Rattle.std.proofs.Common.{refl}
use Rattle.po_header.specs.Rules.{rule_of}
use Rattle.dependent_po.proofs.MeaningLemmas.{compiles, few, refused}
use Rattle.dependent_po.proofs.compiler.compile_gathered.Goals as goal

pub returns-in-Some-clause-err : goal.returns-in-Some-clause-err
returns-in-Some-clause-err c text of = refused text c.args.options c.args.gathered c.text_of.result
    (rule_of c.in_ok-rule.rule) c.in-Some.fault of c.text_of.ensures c.in_ok-rule.ensures.ok c.in-Some.ensures

pub stats_of-stats-requires : goal.stats_of-stats-requires
stats_of-stats-requires c = rw c.deref.ensures.value (few c.requires.0 c.args.options c.args.gathered c.requires.1)

pub returns-clause-ok : goal.returns-clause-ok
returns-clause-ok c text of =
    compiles text c.args.options c.args.gathered c.text_of.result (rule_of c.in_ok-rule.rule) _ of
    c.text_of.ensures c.in_ok-rule.ensures.ok (rw c.in_default.is at c.late_fault.ensures) (record {
      statics = c.in_ok-statics.ensures;
      dependents = refl;
      stats = rw c.deref.ensures.value at c.stats_of-stats.ensures;
      header_line = c.line_of-header_line.ensures;
      missing = rw c.text_of-2.ensures at c.missing_in-missing.ensures;
    })
