use Rattle.std.proofs.Common.{refl}
use Rattle.po_header.specs.Rules.{rule_of}
use Rattle.dependent_po.proofs.FaultLemmas.{late_fault_is}
use Rattle.dependent_po.proofs.compiler.late_fault.Goals as goal

pub returns : goal.returns
returns c =
    late_fault_is c.args.options c.args.gathered.now (rule_of c.args.rule.now) c.line_of.result _ c.fault-fault.result
    c.line_if.result refl c.line_of.ensures c.fault-fault.ensures c.line_if.ensures c.with_mismatch.result
    c.with_mismatch.ensures
