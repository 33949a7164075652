use Rattle.po_text.specs.Progress.{left_of}
use Rattle.dependent_po.proofs.GatherLemmas.{Reads}
use Rattle.dependent_po.proofs.gathered.gather.Given as goal

abbrev pub invariant-entries : goal.invariant-entries
invariant-entries l = Reads l.text l.options l.reader l.gathered

abbrev pub decreases-entries : goal.decreases-entries
decreases-entries l = left_of l.reader
