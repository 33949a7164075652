use Rattle.po_text.specs.Progress.{left_of}
use Rattle.catalogue_drafts.proofs.Collecting.{Collects}
use Rattle.catalogue_drafts.proofs.collected.collect.Given as goal

abbrev pub invariant-entries : goal.invariant-entries
invariant-entries l = Collects l.text l.options l.reader l.drafts.items l.findings

abbrev pub decreases-entries : goal.decreases-entries
decreases-entries l = left_of l.reader
