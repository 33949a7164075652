use Rattle.po_text.specs.Progress.{left_of}
use Rattle.po_formats.proofs.Gathering.{Gathers}
use Rattle.po_formats.proofs.entries.faults_of_entries.Given as goal

abbrev pub invariant-entries : goal.invariant-entries
invariant-entries l = Gathers l.text l.options l.often l.reader l.faults.items

abbrev pub decreases-entries : goal.decreases-entries
decreases-entries l = left_of l.reader
