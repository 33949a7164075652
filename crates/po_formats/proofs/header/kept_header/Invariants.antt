use Rattle.po_text.specs.Progress.{left_of}
use Rattle.po_formats.proofs.HeaderLemmas.{Finds}
use Rattle.po_formats.proofs.header.kept_header.Given as goal

abbrev pub invariant-entries : goal.invariant-entries
invariant-entries l = Finds l.text l.options l.reader l.found

abbrev pub decreases-entries : goal.decreases-entries
decreases-entries l = left_of l.reader
