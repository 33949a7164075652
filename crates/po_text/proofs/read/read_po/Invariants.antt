use Rattle.po_text.proofs.Kit.{List, Entry, body}
use Rattle.po_text.specs.Progress.{HasRead, left_of}
use Rattle.po_text.specs.Views.{AreCopies}
use Rattle.po_text.proofs.read.read_po.Given as goal

abbrev pub invariant-entries : goal.invariant-entries
invariant-entries l =
    (entries : List Entry) × HasRead (body l.text) entries l.reader × AreCopies l.entries.items entries

abbrev pub decreases-entries : goal.decreases-entries
decreases-entries l = left_of l.reader
