use Rattle.std.proofs.Common.{◌≡◌, take}
use Rattle.po_writing.specs.Written.{po_of}
use Rattle.po_writing.proofs.write.write_po.Given as goal

abbrev pub invariant-loop-i : goal.invariant-loop-i
invariant-loop-i l = l.out.items ≡ po_of l.escape (take l.i l.catalogue)
