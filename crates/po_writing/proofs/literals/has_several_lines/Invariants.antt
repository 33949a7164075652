use Rattle.std.proofs.Common.{◌≡◌, drop}
use Rattle.po_writing.specs.Steps.{is_several}
use Rattle.po_writing.proofs.literals.has_several_lines.Given as goal

abbrev pub invariant-loop-i : goal.invariant-loop-i
invariant-loop-i l = is_several (drop l.i l.text) ≡ is_several l.text
