use Rattle.std.proofs.Common.{◌≡◌, ◌∷◌, ◌++◌, drop}
use Rattle.po_writing.specs.Steps.{behind_quote}
use Rattle.po_writing.proofs.literals.push_lines.Given as goal

abbrev pub invariant-loop-i : goal.invariant-loop-i
invariant-loop-i l = l.out.items ++ behind_quote l.escape (drop l.i l.text)
    ≡ l.fn.out.items ++ (34 ∷ behind_quote l.escape l.text)
