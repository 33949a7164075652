use Rattle.script_text.specs.Scanning.{HasTaken}
use Rattle.script_text.proofs.line.take_lines.Given as goal

abbrev pub invariant-lines : goal.invariant-lines
invariant-lines l = HasTaken l._taken l.text l.rest
