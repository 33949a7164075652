use Rattle.std.proofs.Common.{length}
use Rattle.script_text.specs.Gathering.{HasSkipped}
use Rattle.script_text.proofs.parse.read_preamble.Given as goal

abbrev pub invariant-preamble : goal.invariant-preamble
invariant-preamble l = HasSkipped l.text l.rest l.number

abbrev pub decreases-preamble : goal.decreases-preamble
decreases-preamble l = length l.rest
