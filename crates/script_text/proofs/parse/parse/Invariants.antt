use Rattle.std.proofs.Common.{length}
use Rattle.script_text.specs.Gathering.{HasParsed, so_far}
use Rattle.script_text.proofs.parse.parse.Given as goal

abbrev pub invariant-lines : goal.invariant-lines
invariant-lines l = HasParsed l.text l.workers (so_far l.said.items) l.rest l.number

abbrev pub decreases-lines : goal.decreases-lines
decreases-lines l = length l.rest
