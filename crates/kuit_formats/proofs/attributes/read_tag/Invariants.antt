use Rattle.std.proofs.Common.{length}
use Rattle.kuit_formats.proofs.TagLemmas.{HasReadTo}
use Rattle.kuit_formats.proofs.attributes.read_tag.Given as goal

abbrev pub invariant-parts : goal.invariant-parts
invariant-parts l = HasReadTo l.text l.before l.rest

abbrev pub decreases-parts : goal.decreases-parts
decreases-parts l = length l.rest
