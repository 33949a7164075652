use Rattle.std.proofs.Common.{length}
use Rattle.csharp_format.proofs.CSharpTextLemmas.{HasRead}
use Rattle.csharp_format.proofs.format.signature.Given as goal

abbrev pub invariant-pieces : goal.invariant-pieces
invariant-pieces l = HasRead l.text l.rest l.asked.items

abbrev pub decreases-pieces : goal.decreases-pieces
decreases-pieces l = length l.rest
