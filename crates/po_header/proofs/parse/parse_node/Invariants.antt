use Rattle.std.proofs.Common.{length}
use Rattle.po_header.proofs.Running.{HasRead}
use Rattle.po_header.proofs.parse.parse_node.Given as goal

abbrev pub invariant-tokens : goal.invariant-tokens
invariant-tokens l = HasRead l.text l.rest l.waiting.items l.operand

abbrev pub decreases-tokens : goal.decreases-tokens
decreases-tokens l = length l.rest
