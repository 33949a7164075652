use Rattle.po_header.proofs.Kit.{◌≡◌, stack_of, node_tree, joined_operand}
use Rattle.std.proofs.Common.{vec_len}
use Rattle.po_header.proofs.parse.join_above.Given as goal

abbrev pub invariant-frames : goal.invariant-frames
invariant-frames l = joined_operand l.level (stack_of l.fn.waiting.items) (node_tree l.fn.operand)
    ≡ joined_operand l.level (stack_of l.waiting.items) (node_tree l.operand)

abbrev pub decreases-frames : goal.decreases-frames
decreases-frames l = vec_len l.waiting
