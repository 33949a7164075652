use Rattle.po_header.proofs.Kit.{◌≡◌, stack_of, node_tree, negated_operand}
use Rattle.std.proofs.Common.{vec_len}
use Rattle.po_header.proofs.parse.negate.Given as goal

abbrev pub invariant-frames : goal.invariant-frames
invariant-frames l = negated_operand (stack_of l.fn.waiting.items) (node_tree l.fn.operand)
    ≡ negated_operand (stack_of l.waiting.items) (node_tree l.operand)

abbrev pub decreases-frames : goal.decreases-frames
decreases-frames l = vec_len l.waiting
