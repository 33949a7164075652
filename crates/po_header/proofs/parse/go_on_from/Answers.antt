use Rattle.po_header.proofs.Kit.{ap, ◌∙◌, Token, stack_of, node_tree}
use Rattle.po_header.specs.declared.parse.Frame.TheVariants.{Left, Condition}
use Rattle.po_header.specs.Stack.{go_on, left_waits, condition_waits}
use Rattle.po_header.proofs.FrameLemmas.{wanting-push}
use Rattle.po_header.proofs.parse.go_on_from.Goals as goal

pub returns-in_ok-push-in-Sign-clause-ok : goal.returns-in_ok-push-in-Sign-clause-ok
returns-in_ok-push-in-Sign-clause-ok c =
    ap (λ (t : Token). go_on (stack_of c.args.waiting.now.items) (node_tree c.args.operand) t) c.in-Sign.is
    ∙ ap (left_waits c.in-Sign.operator) (rw c.level.ensures at c.in_ok-left-in-Sign.ensures)
    ∙ wanting-push _ _ (Left c.in-Sign.operator c.in_ok-left-in-Sign.left) c.in_ok-push-in-Sign.ensures.items

pub returns-in_ok-push-in-Question-clause-ok : goal.returns-in_ok-push-in-Question-clause-ok
returns-in_ok-push-in-Question-clause-ok c =
    ap (λ (t : Token). go_on (stack_of c.args.waiting.now.items) (node_tree c.args.operand) t) c.in-Question.is
    ∙ ap condition_waits c.in_ok-condition-in-Question.ensures
    ∙ wanting-push _ _ (Condition c.in_ok-condition-in-Question.condition) c.in_ok-push-in-Question.ensures.items
