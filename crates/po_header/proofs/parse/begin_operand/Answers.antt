use Rattle.po_header.proofs.Kit.{ap, ◌∙◌, stack_of}
use Rattle.po_header.specs.declared.parse.Frame.TheVariants.{Bracket, Bang}
use Rattle.po_header.specs.Stack.{begin}
use Rattle.po_header.proofs.FrameLemmas.{wanting-push}
use Rattle.po_header.proofs.parse.begin_operand.Goals as goal

pub returns-in_ok-push-in-Open-clause-ok : goal.returns-in_ok-push-in-Open-clause-ok
returns-in_ok-push-in-Open-clause-ok c = ap (begin (stack_of c.args.waiting.now.items)) c.in-Open.is
    ∙ wanting-push _ _ Bracket c.in_ok-push-in-Open.ensures.items

pub returns-in_ok-push-in-Bang-clause-ok : goal.returns-in_ok-push-in-Bang-clause-ok
returns-in_ok-push-in-Bang-clause-ok c = ap (begin (stack_of c.args.waiting.now.items)) c.in-Bang.is
    ∙ wanting-push _ _ Bang c.in_ok-push-in-Bang.ensures.items
