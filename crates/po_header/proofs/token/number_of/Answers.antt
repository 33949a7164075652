use Rattle.po_header.proofs.Kit.{◌∙◌, take_all}
use Rattle.po_header.proofs.TokenLemmas.{limit_next, limit_passed}
use Rattle.po_header.proofs.token.number_of.Goals as goal

pub returns-in-None : goal.returns-in-None
returns-in-None c = limit_passed c.args.digits.now c.loop-digit.digit-index c.loop-digit.value c.loop-digit.invariant
    c.loop-digit-test.true c.in-None.ensures

pub loop-digit-preserved : goal.loop-digit-preserved
loop-digit-preserved c = c.in-Some.ensures ∙ limit_next c.args.digits.now c.loop-digit.digit-index c.loop-digit.value
    c.loop-digit.invariant c.loop-digit-test.true

pub returns : goal.returns
returns c = rw (take_all c.loop-digit.digit-index c.args.digits.now c.loop-digit-test.false) at c.loop-digit.invariant
