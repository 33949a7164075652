use Rattle.po_header.proofs.Kit.{ap, ◌∙◌, refl, inr, with_operand}
use Rattle.po_header.proofs.FrameLemmas.{close-bracket, close-other, close-nothing}
use Rattle.po_header.proofs.parse.close_bracket.Goals as goal

pub returns-in_default-clause-err : goal.returns-in_default-clause-err
returns-in_default-clause-err c =
    inr (
      refl,
      close-nothing c.args.waiting.now.items _ (rw c.deref.ensures.value at c.in_default.ensures.value),
    )

pub returns-in_ok-operand-in-Bracket-clause-ok : goal.returns-in_ok-operand-in-Bracket-clause-ok
returns-in_ok-operand-in-Bracket-clause-ok c =
    close-bracket c.args.waiting.now.items c.pop.new.self.items c.args.waiting.now.len c.in-Some.frame.now _
    (rw c.deref.ensures.value at c.in-Some.ensures.value) c.in-Bracket.is c.args.waiting.now.ok.0 c.pop.ensures.rest
    ∙ ap with_operand c.in_ok-operand-in-Bracket.ensures

pub returns-in_default-frame-clause-err : goal.returns-in_default-frame-clause-err
returns-in_default-frame-clause-err c =
    inr (
      refl,
      close-other c.args.waiting.now.items c.in-Some.frame.now _
          (rw c.deref.ensures.value at c.in-Some.ensures.value) c.in_default-frame.not-Bracket,
    )
