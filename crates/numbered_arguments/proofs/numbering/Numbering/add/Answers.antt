use Rattle.std.proofs.Common.{◌++◌, sym, subst, Option}
use Rattle.numbered_arguments.specs.declared.Request.{Request}
use Rattle.numbered_arguments.specs.declared.numbering.Numbering.{Numbering}
use Rattle.numbered_arguments.specs.NumberedArguments.{list_of}
use Rattle.numbered_arguments.specs.NumberingStates.{HasNumbered}
use Rattle.numbered_arguments.proofs.NumberedLemmas.{numbered_next}
use Rattle.numbered_arguments.proofs.numbering.Numbering.add.Goals as goal

pub returns : goal.returns
returns c = λ requests h.
    let new : Numbering = record { asked = c.push.new.self; next = c.number-number.new.self.next } in
    subst (λ (r : Option Request). HasNumbered (requests ++ list_of r) new) (sym c.in-Some.is)
    (numbered_next c.args.self.now new requests c.in-Some.request c.number-number.result
    c.number-number.ensures.number c.number-number.ensures.next
    (cc (c.in_ok-push.ensures.items, c.number-number.ensures.asked)) h)
