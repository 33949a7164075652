use Rattle.po_header.proofs.Kit.{ap, ◌∙◌, refl, Node, node_value}
use Rattle.po_header.proofs.StepLemmas.{IfFound-map, adds_choice}
use Rattle.po_header.proofs.tree.Node.+add_value.Goals as goal

pub returns-in-Some-2 : goal.returns-in-Some-2
returns-in-Some-2 t c =
    IfFound-map c.add_condition.result
    (λ i k. adds_choice c.args.steps.now.items c.add_value.new.steps.items c.add_value-in-Choose.new.steps.items _
    c.args.self.now c.deref-in-Choose-2.result.now c.deref.result.now c.deref-in-Choose.result.now c.in-Some.here
    c.in-Some-2.there i
    (λ n. ap (λ (node : Node). node_value node n) c.in-Choose.is
    ∙ rw (c.deref.ensures, c.deref-in-Choose.ensures, c.deref-in-Choose-2.ensures) refl)
    (rw c.in-Some.is at c.in_ok-here-in-Choose.ensures) (rw c.in-Some-2.is at c.in_ok-there-in-Choose.ensures) k)
    c.add_condition.ensures
