use Rattle.po_header.proofs.Kit.{ap, ◌∙◌, Operator, Node, node_value}
use Rattle.po_header.specs.TreeValue.{operator_value, either, conjunction}
use Rattle.po_header.proofs.StepLemmas.{IfFound-map, adds_either, adds_both_sides, sides_are}
use Rattle.po_header.proofs.tree.Node.+add_condition.Goals as goal

pub returns-in-Some : goal.returns-in-Some
returns-in-Some t c =
    IfFound-map c.add_condition-in-Or-2.result
    (λ i k. adds_either c.args.steps.now.items c.add_condition-in-Or.new.steps.items _ c.args.self.now
    c.deref-in-Or-2.result.now c.deref-in-Or.result.now c.args.here c.args.there c.in-Some.rest i
    (λ n. ap (λ (node : Node). node_value node n) c.in-Binary.is
    ∙ ap (λ (o : Operator). operator_value o (node_value c.in-Binary.left.value n)
    (node_value c.in-Binary.right.value n))
    c.in-Or.is
    ∙ sides_are either _ _ _ _ n c.deref-in-Or-2.ensures c.deref-in-Or.ensures)
    c.requires.here_stands (rw c.in-Some.is at c.in_ok-rest-in-Or.ensures) k)
    c.add_condition-in-Or-2.ensures

pub returns-in-Some-2 : goal.returns-in-Some-2
returns-in-Some-2 t c =
    IfFound-map c.add_condition-in-And-2.result
    (λ i k. adds_both_sides c.args.steps.now.items c.add_condition-in-And.new.steps.items _ c.args.self.now
    c.deref-in-And-2.result.now c.deref-in-And.result.now c.args.here c.args.there c.in-Some-2.rest i
    (λ n. ap (λ (node : Node). node_value node n) c.in-Binary.is
    ∙ ap (λ (o : Operator). operator_value o (node_value c.in-Binary.left.value n)
    (node_value c.in-Binary.right.value n))
    c.in-And.is
    ∙ sides_are conjunction _ _ _ _ n c.deref-in-And-2.ensures c.deref-in-And.ensures)
    c.requires.there_stands (rw c.in-Some-2.is at c.in_ok-rest-in-And.ensures) k)
    c.add_condition-in-And-2.ensures
