use Rattle.po_header.proofs.Kit.{ap, sym, ◌∙◌, refl, node_tree}
use Rattle.po_header.proofs.PartLemmas.{IfOk-map, builds_binary, builds_choice}
use Rattle.po_header.proofs.tree.Node.+add_parts.Goals as goal

pub returns-in_ok-right-in-Binary : goal.returns-in_ok-right-in-Binary
returns-in_ok-right-in-Binary t c =
    IfOk-map c.add-in-Binary.result
    (λ k h. builds_binary c.args.parts.now.items c.add_parts-in-Binary.new.parts.items
    c.add_parts-in-Binary-2.new.parts.items _ c.in-Binary.operator c.in_ok-left-in-Binary.left
    c.in_ok-right-in-Binary.right k
    (node_tree c.deref-in-Binary.result.now) (node_tree c.deref-in-Binary-2.result.now) (node_tree c.args.self.now)
    c.in_ok-left-in-Binary.ensures c.in_ok-right-in-Binary.ensures h
    (sym (ap node_tree c.in-Binary.is ∙ rw (c.deref-in-Binary.ensures, c.deref-in-Binary-2.ensures) refl)))
    c.add-in-Binary.ensures

pub returns-in_ok-other-in-Choose : goal.returns-in_ok-other-in-Choose
returns-in_ok-other-in-Choose t c =
    IfOk-map c.add-in-Choose.result
    (λ k h. builds_choice c.args.parts.now.items c.add_parts-in-Choose.new.parts.items
    c.add_parts-in-Choose-2.new.parts.items c.add_parts-in-Choose-3.new.parts.items _
    c.in_ok-condition-in-Choose.condition c.in_ok-chosen-in-Choose.chosen c.in_ok-other-in-Choose.other k
    (node_tree c.deref-in-Choose.result.now) (node_tree c.deref-in-Choose-2.result.now)
    (node_tree c.deref-in-Choose-3.result.now) (node_tree c.args.self.now) c.in_ok-condition-in-Choose.ensures
    c.in_ok-chosen-in-Choose.ensures c.in_ok-other-in-Choose.ensures h
    (sym (ap node_tree c.in-Choose.is ∙ rw (
      c.deref-in-Choose.ensures,
      c.deref-in-Choose-2.ensures,
      c.deref-in-Choose-3.ensures,
    ) refl)))
    c.add-in-Choose.ensures
