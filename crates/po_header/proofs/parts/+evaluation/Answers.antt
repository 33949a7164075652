use Rattle.po_header.proofs.Kit.{List, length, ap, sym, ◌∙◌, Tree}
use Rattle.std.proofs.lemmas.Bool.{ltb-false}
use Rattle.po_header.specs.declared.parts.Part.{Part}
use Rattle.po_header.specs.TreeValue.{value}
use Rattle.po_header.specs.ExprParts.{part_tree, trees_of}
use Rattle.po_header.proofs.PartLemmas.{built-part, built-past}
use Rattle.po_header.proofs.parts.+evaluation.Goals as goal

pub value_at-returns-in_default : goal.value_at-returns-in_default
value_at-returns-in_default t c =
    sym (ap (λ (tree : Tree). value tree c.args.n)
    (built-past c.args.parts.now c.args.at (ltb-false c.args.at (length c.args.parts.now)
    (sym c.in_default.ensures.lookup.0))))

pub value_at-returns : goal.value_at-returns
value_at-returns t c =
    let h = c.in-Some.ensures.lookup in
    c.part_value.ensures
    ∙ ap (λ (parts : List Part). value (part_tree (trees_of parts) c.in-Some.part.now) c.args.n)
    c.split_at.ensures.front
    ∙ sym (ap (λ (tree : Tree). value tree c.args.n) (built-part c.args.parts.now c.args.at c.in-Some.part.now h.3.0
    (sym h.1)))
