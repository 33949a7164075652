-- Private: the tree of an expression in the form in which it is evaluated.
use Rattle.po_header.specs.declared.formula.Formula.{Formula}
use Rattle.po_header.specs.Grammar.{Tree}
use Rattle.po_header.specs.ExprParts.{tree_of_part}

abbrev pub formula_tree : Formula → Tree
formula_tree formula = tree_of_part formula.parts.items formula.root
