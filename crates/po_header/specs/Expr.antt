-- The tree of an expression (GNU gettext manual, "Plural forms": C syntax).
use Rattle.po_header.specs.declared.expr.PluralExpr.{PluralExpr}
use Rattle.po_header.specs.Grammar.{Tree}
use Rattle.po_header.specs.Formulas.{formula_tree}

abbrev pub tree_of : PluralExpr → Tree
tree_of e = formula_tree e.formula
