-- Private: the tree that a node of the code stands for.
use Rattle.po_header.specs.declared.token.Operator.TheVariants.{Remainder}
use Rattle.po_header.specs.declared.tree.Node.{Node}
use Rattle.po_header.specs.declared.tree.Node.TheVariants.{Count, Number, OfCount, OfRemainder, Not', Binary', Choose'}
use Rattle.po_header.specs.Grammar.{Tree, Variable, Constant, Negation, Binary, Choice}

abbrev pub node_tree : Node → Tree
node_tree Count = Variable
node_tree (Number value) = Constant value
node_tree (OfCount operator right) = Binary operator Variable (Constant right)
node_tree (OfRemainder operator modulus right) =
    Binary operator (Binary Remainder Variable (Constant modulus)) (Constant right)
node_tree (Not' p operand) = Negation (node_tree operand)
node_tree (Binary' operator p left q right) = Binary operator (node_tree left) (node_tree right)
node_tree (Choose' p condition q chosen r other) = Choice (node_tree condition) (node_tree chosen) (node_tree other)
