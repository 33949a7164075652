-- Private: the trees that a list of parts stands for, each part after its operands; `tree_of` cites `tree_of_part`.
use Rattle.std.specs.Prelude.{◌≡◌, ℕ, ◌<◌, List, [], ◌∷◌, ◌++◌, length, slice_index_or}
use Rattle.po_header.specs.declared.parts.Part.{Part}
use Rattle.po_header.specs.declared.parts.Part.TheVariants.{Count, Number, OfCount, OfRemainder}
use Rattle.po_header.specs.declared.parts.Part.TheVariants.{Negate, Combine, Choose}
use Rattle.po_header.specs.declared.token.Operator.TheVariants.{Remainder}
use Rattle.po_header.specs.Grammar.{Tree, Variable, Constant, Negation, Binary, Choice}

abbrev pub tree_at : List Tree → ℕ → Tree
tree_at trees i = slice_index_or trees i Variable

-- the tree of a part after parts with these trees
abbrev pub part_tree : List Tree → Part → Tree
part_tree trees Count = Variable
part_tree trees (Number value) = Constant value
part_tree trees (OfCount operator right) = Binary operator Variable (Constant right)
part_tree trees (OfRemainder operator modulus right) =
    Binary operator (Binary Remainder Variable (Constant modulus)) (Constant right)
part_tree trees (Negate operand) = Negation (tree_at trees operand)
part_tree trees (Combine operator left right) = Binary operator (tree_at trees left) (tree_at trees right)
part_tree trees (Choose condition chosen other) =
    Choice (tree_at trees condition) (tree_at trees chosen) (tree_at trees other)

abbrev pub trees_from : List Tree → List Part → List Tree
trees_from trees [] = trees
trees_from trees (part ∷ parts) = trees_from (trees ++ (part_tree trees part ∷ [])) parts

-- the trees of all parts
abbrev pub trees_of : List Part → List Tree
trees_of parts = trees_from [] parts

-- the tree of the part with this index
abbrev pub tree_of_part : List Part → ℕ → Tree
tree_of_part parts i = tree_at (trees_of parts) i

-- parts were appended, and the one with this index stands for this tree
pub record Builds (old new : List Part) (i : ℕ) (tree : Tree) : Type 0 where
  pub more : List Part
  pub grown : new ≡ old ++ more
  pub there : i < length new
  pub is : tree_of_part new i ≡ tree
