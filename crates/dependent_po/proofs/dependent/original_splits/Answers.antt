use Rattle.std.proofs.Common.{◌++◌, ℕ, List, length, map, ap, ◌∙◌, arith}
use Rattle.dependent_po.specs.SplitMessages.{split_behind, Split}
use Rattle.dependent_po.proofs.dependent.original_splits.Goals as goal

pub add_moved-requires : goal.add_moved-requires
add_moved-requires c = (
  length c.id.result.now,
  rw c.as_slice.ensures.value c.in_ok-own.ensures.within,
  omega (arith, c.front_len.ensures.small, c.id.type_inv),
)

pub returns : goal.returns
returns c = (
  c.in_ok-own.own.items,
  rw c.id.ensures at c.in_ok-own.ensures.parts,
  c.in_ok-add_moved.ensures
      ∙ ap (λ (xs : List Split). xs ++ map (split_behind c.front_len.result) c.as_slice.result.now)
      c.new-found.ensures.items
      ∙ ap (λ (xs : List Split). map (split_behind c.front_len.result) xs) c.as_slice.ensures.value
      ∙ ap (λ (n : ℕ). map (split_behind n) c.in_ok-own.own.items) c.front_len.ensures.is,
)
