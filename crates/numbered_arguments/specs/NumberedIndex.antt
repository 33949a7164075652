-- The kinds of arguments by number, as an index keeps them.
use Rattle.std.specs.Prelude.{◌≡◌, ℕ, Bool, List, Option}
use Rattle.std.specs.BTreeMap.{get}
use Rattle.std.specs.Ordering.{nat_cmp}
use Rattle.numbered_arguments.specs.declared.Kind.{Kind}
use Rattle.numbered_arguments.specs.declared.Numbered.{Numbered}
use Rattle.numbered_arguments.specs.declared.index.Index.{Index}
use Rattle.numbered_arguments.specs.NumberedArguments.{kind_at, is_kind, is_fit}

abbrev pub kind_in : Index → ℕ → Option Kind
kind_in index number = get nat_cmp index.kinds number

abbrev pub IsIndexOf : Index → List Numbered → Type 0
IsIndexOf index asked = (number : ℕ) → kind_in index number ≡ kind_at number asked

abbrev pub has_in : Index → Numbered → Bool
has_in index a = is_kind (kind_in index a.number) a.kind

abbrev pub fits_by : Index → Numbered → Bool
fits_by index a = is_fit (kind_in index a.number) a.kind
