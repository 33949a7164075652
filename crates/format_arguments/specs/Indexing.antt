-- Private: the kinds of arguments by name.
use Rattle.std.specs.Prelude.{◌≡◌, ℕ, Bool, true, false, not, ◌&&◌, ◌||◌, if◌then◌else◌, List, Option, None, Some}
use Rattle.std.specs.Prelude.{is_some}
use Rattle.std.specs.List.{fold}
use Rattle.std.specs.Option.{unwrap_or}
use Rattle.std.specs.BTreeMap.{get_by}
use Rattle.std.specs.Cmp.Lexicographic.{slice_cmp}
use Rattle.std.specs.Ordering.{nat_cmp}
use Rattle.format_arguments.specs.declared.Kind.{Kind}
use Rattle.format_arguments.specs.declared.Kind.TheVariants.{Any, Percent, Character, Text, Integer, Float}
use Rattle.format_arguments.specs.declared.kinds.Kinds.{Kinds}
use Rattle.format_arguments.specs.declared.index.Index.{Index}
use Rattle.format_arguments.specs.Arguments.{Argument, is_any, same_kind, names_same}

-- ---- sets of kinds

abbrev pub no_kinds : Kinds
no_kinds = record { percent = false; character = false; text = false; integer = false; float = false }

abbrev pub has : Kinds → Kind → Bool
has kinds Any = false
has kinds Percent = kinds.percent
has kinds Character = kinds.character
has kinds Text = kinds.text
has kinds Integer = kinds.integer
has kinds Float = kinds.float

abbrev pub more : Kinds → Kind → Kinds
more kinds Any = kinds
more kinds Percent = record kinds { percent = true }
more kinds Character = record kinds { character = true }
more kinds Text = record kinds { text = true }
more kinds Integer = record kinds { integer = true }
more kinds Float = record kinds { float = true }

abbrev pub stand_for : Kinds → Kind → Bool
stand_for kinds kind = is_any kind || has kinds kind

abbrev pub fit : Kinds → Kind → Bool
fit kinds kind = is_any kind || ((same_kind kind Percent || not kinds.percent)
    && (same_kind kind Character || not kinds.character) && (same_kind kind Text || not kinds.text)
    && (same_kind kind Integer || not kinds.integer) && (same_kind kind Float || not kinds.float))

-- ---- the kinds by a name

abbrev pub add : List ℕ → Option Kinds → Argument → Option Kinds
add name kinds a = if names_same (Some name) a.name then Some (more (unwrap_or kinds no_kinds) a.kind) else kinds

abbrev pub kinds_by : List ℕ → List Argument → Option Kinds
kinds_by name asked = fold (add name) None asked

abbrev pub kinds_in : Index → List ℕ → Option Kinds
kinds_in index name = get_by (λ k. slice_cmp nat_cmp name k.now) index.kinds

abbrev pub IsIndexOf : Index → List Argument → Type 0
IsIndexOf index asked = (name : List ℕ) → kinds_in index name ≡ kinds_by name asked

-- the new index has one more argument
abbrev pub Adds : Index → Index → Argument → Type 0
Adds old new a = (name : List ℕ) → kinds_in new name ≡ add name (kinds_in old name) a

-- ---- one argument and those of an index

abbrev pub fit_if : Kind → Option Kinds → Bool
fit_if kind None = true
fit_if kind (Some kinds) = fit kinds kind

abbrev pub stand_if : Kind → Option Kinds → Bool
stand_if kind None = false
stand_if kind (Some kinds) = stand_for kinds kind

abbrev pub compatible_by : Option (List ℕ) → Kind → Index → Bool
compatible_by None kind index = true
compatible_by (Some name) kind index = fit_if kind (kinds_in index name)

abbrev pub stand_in_by : Option (List ℕ) → Kind → Index → Bool
stand_in_by None kind index = false
stand_in_by (Some name) kind index = stand_if kind (kinds_in index name)

abbrev pub name_by : Option (List ℕ) → Index → Bool
name_by None index = false
name_by (Some name) index = is_some (kinds_in index name)

abbrev pub compatible_in : Argument → Index → Bool
compatible_in one index = compatible_by one.name one.kind index

abbrev pub has_stand_in : Argument → Index → Bool
has_stand_in one index = stand_in_by one.name one.kind index

abbrev pub has_name : Argument → Index → Bool
has_name one index = name_by one.name index
