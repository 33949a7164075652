-- Arguments that a format asks for, each with a name or without one, and when those of two formats agree.
use Rattle.std.specs.Prelude.{ℕ, Bool, true, false, not, ◌&&◌, ◌||◌, ◌==◌, if◌then◌else◌, List, Option, Some, is_some}
use Rattle.std.specs.Prelude.{is_none, length, zip, ◌≡◌, ◌⊎◌, Contains}
use Rattle.std.specs.List.{list_all, list_any}
use Rattle.std.specs.Str.{bytes_eq}
use Rattle.format_arguments.specs.declared.Kind.{Kind}
use Rattle.format_arguments.specs.declared.Kind.TheVariants.{Any, Percent, Character, Text, Integer, Float}
use Rattle.format_arguments.specs.declared.Strictness.{Strictness}
use Rattle.format_arguments.specs.declared.Strictness.TheVariants.{Same, Lenient}

pub record Argument : Type 0 where
  pub name : Option (List ℕ)
  pub kind : Kind

-- ---- one argument and another

abbrev pub is_any : Kind → Bool
is_any Any = true
is_any _ = false

abbrev pub same_kind : Kind → Kind → Bool
same_kind Any Any = true
same_kind Percent Percent = true
same_kind Character Character = true
same_kind Text Text = true
same_kind Integer Integer = true
same_kind Float Float = true
same_kind _ _ = false

-- one object can be both
abbrev pub kinds_fit : Kind → Kind → Bool
kinds_fit one other = is_any one || is_any other || same_kind one other

-- both have a name, and it is the same
abbrev pub names_same : Option (List ℕ) → Option (List ℕ) → Bool
names_same (Some one) (Some other) = bytes_eq one other
names_same _ _ = false

abbrev pub same_name : Argument → Argument → Bool
same_name one other = names_same one.name other.name

-- they have different names, or one object can be both
abbrev pub are_compatible : Argument → Argument → Bool
are_compatible one other = not (same_name one other) || kinds_fit one.kind other.kind

-- every argument of the one is compatible with every one of the other
abbrev pub all_compatible : List Argument → List Argument → Bool
all_compatible ones others = list_all (λ one. list_all (λ other. are_compatible one other) others) ones

-- ---- the arguments of one format

abbrev pub is_named : Argument → Bool
is_named a = is_some a.name

abbrev pub is_unnamed : Argument → Bool
is_unnamed a = is_none a.name

-- all of them have names, or none has; and what is asked for by one name can be one object
abbrev pub is_consistent : List Argument → Bool
is_consistent asked = (list_all is_named asked || list_all is_unnamed asked) && all_compatible asked asked

-- by the name the format asks for one object of this kind: an argument is of it, and each of the name is of it or Any
pub record HasKind (asked : List Argument) (name : List ℕ) (kind : Kind) : Type 0 where
  pub argument : Argument
  pub asked_for : Contains asked argument
  pub named : argument.name ≡ Some name
  pub kind_is : argument.kind ≡ kind
  pub others : (a : Argument) → Contains asked a → a.name ≡ Some name → (a.kind ≡ kind) ⊎ (a.kind ≡ Any)

-- ---- the arguments of two formats

-- one has the other's name, and its kind, unless that is Any
abbrev pub stands_for : Argument → Argument → Bool
stands_for other one = same_name one other && (is_any one.kind || same_kind one.kind other.kind)

-- each of the ones has another that stands for it
abbrev pub are_covered : List Argument → List Argument → Bool
are_covered ones others = list_all (λ one. list_any (λ other. stands_for other one) others) ones

-- each of the ones has another of its name
abbrev pub named_in : List Argument → List Argument → Bool
named_in ones others = list_all (λ one. list_any (λ other. same_name one other) others) ones

-- the names are the same, and so is the kind that each has; or, leniently, the translation leaves names out, and one
-- object can be what both ask for by a name
abbrev pub named_agree : List Argument → List Argument → Strictness → Bool
named_agree original translation Same = are_covered original translation && are_covered translation original
named_agree original translation Lenient =
    named_in translation original && all_compatible translation original

abbrev pub kinds_agree : Strictness → Kind → Kind → Bool
kinds_agree Same one other = same_kind one other
kinds_agree Lenient one other = kinds_fit one other

-- as many, and each agrees with the one in its place
abbrev pub unnamed_agree : List Argument → List Argument → Strictness → Bool
unnamed_agree original translation rule =
    (length original == length translation)
    && list_all (λ pair. kinds_agree rule pair.0.kind pair.1.kind) (zip original translation)

abbrev pub agree : List Argument → List Argument → Strictness → Bool
agree original translation rule =
    if list_any is_named original || list_any is_named translation then named_agree original translation rule
    else unnamed_agree original translation rule
