-- When the arguments of two formats agree.
use Rattle.std.specs.Prelude.{ℕ, nat_lt, Bool, true, false, not, ◌&&◌, ◌==◌, List, length, zip}
use Rattle.std.specs.List.{list_all}
use Rattle.format_arguments.specs.declared.Strictness.{Strictness}
use Rattle.format_arguments.specs.declared.Strictness.TheVariants.{Same, Lenient}
use Rattle.lisp_formats.specs.declared.Kind.{Kind}
use Rattle.lisp_formats.specs.declared.Kind.TheVariants.{Any, Character, OptionalCharacter, Integer, OptionalInteger}
use Rattle.lisp_formats.specs.declared.Kind.TheVariants.{Real, Complex, Nil}

abbrev pub same_kind : Kind → Kind → Bool
same_kind Any Any = true
same_kind Character Character = true
same_kind OptionalCharacter OptionalCharacter = true
same_kind Integer Integer = true
same_kind OptionalInteger OptionalInteger = true
same_kind Real Real = true
same_kind Complex Complex = true
same_kind Nil Nil = true
same_kind _ _ = false

-- each object of a kind is also of another one
abbrev pub is_within : Kind → Kind → Bool
is_within kind Any = true
is_within Character OptionalCharacter = true
is_within Nil OptionalCharacter = true
is_within Integer OptionalInteger = true
is_within Nil OptionalInteger = true
is_within Integer Real = true
is_within Integer Complex = true
is_within Real Complex = true
is_within kind other = same_kind kind other

-- the kinds are the same; leniently, the translation asks for each argument that the original asks for, of a kind that
-- is within the original's, and may ask for more
abbrev pub agree : List Kind → List Kind → Strictness → Bool
agree original translation Same =
    length original == length translation && list_all (λ pair. same_kind pair.0 pair.1) (zip original translation)
agree original translation Lenient = not (nat_lt (length translation) (length original))
    && list_all (λ pair. is_within pair.1 pair.0) (zip original translation)
