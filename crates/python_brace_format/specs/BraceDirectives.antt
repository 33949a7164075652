-- Directives of Python's brace formats, and what each asks for.
use Rattle.std.specs.Prelude.{◌≡◌, ℕ, List, [], ◌∷◌, ◌++◌, Option, None, Some}
use Rattle.format_arguments.specs.declared.Kind.TheVariants.{Any}
use Rattle.format_arguments.specs.Arguments.{Argument}
use Rattle.python_brace_format.specs.BraceFields.{FieldAt}
use Rattle.python_brace_format.specs.BraceSpecifiers.{open_brace, close_brace, FormatAt}

-- text is a replacement field, followed by rest: braces around a field and its format, all of which is its name
pub record ReplacementAt (name text rest : List ℕ) : Type 0 where
  pub inner : List ℕ
  pub behind_field : List ℕ
  pub begins : text ≡ open_brace ∷ inner
  pub field_at : FieldAt inner behind_field
  pub format_at : FormatAt behind_field (close_brace ∷ rest)
  pub name_is : inner ≡ name ++ close_brace ∷ rest

-- text is the replacement field of this name, or two opening braces, followed by rest
abbrev pub DirectiveAt : Option (List ℕ) → List ℕ → List ℕ → Type 0
DirectiveAt None text rest = text ≡ open_brace ∷ (open_brace ∷ rest)
DirectiveAt (Some name) text rest = ReplacementAt name text rest

-- two opening braces ask for nothing; a replacement field asks for any object by its name
abbrev pub asks : Option (List ℕ) → List Argument
asks None = []
asks (Some name) = record { name = Some name; kind = Any } ∷ []
