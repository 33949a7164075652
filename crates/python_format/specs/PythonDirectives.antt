-- Directives, and what each asks for.
use Rattle.std.specs.Prelude.{◌≡◌, ℕ, Bool, true, false, if◌then◌else◌, List, [], ◌∷◌, ◌++◌, Option, None, Some}
use Rattle.format_arguments.specs.declared.Kind.{Kind}
use Rattle.format_arguments.specs.declared.Kind.TheVariants.{Percent, Integer}
use Rattle.python_format.specs.declared.parts.Amount.{Amount}
use Rattle.python_format.specs.declared.parts.Amount.TheVariants.{Star, Fixed}
use Rattle.format_arguments.specs.Arguments.{Argument}
use Rattle.format_arguments.specs.Bytes.{behind}
use Rattle.python_format.specs.PythonPieces.{percent, is_flag, NameAt, AmountAt, PrecisionAt, behind_modifier, kind_of}

pub record Directive : Type 0 where
  pub name : Option (List ℕ)
  pub width : Amount
  pub precision : Amount
  pub kind : Kind

-- text is `%`, a name, flags, a width, a precision, a length modifier and a conversion, followed by rest
pub record DirectiveAt (d : Directive) (text rest : List ℕ) : Type 0 where
  pub behind_percent : List ℕ
  pub behind_name : List ℕ
  pub behind_width : List ℕ
  pub behind_precision : List ℕ
  pub conversion : ℕ
  pub begins : text ≡ percent ∷ behind_percent
  pub name_at : NameAt d.name behind_percent behind_name
  pub width_at : AmountAt d.width (behind is_flag behind_name) behind_width
  pub precision_at : PrecisionAt d.precision behind_width behind_precision
  pub conversion_at : behind_modifier behind_precision ≡ conversion ∷ rest
  pub kind_is : kind_of conversion d.precision ≡ Some d.kind

abbrev pub argument : Option (List ℕ) → Kind → Argument
argument name kind = record { name = name; kind = kind }

-- a `*` takes the next argument, an integer
abbrev pub amount_asks : Amount → List Argument
amount_asks Star = argument None Integer ∷ []
amount_asks (Fixed is_all_zeros) = []

-- `%%` asks for nothing, but `%(name)%` for something
abbrev pub asks_nothing : Option (List ℕ) → Kind → Bool
asks_nothing None Percent = true
asks_nothing _ _ = false

abbrev pub conversion_asks : Option (List ℕ) → Kind → List Argument
conversion_asks name kind = if asks_nothing name kind then [] else argument name kind ∷ []

abbrev pub asks : Directive → List Argument
asks d = amount_asks d.width ++ amount_asks d.precision ++ conversion_asks d.name d.kind
