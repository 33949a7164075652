-- Directives of PHP's formats, and what each asks for.
use Rattle.std.specs.Prelude.{◌≡◌, ℕ, List, ◌∷◌, Option, None, Some}
use Rattle.std.specs.Char.{is_ascii_digit}
use Rattle.format_arguments.specs.Bytes.{behind}
use Rattle.numbered_arguments.specs.declared.Request.{Request}
use Rattle.php_format.specs.PhpPieces.{percent, NumberAt, FlagsAt, behind_precision, behind_size, kind_of}

-- what follows a width, a precision and a size, each of which may be left out
abbrev pub behind_size_of : List ℕ → List ℕ
behind_size_of text = behind_size (behind_precision (behind is_ascii_digit text))

-- text is `%`, an argument number, flags, a width, a precision, a size and a conversion, followed by rest
pub record RequestAt (r : Request) (text rest : List ℕ) : Type 0 where
  pub behind_percent : List ℕ
  pub behind_number : List ℕ
  pub behind_flags : List ℕ
  pub conversion : ℕ
  pub begins : text ≡ percent ∷ behind_percent
  pub number_at : NumberAt r.number behind_percent behind_number
  pub flags_at : FlagsAt behind_number behind_flags
  pub conversion_at : behind_size_of behind_flags ≡ conversion ∷ rest
  pub kind_is : kind_of conversion ≡ Some r.kind

-- text is `%%`, which asks for nothing, or a directive that asks for an argument, followed by rest
abbrev pub DirectiveAt : Option Request → List ℕ → List ℕ → Type 0
DirectiveAt None text rest = text ≡ percent ∷ (percent ∷ rest)
DirectiveAt (Some r) text rest = RequestAt r text rest
