-- Directives, cut from a text part by part, each part as long as it can be (C standard, 7.21.6.1, 4 to 9).
use Rattle.std.specs.Prelude.{◌≡◌, ℕ, ◌<◌, length, Bool, true, ◌||◌, ◌==◌, List, ◌∷◌, ◌++◌, Option, None, codes}
use Rattle.std.specs.List.{list_all, list_any}
use Rattle.std.specs.Char.{is_ascii_digit, is_ascii_uppercase}
use Rattle.c_signature.specs.Pieces.{Amount, Modifier, Longest, NumberForm, FlagsForm}
use Rattle.c_signature.specs.Pieces.{WidthForm, PrecisionForm, ModifierForm, percent}
use Rattle.c_signature.specs.Conversions.{Argument, Undefined, Nothing, One, argument_of}

-- what comes before the length modifier
pub record Head : Type 0 where
  pub number : Option ℕ
  pub flags : List ℕ
  pub width : Amount
  pub precision : Amount

pub record Directive : Type 0 where
  pub head : Head
  pub modifier : Modifier
  pub conversion : ℕ

-- the argument of the conversion itself
abbrev pub own_argument : Directive → Argument
own_argument d = argument_of d.conversion d.modifier

-- 7.21.6.1, 4: text is `%`, a number, flags, a width and a precision, followed by rest
pub record HeadAt (head : Head) (text rest : List ℕ) : Type 0 where
  pub behind_percent : List ℕ
  pub behind_number : List ℕ
  pub behind_flags : List ℕ
  pub behind_width : List ℕ
  pub begins : text ≡ percent ∷ behind_percent
  pub number_at : Longest NumberForm head.number behind_percent behind_number
  pub flags_at : Longest FlagsForm head.flags behind_number behind_flags
  pub width_at : Longest WidthForm head.width behind_flags behind_width
  pub precision_at : Longest PrecisionForm head.precision behind_width rest

-- 7.21.6.1, 9: the conversion is defined with its length modifier, and a directive without an argument has no number
abbrev pub IsAllowed : Argument → Option ℕ → Type 0
IsAllowed Undefined number = ⊥
IsAllowed Nothing number = number ≡ None
IsAllowed (One kind) number = Unit {0}

-- 7.21.6.1, 4: text is the length modifier and the conversion of a directive, followed by rest
pub record TailAt (d : Directive) (text rest : List ℕ) : Type 0 where
  pub behind_modifier : List ℕ
  pub modifier_at : Longest ModifierForm d.modifier text behind_modifier
  pub conversion_at : behind_modifier ≡ d.conversion ∷ rest
  pub allowed : IsAllowed (own_argument d) d.head.number

-- text is the directive, followed by rest
pub record DirectiveAt (d : Directive) (text rest : List ℕ) : Type 0 where
  pub behind_head : List ℕ
  pub head : HeadAt d.head text behind_head
  pub tail : TailAt d behind_head rest

-- ---- macros of <inttypes.h> (C standard, 7.8.1), whose sizes differ from system to system

abbrev pub is_name_byte : ℕ → Bool
is_name_byte b = is_ascii_uppercase b || is_ascii_digit b

abbrev pub is_macro_conversion : ℕ → Bool
is_macro_conversion b = list_any (λ letter. b == letter) (codes "diouxX")

-- text begins with `<PRI`, a conversion of integers, capital letters and digits, at least one, and `>`
pub record BeginsMacro (text : List ℕ) : Type 0 where
  pub conversion : ℕ
  pub name : List ℕ
  pub rest : List ℕ
  pub text_is : text ≡ codes "<PRI" ++ conversion ∷ name ++ codes ">" ++ rest
  pub conversion_is : is_macro_conversion conversion ≡ true
  pub name_is : list_all is_name_byte name ≡ true
  pub some : 0 < length name

-- the directive at the front of text names a macro in place of a length modifier and a conversion
pub record NamesMacro (text : List ℕ) : Type 0 where
  pub head : Head
  pub rest : List ℕ
  pub head_at : HeadAt head text rest
  pub begins : BeginsMacro rest

-- a directive begins at the front of text but can't be read
pub record IsUnreadable (text : List ℕ) : Type 0 where
  pub behind : List ℕ
  pub begins : text ≡ percent ∷ behind
  pub none : (d : Directive) (rest : List ℕ) → ¬ DirectiveAt d text rest
