-- What the readers of a directive's parts (C standard, 7.21.6.1, 4) return: the code's enums, and runs of bytes.
use Rattle.std.specs.Prelude.{◌≡◌, ℕ, Bool, true, false, List, [], ◌∷◌, ◌++◌}
use Rattle.std.specs.List.{list_all}
use Rattle.c_signature.specs.declared.parts.Amount as code_amount
use Rattle.c_signature.specs.declared.parts.Amount.TheVariants as amounts
use Rattle.c_signature.specs.declared.parts.Modifier as code_modifier
use Rattle.c_signature.specs.declared.parts.Modifier.TheVariants as modifiers
use Rattle.c_signature.specs.declared.conversions.Argument as code_argument
use Rattle.c_signature.specs.declared.conversions.Argument.TheVariants as arguments
use Rattle.c_signature.specs.Pieces.{Amount, Fixed, Asked, Modifier, Of, LongDouble}
use Rattle.c_signature.specs.Conversions.{Argument, Undefined, Nothing, One}

-- ---- the enums of the code

abbrev pub amount_view : code_amount.Amount → Amount
amount_view amounts.Fixed = Fixed
amount_view (amounts.Asked number) = Asked number

abbrev pub modifier_view : code_modifier.Modifier → Modifier
modifier_view (modifiers.Of size) = Of size
modifier_view modifiers.LongDouble = LongDouble

abbrev pub argument_view : code_argument.Argument → Argument
argument_view arguments.Undefined = Undefined
argument_view arguments.Nothing = Nothing
argument_view (arguments.One kind) = One kind

-- ---- runs of bytes

-- no byte that passes the test is at the front
abbrev pub Stops : (ℕ → Bool) → List ℕ → Type 0
Stops test [] = Unit {0}
Stops test (b ∷ more) = test b ≡ false

-- text is the longest run of bytes that pass the test, followed by rest
pub record IsRun (test : ℕ → Bool) (text run rest : List ℕ) : Type 0 where
  pub text_is : text ≡ run ++ rest
  pub passes : list_all test run ≡ true
  pub stops : Stops test rest
