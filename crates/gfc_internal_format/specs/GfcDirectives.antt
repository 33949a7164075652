-- Directives of GNU Fortran's messages, from behind the `%` (GNU gettext manual, "GFC internal Format Strings"; GCC's
-- source: the comment on the directives in fortran/error.c).
pub use Rattle.byte_text.specs.Characters.{percent}
use Rattle.std.specs.Prelude.{◌≡◌, ℕ, ◌==◌, if◌then◌else◌, List, [], ◌∷◌, Option, None, Some, codes}
use Rattle.std.specs.List.{list_any}
use Rattle.numbered_arguments.specs.declared.Request.{Request}
use Rattle.script_formats.specs.ScriptParts.{index_at}
use Rattle.gfc_internal_format.specs.declared.operands.Operand.{Operand}
use Rattle.gfc_internal_format.specs.declared.operands.Operand.TheVariants as operands
use Rattle.gfc_internal_format.specs.GfcOperands.{stand_in}

-- ---- conversions

-- None: there is no such conversion
abbrev pub operand_of : ℕ → Option Operand
operand_of conversion =
    if conversion == 67 then Some operands.CurrentLocus
    else if conversion == 76 then Some operands.Locus
    else if conversion == 99 then Some operands.Character
    else if conversion == 115 then Some operands.Text
    else if list_any (λ letter. conversion == letter) (codes "di") then Some operands.Int
    else if conversion == 117 then Some operands.Unsigned
    else None

-- behind an `l`
abbrev pub long_operand_of : ℕ → Option Operand
long_operand_of conversion =
    if list_any (λ letter. conversion == letter) (codes "di") then Some operands.Long
    else if conversion == 117 then Some operands.UnsignedLong
    else None

-- ---- directives

abbrev pub request : Option ℕ → Operand → Request
request number operand = record { number = number; kind = stand_in operand }

abbrev pub request_if : Option ℕ → List ℕ → Option Operand → Option (Option Request × List ℕ)
request_if number rest None = None
request_if number rest (Some operand) = Some (Some (request number operand), rest)

abbrev pub behind_l : Option ℕ → List ℕ → Option (Option Request × List ℕ)
behind_l number [] = None
behind_l number (b ∷ more) = request_if number more (long_operand_of b)

abbrev pub behind_number : Option ℕ → List ℕ → Option (Option Request × List ℕ)
behind_number number [] = None
behind_number number (b ∷ more) = if b == 108 then behind_l number more else request_if number more (operand_of b)

abbrev pub from_index : Option (Option ℕ × List ℕ) → Option (Option Request × List ℕ)
from_index None = None
from_index (Some found) = behind_number found.0 found.1

-- what follows the `%`: what the directive asks for, where `%%` asks for nothing, and what follows it
abbrev pub directive : List ℕ → Option (Option Request × List ℕ)
directive [] = None
directive (b ∷ more) = if b == percent then Some (None, more) else from_index (index_at (b ∷ more))

-- text is a `%` and a directive that asks for this, followed by rest
abbrev pub DirectiveAt : Option Request → List ℕ → List ℕ → Type 0
DirectiveAt asked text rest = (inner : List ℕ) × (text ≡ percent ∷ inner) × (directive inner ≡ Some (asked, rest))
