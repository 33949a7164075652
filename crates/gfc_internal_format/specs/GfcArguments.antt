-- The arguments of a call: what directives ask for, in the order of its numbers, without the current locus.
use Rattle.std.specs.Prelude.{ℕ, nat_lt, Bool, ◌&&◌, not, if◌then◌else◌, List, [], ◌∷◌, length, Option, None, Some}
use Rattle.std.specs.List.{list_all}
use Rattle.numbered_arguments.specs.declared.Kind.{Kind}
use Rattle.numbered_arguments.specs.declared.Numbered.{Numbered}
use Rattle.numbered_arguments.specs.NumberedArguments.{kind_at, is_consistent}
use Rattle.numbered_arguments.specs.NumberedKinds.{same_kind}
use Rattle.script_formats.specs.ScriptParts.{following_number}
use Rattle.gfc_internal_format.specs.declared.operands.Operand.TheVariants as operands
use Rattle.gfc_internal_format.specs.GfcOperands.{stand_in}

-- ---- in the order of the numbers

abbrev pub kind_before : Option Kind → List Kind → List Kind
kind_before None more = []
kind_before (Some kind) more = kind ∷ more

-- the kinds of this number, the next one and so on, up to the first that isn't asked for, and no more than these are
abbrev pub kinds_from : ℕ → List Numbered → List Numbered → List Kind
kinds_from number [] asked = []
kinds_from number (a ∷ more) asked = kind_before (kind_at number asked)
    (kinds_from (following_number number) more asked)

-- the kinds of the numbers 1, 2 and so on, up to the first that isn't asked for
abbrev pub kinds_of : List Numbered → List Kind
kinds_of asked = kinds_from 1 asked asked

-- it is one of the numbers up to there
abbrev pub is_among : List Kind → Numbered → Bool
is_among kinds a = nat_lt 0 a.number && not (nat_lt (length kinds) a.number)

-- each number has one kind, and none is left out
abbrev pub is_list : List Numbered → Bool
is_list asked = is_consistent asked && list_all (is_among (kinds_of asked)) asked

-- ---- the arguments that a call passes

abbrev pub is_current : Kind → Bool
is_current kind = same_kind kind (stand_in operands.CurrentLocus)

-- the current locus, which no call passes, has number 0
abbrev pub argument : ℕ → Kind → Numbered
argument next kind = record { number = if is_current kind then 0 else next; kind = kind }

-- the numbers of the others close up over it
abbrev pub next_argument : ℕ → Kind → ℕ
next_argument next kind = if is_current kind then next else following_number next

abbrev pub arguments_from : ℕ → List Kind → List Numbered
arguments_from next [] = []
arguments_from next (kind ∷ more) = argument next kind ∷ arguments_from (next_argument next kind) more

abbrev pub arguments : List Numbered → List Numbered
arguments asked = arguments_from 1 (kinds_of asked)
