-- When the arguments of two composite formats agree: GNU gettext compares how many a call has to pass.
use Rattle.std.specs.Prelude.{ℕ, ◌+◌, ◌^◌, ◌%◌, nat_lt, Bool, not, ◌==◌, if◌then◌else◌, List}
use Rattle.std.specs.List.{fold}
use Rattle.format_arguments.specs.declared.Strictness.{Strictness}
use Rattle.format_arguments.specs.declared.Strictness.TheVariants.{Same, Lenient}
use Rattle.numbered_arguments.specs.declared.Numbered.{Numbered}

-- GNU gettext counts modulo 2^32
abbrev pub passed_with : ℕ → Numbered → ℕ
passed_with count a = if nat_lt a.number count then count else (a.number + 1) % 2 ^ 32

-- how many arguments a call has to pass, where the first has number 0
abbrev pub argument_count : List Numbered → ℕ
argument_count asked = fold passed_with 0 asked

-- the calls pass as many; leniently, the translation may do with fewer
abbrev pub agree : List Numbered → List Numbered → Strictness → Bool
agree original translation Same = argument_count original == argument_count translation
agree original translation Lenient = not (nat_lt (argument_count original) (argument_count translation))

-- ---- what agreement says of the call

-- the number doesn't wrap
abbrev pub is_counted : Numbered → Bool
is_counted a = nat_lt a.number 4294967295

-- a call of this many arguments passes it
abbrev pub is_passed : ℕ → Numbered → Bool
is_passed count a = nat_lt a.number count
