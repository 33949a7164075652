-- Which arguments one format may ask for (GNU gettext manual, "KDE Format Strings").
use Rattle.std.specs.Prelude.{ℕ, zero, suc, ◌+◌, nat_lt, Bool, true, if◌then◌else◌, List}
use Rattle.std.specs.List.{fold}
use Rattle.numbered_arguments.specs.declared.Kind.TheVariants.{Any}
use Rattle.numbered_arguments.specs.declared.Numbered.{Numbered}
use Rattle.numbered_arguments.specs.declared.index.Index.{Index}
use Rattle.numbered_arguments.specs.NumberedArguments.{has}
use Rattle.numbered_arguments.specs.NumberedIndex.{has_in}
use Rattle.numbered_formats.specs.declared.Notation.{Notation}
use Rattle.numbered_formats.specs.declared.Notation.TheVariants.{Kde}

abbrev pub any : ℕ → Numbered
any number = record { number = number; kind = Any }

-- the largest number that is asked for, or 0
abbrev pub largest_number : List Numbered → ℕ
largest_number asked = fold (λ most a. if nat_lt most a.number then a.number else most) 0 asked

-- how many of the numbers 1 to this one aren't there
abbrev pub left_out : (Numbered → Bool) → ℕ → ℕ
left_out is_there zero = 0
left_out is_there (suc last) = left_out is_there last + (if is_there (any (suc last)) then 0 else 1)

abbrev pub leaves_out_one_in : Index → ℕ → Bool
leaves_out_one_in index last = nat_lt (left_out (has_in index) last) 2

-- at most one of the numbers up to the largest isn't asked for
abbrev pub leaves_out_one : List Numbered → Bool
leaves_out_one asked = nat_lt (left_out (has asked) (largest_number asked)) 2

abbrev pub fit : Notation → List Numbered → Bool
fit Kde asked = leaves_out_one asked
fit _ asked = true
