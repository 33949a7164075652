-- When the arguments of two formats agree, as GNU gettext has it.
pub use Rattle.numbered_arguments.specs.NumberedArguments.{of_kind}
use Rattle.std.specs.Prelude.{ℕ, Bool, true, not, ◌&&◌, ◌||◌, ◌==◌, List, Option, None, Some}
use Rattle.std.specs.List.{list_all, find}
use Rattle.numbered_arguments.specs.declared.Kind.TheVariants.{Any, Text}
use Rattle.format_arguments.specs.declared.Strictness.{Strictness}
use Rattle.format_arguments.specs.declared.Strictness.TheVariants.{Lenient}
use Rattle.numbered_arguments.specs.NumberedKinds.{same_kind}
use Rattle.numbered_arguments.specs.declared.Numbered.{Numbered}
use Rattle.numbered_arguments.specs.declared.index.Index.{Index}
use Rattle.numbered_arguments.specs.NumberedArguments as arguments
use Rattle.numbered_arguments.specs.NumberedArguments.{has, are_covered}
use Rattle.numbered_arguments.specs.NumberedIndex.{has_in}
use Rattle.numbered_formats.specs.declared.Notation.{Notation}
use Rattle.numbered_formats.specs.declared.Notation.TheVariants.{Qt, Kde}

-- ---- KDE

-- all that isn't there has the number of this one
abbrev pub one_missing : (Numbered → Bool) → List Numbered → Option Numbered → Bool
one_missing is_there ones None = true
one_missing is_there ones (Some first) = list_all (λ one. is_there one || one.number == first.number) ones

-- all that isn't there has one number
abbrev pub misses_one : (Numbered → Bool) → List Numbered → Bool
misses_one is_there ones = one_missing is_there ones (find (λ one. not (is_there one)) ones)

-- the translation leaves out at most one number, and adds none
abbrev pub kde_leniently : List Numbered → List Numbered → Bool
kde_leniently original translation = are_covered translation original && misses_one (has translation) original

-- ---- Qt

abbrev pub is_number_there : (Numbered → Bool) → Numbered → Bool
is_number_there is_there a = is_there (of_kind Text a) || is_there (of_kind Any a)

-- each of the ones has its number among the others
abbrev pub numbers_covered : List Numbered → List Numbered → Bool
numbers_covered ones others = list_all (is_number_there (has others)) ones

-- each argument can be one of the strings that `arg` takes at once
abbrev pub is_simple : List Numbered → Bool
is_simple asked = list_all (λ a. same_kind a.kind Text) asked

-- the numbers are the same, and where strings do for the original they do for the translation
abbrev pub qt : List Numbered → List Numbered → Bool
qt original translation = (numbers_covered original translation && numbers_covered translation original)
    && (not (is_simple original) || is_simple translation)

-- ---- each language

-- Qt's are compared strictly always; KDE's may leave out one number leniently, and the others' any
abbrev pub agree : Notation → List Numbered → List Numbered → Strictness → Bool
agree Qt original translation rule = qt original translation
agree Kde original translation Lenient = kde_leniently original translation
agree _ original translation rule = arguments.agree original translation rule

-- ---- arguments found in an index

abbrev pub first_missing_in : Index → List Numbered → Option Numbered
first_missing_in index ones = find (λ one. not (has_in index one)) ones

abbrev pub misses_only_in : Index → List Numbered → ℕ → Bool
misses_only_in index ones number = list_all (λ one. has_in index one || one.number == number) ones

abbrev pub misses_one_in : Index → List Numbered → Bool
misses_one_in index ones = misses_one (has_in index) ones

abbrev pub all_in : Index → List Numbered → Bool
all_in index ones = list_all (has_in index) ones

abbrev pub has_number_in : Index → Numbered → Bool
has_number_in index a = is_number_there (has_in index) a

abbrev pub numbers_in : Index → List Numbered → Bool
numbers_in index ones = list_all (is_number_there (has_in index)) ones

abbrev pub kde_by : Index → Index → List Numbered → List Numbered → Bool
kde_by there back original translation = all_in there translation && misses_one_in back original

abbrev pub qt_by : Index → Index → List Numbered → List Numbered → Bool
qt_by there back original translation = (numbers_in back original && numbers_in there translation)
    && (not (is_simple original) || is_simple translation)
