-- What is wrong with the forms of an entry that is flagged as formats (GNU gettext manual, "PO Files").
use Rattle.std.specs.Prelude.{◌≡◌, ◌⊎◌, ℕ, ◌+◌, Bool, true, false, if◌then◌else◌, List, [], ◌∷◌, ◌++◌, Option}
use Rattle.std.specs.Prelude.{None, Some}
use Rattle.std.specs.List.{flat_map}
use Rattle.format_arguments.specs.declared.Strictness.{Strictness}
use Rattle.format_flags.specs.declared.languages.Language.{Language}
use Rattle.format_flags.specs.declared.languages.Language.TheVariants.{ObjectiveC, Python, PythonBrace, Java}
use Rattle.format_flags.specs.declared.languages.Language.TheVariants.{JavaPrintf, CSharp, JavaScript, Shell, Awk, Lua}
use Rattle.format_flags.specs.declared.languages.Language.TheVariants.{ObjectPascal, Smalltalk, Qt, QtPlural, Kde}
use Rattle.format_flags.specs.declared.languages.Language.TheVariants.{Librep, KdeKuit, Boost, Scheme, Lisp, Tcl}
use Rattle.format_flags.specs.declared.languages.Language.TheVariants.{Perl, PerlBrace, Php, GccInternal, Ycp, Ruby}
use Rattle.format_flags.specs.declared.languages.Language.TheVariants.{GfcInternal}
use Rattle.format_checks.specs.declared.Difference.{Difference}
use Rattle.format_checks.specs.declared.Difference.TheVariants.{Invalid, Arguments}
use Rattle.format_checks.specs.declared.Difference.TheVariants as differences
use Rattle.format_checks.specs.declared.Fault.{Fault}
use Rattle.format_flags.specs.FormatFlags.{has}
use Rattle.format_checks.specs.FlaggedEntries as entries
use Rattle.format_checks.specs.FlaggedEntries.{Entry, rule_for}
use Rattle.format_checks.specs.FormatLanguages.{Asked, Lists, IsNoFormat, IsUnread, agree, Reading, Format}
use Rattle.format_checks.specs.FormatLanguages.{NoFormat, Unread, IsReading}

-- ---- what is compared

-- a form, and the text that it is compared with
pub record Question : Type 0 where
  pub language : Language
  pub form : ℕ
  pub rule : Strictness
  pub original : List ℕ
  pub translation : List ℕ

abbrev pub question : Entry → List Bool → Language → ℕ → List ℕ → Question
question e often language form translation = record {
  language = language;
  form = form;
  rule = rule_for e often form;
  original = entries.original e;
  translation = translation;
}

-- one for each of the forms, which are counted from this number on
abbrev pub questions_from : Entry → List Bool → Language → ℕ → List (List ℕ) → List Question
questions_from e often language form [] = []
questions_from e often language form (translation ∷ more) =
    question e often language form translation ∷ questions_from e often language (form + 1) more

abbrev pub questions : Entry → List Bool → Language → List Question
questions e often language = questions_from e often language 0 e.forms

abbrev pub flagged_questions : Entry → List Bool → Language → List Question
flagged_questions e often language = if has e.flags language then questions e often language else []

-- the languages whose formats are checked
abbrev pub checked_languages : List Language
checked_languages =
    ObjectiveC ∷ Python ∷ PythonBrace ∷ Java ∷ JavaPrintf ∷ CSharp ∷ JavaScript ∷ Scheme ∷ Lisp ∷ Librep ∷ Ruby
    ∷ Shell ∷ Awk ∷ Lua ∷ ObjectPascal ∷ Smalltalk ∷ Qt ∷ QtPlural ∷ Kde ∷ KdeKuit ∷ Boost ∷ Tcl ∷ Perl ∷ PerlBrace
    ∷ Php ∷ GccInternal ∷ GfcInternal ∷ Ycp ∷ []

-- those of each language that the entry is flagged with
abbrev pub all_questions : Entry → List Bool → List Question
all_questions e often = flat_map (flagged_questions e often) checked_languages

-- ---- what is wrong

-- the form is a format whose arguments agree with these, or it isn't, or it is none, or it is not read here
abbrev pub IsDifference : Language → Strictness → Asked → List ℕ → Option Difference → Type 0
IsDifference language rule original form None =
    (asked : Asked) × Lists language form asked × (agree language original asked rule ≡ true)
IsDifference language rule original form (Some Arguments) =
    (asked : Asked) × Lists language form asked × (agree language original asked rule ≡ false)
IsDifference language rule original form (Some Invalid) = IsNoFormat language form
IsDifference language rule original form (Some differences.Unread) = IsUnread language form

-- an original that is no format is compared with nothing, and with one that is not read here no form is
abbrev pub IsVerdict : Language → Strictness → Reading → List ℕ → Option Difference → Type 0
IsVerdict language rule (Format original) form verdict = IsDifference language rule original form verdict
IsVerdict language rule NoFormat form verdict = verdict ≡ None
IsVerdict language rule Unread form verdict = verdict ≡ Some differences.Unread

abbrev pub HasVerdict : Question → Option Difference → Type 0
HasVerdict q verdict = (original : Reading) × IsReading q.language q.original original
    × IsVerdict q.language q.rule original q.translation verdict

-- nothing is wrong with the form
abbrev pub IsAccepted : Question → Type 0
IsAccepted q = HasVerdict q None

-- ---- the list of faults

abbrev pub fault_of : ℕ → Language → ℕ → Option Difference → Option Fault
fault_of line language form None = None
fault_of line language form (Some difference) =
    Some (record { line = line; language = language; form = form; difference = difference })

abbrev pub list_of : Option Fault → List Fault
list_of None = []
list_of (Some fault) = fault ∷ []

-- these are the faults, in the order of the questions: one for each form with which something is wrong
abbrev pub AreFaults : ℕ → List Question → List Fault → Type 0
AreFaults line [] faults = faults ≡ []
AreFaults line (q ∷ more) faults = (verdict : Option Difference) × (rest : List Fault) × HasVerdict q verdict
    × AreFaults line more rest × (faults ≡ list_of (fault_of line q.language q.form verdict) ++ rest)

-- the faults of the questions were added to a list
abbrev pub AddsFaults : ℕ → List Question → List Fault → List Fault → Type 0
AddsFaults line asked old new = (found : List Fault) × (new ≡ old ++ found) × AreFaults line asked found
