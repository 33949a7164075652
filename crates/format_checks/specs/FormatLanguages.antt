-- Formats of each language: their arguments, and when two formats agree.
use Rattle.std.specs.Prelude.{ℕ, Bool, true, false, List, Option, Some, None, MatchOption}
use Rattle.std.specs.Option.{option_map_or}
use Rattle.format_arguments.specs.declared.FormatFault.{FormatFault}
use Rattle.format_arguments.specs.declared.FormatFault.TheVariants.{Invalid, Memory}
use Rattle.format_arguments.specs.declared.Strictness.{Strictness}
use Rattle.format_arguments.specs.Arguments as arguments
use Rattle.format_arguments.specs.Arguments.{Argument}
use Rattle.numbered_arguments.specs.declared.Numbered as code_numbered
use Rattle.numbered_arguments.specs.NumberedArguments as numbered_arguments
use Rattle.format_flags.specs.declared.languages.Language.{Language}
use Rattle.format_flags.specs.declared.languages.Language.TheVariants.{ObjectiveC, Python, PythonBrace, Java}
use Rattle.format_flags.specs.declared.languages.Language.TheVariants.{JavaPrintf, CSharp, JavaScript, Shell, Awk, Lua}
use Rattle.format_flags.specs.declared.languages.Language.TheVariants.{ObjectPascal, Smalltalk, Qt, QtPlural, Kde}
use Rattle.format_flags.specs.declared.languages.Language.TheVariants.{Librep, KdeKuit, Boost, Scheme, Lisp, Tcl}
use Rattle.format_flags.specs.declared.languages.Language.TheVariants.{Perl, PerlBrace, Php, GccInternal, Ycp, Ruby}
use Rattle.format_flags.specs.declared.languages.Language.TheVariants.{GfcInternal}
use Rattle.python_format.specs.Format as python
use Rattle.python_brace_format.specs.BraceFormat as brace
use Rattle.python_brace_format.specs.BraceAgreement as brace_agreement
use Rattle.php_format.specs.PhpFormat as php
use Rattle.ruby_format.specs.RubyFormat as ruby
use Rattle.named_formats.specs.declared.Notation.TheVariants as names
use Rattle.named_formats.specs.NameFormat as named_formats
use Rattle.numbered_formats.specs.declared.Notation.{Notation as NumberNotation}
use Rattle.numbered_formats.specs.declared.Notation.TheVariants as numbers
use Rattle.numbered_formats.specs.NumberFormat as numbered_formats
use Rattle.numbered_formats.specs.NumberAgreement as number_agreement
use Rattle.script_formats.specs.declared.Notation.{Notation as ScriptNotation}
use Rattle.script_formats.specs.declared.Notation.TheVariants as scripts
use Rattle.script_formats.specs.ScriptFormat as script_formats
use Rattle.script_formats.specs.ScriptAgreement as script_agreement
use Rattle.objc_format.specs.declared.ObjcFault.TheVariants as objc_faults
use Rattle.objc_format.specs.ObjcFormat as objc_format
use Rattle.java_formats.specs.JavaFormat as java_formats
use Rattle.java_printf_format.specs.PrintfFormat as java_printf
use Rattle.csharp_format.specs.CSharpFormat as csharp
use Rattle.librep_format.specs.LibrepFormat as librep
use Rattle.kuit_formats.specs.KuitFormat as kuit
use Rattle.gcc_internal_format.specs.GccFormat as gcc_internal
use Rattle.gfc_internal_format.specs.GfcFormat as gfc_internal
use Rattle.csharp_format.specs.CSharpAgreement as csharp_agreement
use Rattle.lisp_formats.specs.declared.Kind as code_placed
use Rattle.lisp_formats.specs.declared.LispFault.TheVariants as lisp_faults
use Rattle.lisp_formats.specs.declared.Notation.{Notation as LispNotation}
use Rattle.lisp_formats.specs.declared.Notation.TheVariants as lisps
use Rattle.lisp_formats.specs.LispFormat as lisp_formats
use Rattle.lisp_formats.specs.LispAgreement as lisp_agreement

-- ---- arguments with names, or in the order of the text

-- the text is a format of the language that asks for these arguments
abbrev pub ListsNamed : Language → List ℕ → List Argument → Type 0
ListsNamed Python text asked = python.HasSignature text asked
ListsNamed PythonBrace text asked = brace.HasSignature text asked
ListsNamed Ruby text asked = ruby.HasSignature text asked
ListsNamed Shell text asked = named_formats.HasSignature names.Shell text asked
ListsNamed PerlBrace text asked = named_formats.HasSignature names.PerlBrace text asked
ListsNamed _ text asked = ⊥

-- it has this fault; Memory says nothing about the text
abbrev pub FailsNamed : Language → List ℕ → FormatFault → Type 0
FailsNamed language text Invalid = (asked : List Argument) → ¬ ListsNamed language text asked
FailsNamed language text Memory = Unit {0}

abbrev pub named_agree : Language → List Argument → List Argument → Strictness → Bool
named_agree PythonBrace original translation rule = brace_agreement.agree original translation rule
named_agree PerlBrace original translation rule = named_formats.agree names.PerlBrace original translation rule
named_agree _ original translation rule = arguments.agree original translation rule

-- ---- arguments with numbers

-- a language of script_formats
abbrev pub script_of : Language → Option ScriptNotation
script_of JavaScript = Some scripts.JavaScript
script_of Awk = Some scripts.Awk
script_of Lua = Some scripts.Lua
script_of ObjectPascal = Some scripts.ObjectPascal
script_of Boost = Some scripts.Boost
script_of Tcl = Some scripts.Tcl
script_of Perl = Some scripts.Perl
script_of _ = None

-- a language of numbered_formats
abbrev pub number_of : Language → Option NumberNotation
number_of Smalltalk = Some numbers.Smalltalk
number_of Qt = Some numbers.Qt
number_of QtPlural = Some numbers.QtPlural
number_of Kde = Some numbers.Kde
number_of Ycp = Some numbers.Ycp
number_of _ = None

-- another language
abbrev pub ListsOther : Language → List ℕ → List code_numbered.Numbered → Type 0
ListsOther ObjectiveC text asked = objc_format.HasSignature text asked
ListsOther Java text asked = java_formats.HasSignature text asked
ListsOther JavaPrintf text asked = java_printf.HasSignature text asked
ListsOther CSharp text asked = csharp.HasSignature text asked
ListsOther Librep text asked = librep.HasSignature text asked
ListsOther KdeKuit text asked = kuit.HasSignature text asked
ListsOther Php text asked = php.HasSignature text asked
ListsOther GccInternal text asked = gcc_internal.HasSignature text asked
ListsOther GfcInternal text asked = gfc_internal.HasSignature text asked
ListsOther _ text asked = ⊥

-- the text is a format of the language that asks for these arguments
abbrev pub ListsNumbered : Language → List ℕ → List code_numbered.Numbered → Type 0
ListsNumbered language text asked = MatchOption (script_of language)
    (MatchOption (number_of language) (ListsOther language text asked)
    (λ notation. numbered_formats.HasSignature notation text asked))
    (λ notation. script_formats.HasSignature notation text asked)

abbrev pub FailsNumbered : Language → List ℕ → FormatFault → Type 0
FailsNumbered language text Invalid = (asked : List code_numbered.Numbered) → ¬ ListsNumbered language text asked
FailsNumbered language text Memory = Unit {0}

abbrev pub others_agree : Language → List code_numbered.Numbered → List code_numbered.Numbered → Strictness → Bool
others_agree CSharp original translation rule = csharp_agreement.agree original translation rule
others_agree GccInternal original translation rule = gcc_internal.agree original translation rule
others_agree GfcInternal original translation rule = gfc_internal.agree original translation rule
others_agree KdeKuit original translation rule = number_agreement.agree numbers.Kde original translation rule
others_agree _ original translation rule = numbered_arguments.agree original translation rule

abbrev pub numbered_agree : Language → List code_numbered.Numbered → List code_numbered.Numbered → Strictness → Bool
numbered_agree language original translation rule =
    option_map_or (λ notation. script_agreement.agree notation original translation rule) (script_of language)
    (option_map_or (λ notation. number_agreement.agree notation original translation rule) (number_of language)
    (others_agree language original translation rule))

-- ---- arguments by their places alone

-- a language of lisp_formats
abbrev pub lisp_of : Language → Option LispNotation
lisp_of Scheme = Some lisps.Scheme
lisp_of Lisp = Some lisps.Lisp
lisp_of _ = None

-- the text is a format of the language that asks for these arguments
abbrev pub ListsPlaced : Language → List ℕ → List code_placed.Kind → Type 0
ListsPlaced language text asked =
    MatchOption (lisp_of language) ⊥ (λ notation. lisp_formats.HasSignature notation text asked)

-- ---- all

-- whether the arguments of the language's formats have names, or the order of the text
abbrev pub is_named : Language → Bool
is_named Python = true
is_named PythonBrace = true
is_named Ruby = true
is_named Shell = true
is_named PerlBrace = true
is_named _ = false

-- the arguments of a format: by their names or in the order of the text, by their numbers, or by their places alone
pub data Asked : Type 0 where
  Named : (asked : List Argument) → Asked
  Numbered : (asked : List code_numbered.Numbered) → Asked
  Placed : (asked : List code_placed.Kind) → Asked

-- the text is a format of the language that asks for these arguments; of languages that aren't checked yet there are no
-- formats
abbrev pub Lists : Language → List ℕ → Asked → Type 0
Lists language text (Named asked) = ListsNamed language text asked
Lists language text (Numbered asked) = ListsNumbered language text asked
Lists language text (Placed asked) = ListsPlaced language text asked

abbrev pub HasFault : Language → List ℕ → FormatFault → Type 0
HasFault language text Invalid = (asked : Asked) → ¬ Lists language text asked
HasFault language text Memory = Unit {0}

abbrev pub is_objc : Language → Bool
is_objc ObjectiveC = true
is_objc _ = false

-- of a language that is none of lisp_formats
abbrev pub IsOtherUnread : Language → List ℕ → Type 0
IsOtherUnread ObjectiveC text = objc_format.IsUnread text
IsOtherUnread _ text = ⊥

-- the text is not read here: it may be a format of the language
abbrev pub IsUnread : Language → List ℕ → Type 0
IsUnread language text = MatchOption (lisp_of language) (IsOtherUnread language text)
    (λ notation. lisp_formats.IsUnread notation text)

abbrev pub IsNoFormat : Language → List ℕ → Type 0
IsNoFormat language text = ((asked : Asked) → ¬ Lists language text asked) × ¬ IsUnread language text

-- what a text is read as
pub data Reading : Type 0 where
  Format : (asked : Asked) → Reading
  NoFormat : Reading
  Unread : Reading

abbrev pub IsReading : Language → List ℕ → Reading → Type 0
IsReading language text (Format asked) = Lists language text asked
IsReading language text NoFormat = IsNoFormat language text
IsReading language text Unread = IsUnread language text

abbrev pub IsPlacedReading : LispNotation → List ℕ → Reading → Type 0
IsPlacedReading notation text (Format (Placed asked)) = lisp_formats.HasSignature notation text asked
IsPlacedReading notation text (Format _) = ⊥
IsPlacedReading notation text NoFormat = lisp_formats.HasFault notation text lisp_faults.Invalid
IsPlacedReading notation text Unread = lisp_formats.IsUnread notation text

abbrev pub IsObjcReading : List ℕ → Reading → Type 0
IsObjcReading text (Format (Numbered asked)) = objc_format.HasSignature text asked
IsObjcReading text (Format _) = ⊥
IsObjcReading text NoFormat = objc_format.HasFault text objc_faults.Invalid
IsObjcReading text Unread = objc_format.IsUnread text

abbrev pub agree : Language → Asked → Asked → Strictness → Bool
agree language (Named original) (Named translation) rule = named_agree language original translation rule
agree language (Numbered original) (Numbered translation) rule = numbered_agree language original translation rule
agree language (Placed original) (Placed translation) rule = lisp_agreement.agree original translation rule
agree language _ _ rule = false
