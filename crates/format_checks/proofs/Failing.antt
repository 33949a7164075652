-- Why a text is no format: what the crate of its language says.
use Rattle.std.proofs.Common.{◌≡◌, ℕ, List, Option, Some, None, subst}
use Rattle.std.specs.Prelude.{MatchOption}
use Rattle.format_arguments.specs.declared.FormatFault.{FormatFault}
use Rattle.format_arguments.specs.declared.FormatFault.TheVariants.{Invalid, Memory}
use Rattle.format_flags.specs.declared.languages.Language.{Language}
use Rattle.format_flags.specs.declared.languages.Language.TheVariants.{Python, PythonBrace, Shell, PerlBrace}
use Rattle.format_flags.specs.declared.languages.Language.TheVariants.{Java, JavaPrintf, CSharp, Librep, KdeKuit, Php}
use Rattle.format_flags.specs.declared.languages.Language.TheVariants.{GccInternal, GfcInternal, Ruby}
use Rattle.python_format.specs.Format as python_format
use Rattle.python_brace_format.specs.BraceFormat as brace_format
use Rattle.php_format.specs.PhpFormat as php_format
use Rattle.ruby_format.specs.RubyFormat as ruby_format
use Rattle.named_formats.specs.declared.Notation.TheVariants as names
use Rattle.named_formats.specs.NameFormat as named_formats
use Rattle.numbered_formats.specs.declared.Notation.{Notation as NumberNotation}
use Rattle.numbered_formats.specs.NumberFormat as numbered_formats
use Rattle.script_formats.specs.declared.Notation.{Notation as ScriptNotation}
use Rattle.script_formats.specs.ScriptFormat as script_formats
use Rattle.java_formats.specs.JavaFormat as java_formats
use Rattle.java_printf_format.specs.PrintfFormat as printf_format
use Rattle.csharp_format.specs.CSharpFormat as csharp_format
use Rattle.librep_format.specs.LibrepFormat as librep_format
use Rattle.kuit_formats.specs.KuitFormat as kuit_formats
use Rattle.gcc_internal_format.specs.GccFormat as gcc_format
use Rattle.gfc_internal_format.specs.GfcFormat as gfc_format
use Rattle.format_checks.specs.FormatLanguages.{FailsNamed, FailsNumbered, ListsOther, number_of, script_of}

pub python : (text : List ℕ) (fault : FormatFault) → python_format.HasFault text fault → FailsNamed Python text fault
python text Invalid none = none
python text Memory none = none

pub brace : (text : List ℕ) (fault : FormatFault) → brace_format.HasFault text fault
    → FailsNamed PythonBrace text fault
brace text Invalid none = none
brace text Memory none = none

pub ruby : (text : List ℕ) (fault : FormatFault) → ruby_format.HasFault text fault → FailsNamed Ruby text fault
ruby text Invalid none = none
ruby text Memory none = none

pub shell : (text : List ℕ) (fault : FormatFault) → named_formats.HasFault names.Shell text fault
    → FailsNamed Shell text fault
shell text Invalid none = none
shell text Memory none = none

pub perl_brace : (text : List ℕ) (fault : FormatFault) → named_formats.HasFault names.PerlBrace text fault
    → FailsNamed PerlBrace text fault
perl_brace text Invalid none = none
perl_brace text Memory none = none

pub java : (text : List ℕ) (fault : FormatFault) → java_formats.HasFault text fault → FailsNumbered Java text fault
java text Invalid none = none
java text Memory none = none

pub java_printf : (text : List ℕ) (fault : FormatFault) → printf_format.HasFault text fault
    → FailsNumbered JavaPrintf text fault
java_printf text Invalid none = none
java_printf text Memory none = none

pub csharp : (text : List ℕ) (fault : FormatFault) → csharp_format.HasFault text fault
    → FailsNumbered CSharp text fault
csharp text Invalid none = none
csharp text Memory none = none

pub librep : (text : List ℕ) (fault : FormatFault) → librep_format.HasFault text fault
    → FailsNumbered Librep text fault
librep text Invalid none = none
librep text Memory none = none

pub kuit : (text : List ℕ) (fault : FormatFault) → kuit_formats.HasFault text fault
    → FailsNumbered KdeKuit text fault
kuit text Invalid none = none
kuit text Memory none = none

pub php : (text : List ℕ) (fault : FormatFault) → php_format.HasFault text fault → FailsNumbered Php text fault
php text Invalid none = none
php text Memory none = none

pub gcc_internal : (text : List ℕ) (fault : FormatFault) → gcc_format.HasFault text fault
    → FailsNumbered GccInternal text fault
gcc_internal text Invalid none = none
gcc_internal text Memory none = none

pub gfc_internal : (text : List ℕ) (fault : FormatFault) → gfc_format.HasFault text fault
    → FailsNumbered GfcInternal text fault
gfc_internal text Invalid none = none
gfc_internal text Memory none = none

pub script : (language : Language) (notation : ScriptNotation) (text : List ℕ) (fault : FormatFault)
    → script_of language ≡ Some notation → script_formats.HasFault notation text fault
    → FailsNumbered language text fault
script language notation text Invalid e none = λ asked x. none asked (subst (λ (o : Option ScriptNotation).
    MatchOption o (MatchOption (number_of language) (ListsOther language text asked) (λ n.
    numbered_formats.HasSignature n text asked)) (λ n. script_formats.HasSignature n text asked)) e x)
script language notation text Memory e none = none

pub number : (language : Language) (notation : NumberNotation) (text : List ℕ) (fault : FormatFault)
    → script_of language ≡ None → number_of language ≡ Some notation
    → numbered_formats.HasFault notation text fault → FailsNumbered language text fault
number language notation text Invalid e h none = λ asked x.
    let here = subst (λ (o : Option ScriptNotation). MatchOption o (MatchOption (number_of language)
    (ListsOther language text asked) (λ n. numbered_formats.HasSignature n text asked)) (λ n.
    script_formats.HasSignature n text asked)) e x in
    none asked (subst (λ (o : Option NumberNotation). MatchOption o (ListsOther language text asked) (λ n.
    numbered_formats.HasSignature n text asked)) h here)
number language notation text Memory e h none = none
