-- There is one list of faults.
use Rattle.std.proofs.Common.{◌≡◌, ℕ, Bool, true, false, List, [], ◌∷◌, ◌++◌, Option, None, Some, refl, sym, ap, subst}
use Rattle.std.proofs.Common.{◌∙◌, inl, inr}
use Rattle.std.specs.Prelude.{◌↔◌, MatchOption}
use Rattle.std.specs.List.{AllByRecursion}
use Rattle.format_arguments.specs.declared.Strictness.{Strictness}
use Rattle.format_arguments.proofs.TextLemmas.{one_signature}
use Rattle.python_format.specs.PythonPieces.{percent}
use Rattle.python_format.specs.PythonDirectives as python
use Rattle.python_format.proofs.DirectiveLemmas as python_lemmas
use Rattle.python_brace_format.specs.BraceSpecifiers.{open_brace}
use Rattle.python_brace_format.specs.BraceDirectives as brace
use Rattle.python_brace_format.proofs.DirectiveLemmas as brace_lemmas
use Rattle.format_arguments.specs.Arguments.{Argument}
use Rattle.numbered_arguments.specs.declared.Numbered as code_numbered
use Rattle.numbered_arguments.specs.NumberedArguments.{list_of as requests_of}
use Rattle.numbered_arguments.proofs.NumberedTextLemmas.{one_list as one_list_of}
use Rattle.php_format.specs.PhpDirectives as php
use Rattle.php_format.specs.PhpFormat as php_format
use Rattle.php_format.proofs.PhpDirectiveLemmas as php_lemmas
use Rattle.format_flags.specs.declared.languages.Language.{Language}
use Rattle.format_flags.specs.declared.languages.Language.TheVariants.{Python, PythonBrace, Shell, PerlBrace, Php}
use Rattle.format_flags.specs.declared.languages.Language.TheVariants.{Java, JavaPrintf, CSharp, Librep, KdeKuit}
use Rattle.format_flags.specs.declared.languages.Language.TheVariants.{GccInternal, GfcInternal, ObjectiveC, Ruby}
use Rattle.std.proofs.lemmas.Bool.{cases_Bool}
use Rattle.named_formats.specs.declared.Notation.{Notation as Names}
use Rattle.named_formats.specs.declared.Notation.TheVariants as names
use Rattle.named_formats.specs.NameDirectives as name_directives
use Rattle.named_formats.specs.NameFormat as named_formats
use Rattle.named_formats.proofs.NameDirectiveLemmas as name_lemmas
use Rattle.numbered_formats.specs.declared.Notation.{Notation as Numbers}
use Rattle.numbered_formats.specs.declared.Notation.TheVariants as numbers
use Rattle.numbered_formats.specs.NumberDirectives as number_directives
use Rattle.numbered_formats.specs.NumberFormat as numbered_formats
use Rattle.numbered_formats.proofs.NumberDirectiveLemmas as number_lemmas
use Rattle.script_formats.specs.declared.Notation.{Notation as Scripts}
use Rattle.script_formats.specs.Collecting.{asks as script_asks}
use Rattle.script_formats.specs.ScriptDirectives as script_directives
use Rattle.script_formats.specs.ScriptFormat as script_formats
use Rattle.script_formats.proofs.ScriptDirectiveLemmas as script_lemmas
use Rattle.objc_format.proofs.ObjcTextLemmas as objc_lemmas
use Rattle.java_formats.proofs.ReadingLemmas.{one_list as one_of_java}
use Rattle.java_printf_format.proofs.PrintfTextLemmas.{one_list as one_of_java_printf}
use Rattle.csharp_format.proofs.CSharpTextLemmas.{one_list as one_of_csharp}
use Rattle.ruby_format.proofs.RubyTextLemmas.{one_list as one_of_ruby}
use Rattle.librep_format.proofs.LibrepTextLemmas.{one_list as one_of_librep}
use Rattle.gcc_internal_format.proofs.GccTextLemmas.{one_of_gcc}
use Rattle.gfc_internal_format.proofs.GfcTextLemmas.{one_list as one_of_gfc}
use Rattle.format_checks.specs.declared.Difference.{Difference}
use Rattle.format_checks.specs.declared.Difference.TheVariants.{Invalid, Arguments}
use Rattle.format_checks.specs.declared.Difference.TheVariants as differences
use Rattle.format_checks.specs.declared.Fault.{Fault}
use Rattle.lisp_formats.specs.declared.Kind as code_placed
use Rattle.lisp_formats.specs.declared.Notation.{Notation as LispNotation}
use Rattle.lisp_formats.specs.LispFormat as lisp_formats
use Rattle.lisp_formats.proofs.LispTextLemmas.{one_list as one_of_lisp, read_or_unread}
use Rattle.format_checks.specs.FormatLanguages.{Asked, Named, Numbered, Placed, Lists, agree, script_of, number_of}
use Rattle.format_checks.specs.FormatLanguages.{ListsNamed, ListsOther, ListsPlaced, lisp_of, IsUnread, is_objc}
use Rattle.format_checks.specs.FormatLanguages.{IsOtherUnread, Reading, Format, NoFormat, Unread, IsReading}
use Rattle.format_checks.proofs.FaultLemmas.{one_sort, never_named_lisp, never_numbered_lisp, never_unread}
use Rattle.format_checks.specs.FormatFaults.{Question, IsDifference, IsVerdict, HasVerdict, IsAccepted, fault_of}
use Rattle.format_checks.specs.FormatFaults.{list_of, AreFaults}

of_names : (notation : Names) (text : List ℕ) (a b : List Argument) → named_formats.HasSignature notation text a
    → named_formats.HasSignature notation text b → a ≡ b
of_names notation text a b x y = one_signature (name_directives.mark notation) (name_directives.DirectiveAt notation)
    (name_lemmas.are_directives notation) brace.asks text a b x y

one_named : (language : Language) (text : List ℕ) (a b : List Argument) → ListsNamed language text a
    → ListsNamed language text b → a ≡ b
one_named Python text a b x y =
    one_signature percent python.DirectiveAt python_lemmas.are_directives python.asks text a b x y
one_named PythonBrace text a b x y =
    one_signature open_brace brace.DirectiveAt brace_lemmas.are_directives brace.asks text a b x y
one_named Ruby text a b x y = one_of_ruby text a b x y
one_named Shell text a b x y = of_names names.Shell text a b x y
one_named PerlBrace text a b x y = of_names names.PerlBrace text a b x y
one_named _ text a b x y = absurd x

of_numbers : (notation : Numbers) (text : List ℕ) (a b : List code_numbered.Numbered)
    → numbered_formats.HasSignature notation text a → numbered_formats.HasSignature notation text b → a ≡ b
of_numbers notation text a b x y = one_list_of percent (number_directives.DirectiveAt notation)
    (number_lemmas.are_directives notation) requests_of (numbered_formats.fits notation) text a b x y

one_other : (language : Language) (text : List ℕ) (a b : List code_numbered.Numbered) → ListsOther language text a
    → ListsOther language text b → a ≡ b
one_other ObjectiveC text a b x y = objc_lemmas.one_list text a b x y
one_other Java text a b x y = one_of_java text a b x y
one_other JavaPrintf text a b x y = one_of_java_printf text a b x y
one_other CSharp text a b x y = one_of_csharp text a b x y
one_other Librep text a b x y = one_of_librep text a b x y
one_other KdeKuit text a b x y = of_numbers numbers.Kde text a b x.1 y.1
one_other Php text a b x y =
    one_list_of percent php.DirectiveAt php_lemmas.are_directives requests_of php_format.fits text a b x y
one_other GccInternal text a b x y = one_of_gcc text a b x y
one_other GfcInternal text a b x y = one_of_gfc text a b x y
one_other _ text a b x y = absurd x

-- by the notation of the language, if it has one in script_formats or in numbered_formats
one_by : (script : Option Scripts) (number : Option Numbers) (language : Language) (text : List ℕ)
    (a b : List code_numbered.Numbered)
    → MatchOption script (MatchOption number (ListsOther language text a) (λ n. numbered_formats.HasSignature n text a))
    (λ n. script_formats.HasSignature n text a)
    → MatchOption script (MatchOption number (ListsOther language text b) (λ n. numbered_formats.HasSignature n text b))
    (λ n. script_formats.HasSignature n text b) → a ≡ b
one_by (Some notation) number language text a b x y = one_list_of script_directives.percent
    (script_directives.DirectiveAt notation) (script_lemmas.are_directives notation) script_asks
    (script_formats.fits notation) text a b x y
one_by None (Some notation) language text a b x y = of_numbers notation text a b x y
one_by None None language text a b x y = one_other language text a b x y

-- where a language is one of lisp_formats, which one it is
lisp_found : (found : Option LispNotation) (Other : Type 0) (Has : LispNotation → Type 0) → (Other → ⊥)
    → MatchOption found Other Has → (notation : LispNotation) × (found ≡ Some notation) × Has notation
lisp_found None Other Has none x = absurd (none x)
lisp_found (Some notation) Other Has none x = (notation, refl, x)

placed_found : (language : Language) (text : List ℕ) (asked : List code_placed.Kind) → ListsPlaced language text asked
    → (notation : LispNotation) × (lisp_of language ≡ Some notation) × lisp_formats.HasSignature notation text asked
placed_found language text asked x =
    lisp_found (lisp_of language) ⊥ (λ notation. lisp_formats.HasSignature notation text asked) (λ none. none) x

unread_found : (language : Language) (text : List ℕ) → is_objc language ≡ false → IsUnread language text
    → (notation : LispNotation) × (lisp_of language ≡ Some notation) × lisp_formats.IsUnread notation text
unread_found language text other x = lisp_found (lisp_of language) (IsOtherUnread language text)
    (λ notation. lisp_formats.IsUnread notation text) (never_unread language text other) x

one_placed : (language : Language) (text : List ℕ) (a b : List code_placed.Kind) → ListsPlaced language text a
    → ListsPlaced language text b → a ≡ b
one_placed language text a b x y =
    let f = placed_found language text a x in
    let g = placed_found language text b y in
    let same : f.0 ≡ g.0 = cc (f.1, g.1) in
    one_of_lisp g.0 text a b (subst (λ (n : LispNotation). lisp_formats.HasSignature n text a) same f.2) g.2

-- arguments by places alone are of a language that has no others
placed_alone : (language : Language) (text : List ℕ) (a : Asked) (b : List code_placed.Kind) → Lists language text a
    → ListsPlaced language text b → Placed b ≡ a
placed_alone language text (Named a) b x y =
    let f = placed_found language text b y in
    absurd (never_named_lisp language f.0 text a f.1 x)
placed_alone language text (Numbered a) b x y =
    let f = placed_found language text b y in
    absurd (never_numbered_lisp language f.0 text a f.1 x)
placed_alone language text (Placed a) b x y =
    ap (λ (asked : List code_placed.Kind). Placed asked) (one_placed language text b a y x)

one_arguments : (language : Language) (text : List ℕ) (a b : Asked) → Lists language text a
    → Lists language text b → a ≡ b
one_arguments language text (Named a) (Named b) x y =
    ap (λ (asked : List Argument). Named asked) (one_named language text a b x y)
one_arguments language text (Named a) (Numbered b) x y = absurd (one_sort language text a b x y)
one_arguments language text (Numbered a) (Named b) x y = absurd (one_sort language text b a y x)
one_arguments language text (Numbered a) (Numbered b) x y =
    ap (λ (asked : List code_numbered.Numbered). Numbered asked)
    (one_by (script_of language) (number_of language) language text a b x y)
one_arguments language text (Placed a) b x y = placed_alone language text b a y x
one_arguments language text a (Placed b) x y = sym (placed_alone language text a b x y)

never_both_lisp : (language : Language) (text : List ℕ) (a : Asked) → is_objc language ≡ false
    → Lists language text a → IsUnread language text → ⊥
never_both_lisp language text (Named a) other x unread =
    let f = unread_found language text other unread in
    never_named_lisp language f.0 text a f.1 x
never_both_lisp language text (Numbered a) other x unread =
    let f = unread_found language text other unread in
    never_numbered_lisp language f.0 text a f.1 x
never_both_lisp language text (Placed a) other x unread =
    let f = placed_found language text a x in
    let g = unread_found language text other unread in
    let same : g.0 ≡ f.0 = cc (f.1, g.1) in
    read_or_unread f.0 text a f.2 (subst (λ (n : LispNotation). lisp_formats.IsUnread n text) same g.2)

never_both_objc : (language : Language) (text : List ℕ) (a : Asked) → is_objc language ≡ true
    → Lists language text a → IsUnread language text → ⊥
never_both_objc ObjectiveC text (Named a) is x unread = x
never_both_objc ObjectiveC text (Numbered a) is x unread = objc_lemmas.read_or_unread text a x unread
never_both_objc ObjectiveC text (Placed a) is x unread = x
never_both_objc _ text a is x unread = absurd (cc is)

-- a text that is not read has no arguments
never_both : (language : Language) (text : List ℕ) (a : Asked) → Lists language text a → IsUnread language text → ⊥
never_both language text a x unread = elim (cases_Bool (is_objc language)) [
  | inl is ↦ never_both_objc language text a is x unread
  | inr other ↦ never_both_lisp language text a other x unread
]

one_reading : (language : Language) (text : List ℕ) (r s : Reading) → IsReading language text r
    → IsReading language text s → r ≡ s
one_reading language text (Format a) (Format b) x y =
    ap (λ (asked : Asked). Format asked) (one_arguments language text a b x y)
one_reading language text (Format a) NoFormat x y = absurd (y.0 a x)
one_reading language text (Format a) Unread x y = absurd (never_both language text a x y)
one_reading language text NoFormat (Format b) x y = absurd (x.0 b y)
one_reading language text NoFormat NoFormat x y = refl
one_reading language text NoFormat Unread x y = absurd (x.1 y)
one_reading language text Unread (Format b) x y = absurd (never_both language text b y x)
one_reading language text Unread NoFormat x y = absurd (y.1 x)
one_reading language text Unread Unread x y = refl

same_agreement : (language : Language) (rule : Strictness) (form : List ℕ) (original a b : Asked) (x y : Bool)
    → Lists language form a → Lists language form b → agree language original a rule ≡ x
    → agree language original b rule ≡ y → x ≡ y
same_agreement language rule form original a b x y f g e h =
    sym e ∙ ap (λ (c : Asked). agree language original c rule) (one_arguments language form a b f g) ∙ h

one_difference : (language : Language) (rule : Strictness) (original : Asked) (form : List ℕ)
    (d e : Option Difference) → IsDifference language rule original form d → IsDifference language rule original form e
    → d ≡ e
one_difference language rule original form None None x y = refl
one_difference language rule original form None (Some Arguments) (a, f, e) (b, g, h) =
    absurd (cc (same_agreement language rule form original a b true false f g e h))
one_difference language rule original form None (Some Invalid) (a, f, e) y = absurd (y.0 a f)
one_difference language rule original form None (Some differences.Unread) (a, f, e) y =
    absurd (never_both language form a f y)
one_difference language rule original form (Some Arguments) None (a, f, e) (b, g, h) =
    absurd (cc (same_agreement language rule form original a b false true f g e h))
one_difference language rule original form (Some Arguments) (Some Arguments) x y = refl
one_difference language rule original form (Some Arguments) (Some Invalid) (a, f, e) y = absurd (y.0 a f)
one_difference language rule original form (Some Arguments) (Some differences.Unread) (a, f, e) y =
    absurd (never_both language form a f y)
one_difference language rule original form (Some Invalid) None x (b, g, h) = absurd (x.0 b g)
one_difference language rule original form (Some Invalid) (Some Arguments) x (b, g, h) = absurd (x.0 b g)
one_difference language rule original form (Some Invalid) (Some Invalid) x y = refl
one_difference language rule original form (Some Invalid) (Some differences.Unread) x y = absurd (x.1 y)
one_difference language rule original form (Some differences.Unread) None x (b, g, h) =
    absurd (never_both language form b g x)
one_difference language rule original form (Some differences.Unread) (Some Arguments) x (b, g, h) =
    absurd (never_both language form b g x)
one_difference language rule original form (Some differences.Unread) (Some Invalid) x y = absurd (y.1 x)
one_difference language rule original form (Some differences.Unread) (Some differences.Unread) x y = refl

one_of_reading : (language : Language) (rule : Strictness) (original : Reading) (form : List ℕ)
    (d e : Option Difference) → IsVerdict language rule original form d → IsVerdict language rule original form e
    → d ≡ e
one_of_reading language rule (Format original) form d e x y = one_difference language rule original form d e x y
one_of_reading language rule NoFormat form d e x y = x ∙ sym y
one_of_reading language rule Unread form d e x y = x ∙ sym y

one_verdict : (q : Question) (d e : Option Difference) → HasVerdict q d → HasVerdict q e → d ≡ e
one_verdict q d e (r, is, x) (s, also, y) =
    let same : r ≡ s = one_reading q.language q.original r s is also in
    one_of_reading q.language q.rule s q.translation d e
    (subst (λ (c : Reading). IsVerdict q.language q.rule c q.translation d) same x) y

pub one_list : (line : ℕ) (asked : List Question) (found others : List Fault) → AreFaults line asked found
    → AreFaults line asked others → found ≡ others
one_list line [] found others e f = e ∙ sym f
one_list line (q ∷ more) found others (d, rest, has, x, e) (c, rest2, also, y, f) =
    let same : d ≡ c = one_verdict q d c has also in
    let ih : rest ≡ rest2 = one_list line more rest rest2 x y in
    e ∙ ap (λ (v : Option Difference). list_of (fault_of line q.language q.form v) ++ rest) same
    ∙ ap (λ (r : List Fault). list_of (fault_of line q.language q.form c) ++ r) ih ∙ sym f

no_fault : (line : ℕ) (q : Question) (d : Option Difference) (rest : List Fault)
    → [] ≡ list_of (fault_of line q.language q.form d) ++ rest → (d ≡ None) × (rest ≡ [])
no_fault line q None rest e = (refl, sym e)
no_fault line q (Some d) rest e = absurd (cc e)

all_accepted : (line : ℕ) (asked : List Question) → AreFaults line asked [] → AllByRecursion IsAccepted asked
all_accepted line [] x = record {}
all_accepted line (q ∷ more) (d, rest, has, x, e) =
    let r = no_fault line q d rest e in (
      subst (λ (v : Option Difference). HasVerdict q v) r.0 has,
      all_accepted line more (subst (λ (f : List Fault). AreFaults line more f) r.1 x),
    )

none_found : (line : ℕ) (asked : List Question) → AllByRecursion IsAccepted asked → AreFaults line asked []
none_found line [] x = refl
none_found line (q ∷ more) (has, x) = (None, [], has, none_found line more x, refl)

pub none_wrong : (line : ℕ) (asked : List Question) → AreFaults line asked [] ↔ AllByRecursion IsAccepted asked
none_wrong line asked = (all_accepted line asked, none_found line asked)
