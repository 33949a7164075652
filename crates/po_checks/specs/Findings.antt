-- Private: what the steps of the checks promise one another.
use Rattle.std.specs.Prelude.{◌≡◌, ◌≢◌, ◌⊎◌, ℕ, ◌<◌, ◌≤◌, ◌==◌, Bool, not, true, false, IsTrue, if◌then◌else◌, List, []}
use Rattle.std.specs.Prelude.{◌∷◌, ◌++◌, Option, Some, None}
use Rattle.po_text.specs.Entries as po
use Rattle.po_header.specs.Grammar.{Tree}
use Rattle.po_header.specs.Rule.{Rule}
use Rattle.po_header.specs.TreeValue.{value}
use Rattle.c_signature.specs.Agreement.{Agrees}
use Rattle.c_signature.specs.Signature as signature
use Rattle.c_signature.specs.declared.Strictness.{Strictness}
use Rattle.po_checks.specs.Checks.{HasSystemDependentText, HasOtherArguments, HasOtherNewlines, has_form}
use Rattle.po_checks.specs.Checks.{IsFirstWithoutForm, Differs, begins_with_newline, ends_with_newline}
use Rattle.po_checks.specs.Kept.{header_line_of, HasHeaderRule}
use Rattle.po_checks.specs.declared.findings.Findings.{Findings}
use Rattle.po_checks.specs.declared.formats.Format.{Format}
use Rattle.po_checks.specs.declared.formats.Format.TheVariants.{Arguments, Invalid, SystemDependent}
use Rattle.po_checks.specs.declared.plurals.Plurals.{Plurals}
use Rattle.po_checks.specs.declared.options.Options.{Options}
use Rattle.po_checks.specs.declared.fault.LoadFault.{LoadFault}
use Rattle.po_checks.specs.Found.{FailsFrom, FirstFault, FirstLine, HasFound, HasPlurals, line_for, line_of}

-- the line that was found before, or else this one if its entry fails
abbrev pub first_or : Option ℕ → Bool → ℕ → Option ℕ
first_or (Some found) fails line = Some found
first_or None fails line = if fails then Some line else None

-- how a text reads as a format
abbrev pub IsReadAs : List ℕ → Format → Type 0
IsReadAs text (Arguments kinds) = signature.Lists text kinds.items
IsReadAs text Invalid = signature.IsInvalid text
IsReadAs text SystemDependent = signature.IsSystemDependent text

abbrev pub is_dependent : Format → Bool
is_dependent SystemDependent = true
is_dependent _ = false

-- the form's arguments don't agree with the original's, or the form isn't a valid format
abbrev pub FormatsDiffer : Format → Format → Strictness → Type 0
FormatsDiffer (Arguments original) (Arguments form) rule = ¬ Agrees original.items form.items rule
FormatsDiffer (Arguments original) Invalid rule = Unit {0}
FormatsDiffer _ _ rule = ⊥

-- the form differs from an original that was read as a format
abbrev pub DiffersFrom : Format → Strictness → List ℕ → Type 0
DiffersFrom (Arguments kinds) rule form = Differs kinds.items rule form
DiffersFrom _ rule form = ⊥

-- it isn't known that the text takes the arguments of the msgid
abbrev pub Strays : List ℕ → List ℕ → Type 0
Strays id text = ¬ signature.TakeSame id text

-- a plural entry with this number of forms was added at this line
pub record AddsPlural (old new : Plurals) (forms line : ℕ) : Type 0 where
  pub first : line_of new.first ≡ first_or (line_of old.first) true line
  pub other : (nplurals : ℕ) → line_for new.first nplurals ≡ first_or (line_for old.first nplurals)
      (not (forms == nplurals)) line

-- the least number from 0 to 1000 that the rule gives none of the forms, if there is one
abbrev pub FirstWithoutForm : ℕ → Tree → Option ℕ → Type 0
FirstWithoutForm nplurals tree None = (n : ℕ) → n ≤ 1000 → has_form nplurals tree n ≡ true
FirstWithoutForm nplurals tree (Some n) = IsFirstWithoutForm nplurals tree n

-- each value at 0 to 1000 is also that at a number below the end
abbrev pub HasAllValues : Tree → ℕ → Type 0
HasAllValues tree end = (n : ℕ) → n ≤ 1000 → (m : ℕ) × (m < end) × (value tree m ≡ value tree n)

-- only one of the two begins with a newline, or only one ends with one
pub record NewlinesDiffer (id text : List ℕ) : Type 0 where
  pub either : (begins_with_newline id ≢ begins_with_newline text) ⊎ (ends_with_newline id ≢ ends_with_newline text)

-- the findings about formats include one more kept entry
pub record AddsFormats (old new : Findings) (e : po.Entry) : Type 0 where
  pub dependent : (entries : List po.Entry) → FirstLine HasSystemDependentText entries old.system_dependent
      → FirstLine HasSystemDependentText (entries ++ e ∷ []) new.system_dependent
  pub mismatch : (entries : List po.Entry) → FirstLine HasOtherArguments entries old.mismatch
      → FirstLine HasOtherArguments (entries ++ e ∷ []) new.mismatch
  pub newlines : new.newlines ≡ old.newlines
  pub plurals : new.plurals ≡ old.plurals

-- the findings about newlines and plural forms include one more kept entry
pub record AddsTexts (old new : Findings) (e : po.Entry) : Type 0 where
  pub newlines : (entries : List po.Entry) → FirstLine HasOtherNewlines entries old.newlines
      → FirstLine HasOtherNewlines (entries ++ e ∷ []) new.newlines
  pub plurals : (entries : List po.Entry) → HasPlurals entries old.plurals → HasPlurals (entries ++ e ∷ []) new.plurals
  pub dependent : new.system_dependent ≡ old.system_dependent
  pub mismatch : new.mismatch ≡ old.mismatch

-- the first fault by the findings and the rule of a header on this line, among the refusals from the twelfth on
abbrev pub IsCheckedFault : Findings → Rule → ℕ → Option LoadFault → Type 0
IsCheckedFault findings rule at fault = (options : Options) (entries : List po.Entry)
    → HasFound options entries findings → IsTrue options.checked → HasHeaderRule options entries rule → at
    ≡ header_line_of options entries → FirstFault (FailsFrom 12 options entries) fault
