-- What is made of a catalogue that C holds, or of a PO text: a PO text, or a list of faults.
use Rattle.std.specs.Prelude.{◌≡◌, ◌⊎◌, ℕ, ◌<◌, ◌==◌, if◌then◌else◌, Bool, List, [], length, slice_get, MatchOption}
use Rattle.std.specs.Option.{option_map_or}
use Rattle.std.specs.Arc.{arc_value}
use Rattle.mo_image.specs.Entry.{Entry}
use Rattle.po_writing.specs.Written.{po_of}
use Rattle.po_checks.specs.declared.options.Options.{Options}
use Rattle.po_checks.specs.Refusal.{out_of_memory}
use Rattle.po_checks.specs.declared.fault.LoadKind.TheVariants.{TooLarge, Charset as UnknownCharset}
use Rattle.po_text.specs.Outcome.{max_text}
use Rattle.any_charset.specs.Declaring.{DeclaresNone}
use Rattle.any_charset.specs.Recoding.{IsRecoded, LacksCharacter}
use Rattle.any_charset.specs.declared.fault.TextFault.{TextFault}
use Rattle.any_charset.specs.declared.fault.TextFault.TheVariants.{Load, NoCharacter}
use Rattle.format_checks.specs.declared.Difference.{Difference}
use Rattle.format_checks.specs.declared.Difference.TheVariants.{Invalid, Arguments, Unread}
use Rattle.format_checks.specs.declared.Fault.{Fault}
use Rattle.format_flags.specs.Languages.{number as language_number}
use Rattle.po_formats.specs.TextFaults.{HasFaultsAny, RefusesAny}
use Rattle.c_answers.specs.declared.opened.Opened.{Opened}
use Rattle.c_outputs.specs.declared.outputs.HeldOutput.{HeldOutput}
use Rattle.c_outputs.specs.declared.outputs.Output.{Output}
use Rattle.c_outputs.specs.declared.outputs.Output.TheVariants.{Po, Faults, Refused}
use Rattle.c_answers.specs.Numbers.{no_fault, memory_fault, the_fault, the_line, the_count}
use Rattle.c_answers.specs.Numbers.{fault_line, fault_language, fault_form, fault_difference}
use Rattle.c_opening.specs.Opening.{line_of, text_fault_number}

-- nothing was made, for this reason
pub record IsUnmade (fault line : ℕ) (o : HeldOutput) : Type 0 where
  pub refused : o.output ≡ Refused
  pub fault_is : o.fault ≡ fault
  pub line_is : o.line ≡ line

-- something with this property was made, and there is no fault
pub record IsMadeAs (Is : Output → Type 0) (o : HeldOutput) : Type 0 where
  pub output_is : Is o.output
  pub fault_is : o.fault ≡ no_fault
  pub line_is : o.line ≡ 0

-- ---- PO texts

-- a PO text with this property
abbrev pub IsPo : (List ℕ → Type 0) → Output → Type 0
IsPo Is (Po text) = Is text.items
IsPo Is _ = ⊥

-- the PO text of a map, or out of memory; `escape` is msgunfmt's option `--escape`
abbrev pub IsPoTextOf : Bool → List Entry → HeldOutput → Type 0
IsPoTextOf escape m o = IsMadeAs (IsPo (λ text. text ≡ po_of escape m)) o ⊎ IsUnmade memory_fault 0 o

-- the PO text of what was opened; if that was refused, none, for the same reason
abbrev pub IsPoText : Bool → Opened → HeldOutput → Type 0
IsPoText escape opened o = MatchOption opened.catalogue (IsUnmade opened.fault opened.line o)
    (λ shared. IsPoTextOf escape (arc_value shared) o)

-- ---- PO texts in UTF-8

-- why there is no text in UTF-8: the text is too large, it declares no charset that is known here, a byte of it has no
-- character, or memory ran out
abbrev pub IsNotRecoded : List ℕ → TextFault → Type 0
IsNotRecoded text (Load fault) = (fault ≡ out_of_memory)
    ⊎ ((fault ≡ record { kind = TooLarge; line = 0 }) × (max_text < length text))
    ⊎ ((fault ≡ record { kind = UnknownCharset; line = 0 }) × DeclaresNone text)
IsNotRecoded text (NoCharacter line) = LacksCharacter text line

-- the text in UTF-8, or the number and the line of why there is none
abbrev pub IsRecodedText : List ℕ → HeldOutput → Type 0
IsRecodedText text o = IsMadeAs (IsPo (IsRecoded text)) o
    ⊎ (fault : TextFault) × IsNotRecoded text fault × IsUnmade (text_fault_number fault) (line_of fault) o

-- the bytes of a PO text
abbrev pub text_in : Output → List ℕ
text_in (Po text) = text.items
text_in _ = []

-- ---- faults of formats

-- a list of faults with this property
abbrev pub AreFaults : (List Fault → Type 0) → Output → Type 0
AreFaults Are (Faults faults) = Are faults.items
AreFaults Are _ = ⊥

-- the faults of the formats in a PO text in any charset, or its first fault, or out of memory
abbrev pub IsFormatFaults : List ℕ → Options → HeldOutput → Type 0
IsFormatFaults text options o = IsMadeAs (AreFaults (HasFaultsAny text options)) o
    ⊎ (fault : TextFault) × RefusesAny text options fault × IsUnmade (text_fault_number fault) (line_of fault) o

-- the faults of a list of them
abbrev pub faults_in : Output → List Fault
faults_in (Faults faults) = faults.items
faults_in _ = []

-- the number of what is wrong with a form
abbrev pub difference_number : Difference → ℕ
difference_number Invalid = 0
difference_number Arguments = 1
difference_number Unread = 2

-- a number of a fault
abbrev pub fault_part : Fault → ℕ → ℕ
fault_part f which =
    if which == fault_line then f.line
    else (if which == fault_language then language_number f.language
    else (if which == fault_form then f.form
    else (if which == fault_difference then difference_number f.difference else 0)))

-- a number of what was made: why there is none, and the line of the fault; how many faults it lists, or a number of the
-- one at this index
abbrev pub output_number : HeldOutput → ℕ → ℕ → ℕ
output_number o which index =
    if which == the_fault then o.fault
    else (if which == the_line then o.line
    else (if which == the_count then length (faults_in o.output)
    else option_map_or (λ f. fault_part f which) (slice_get (faults_in o.output) index) 0))
