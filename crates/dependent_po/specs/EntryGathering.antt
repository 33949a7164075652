-- Private: what is gathered of the entries that have been read.
use Rattle.std.specs.Prelude.{◌≡◌, ◌≤◌, ℕ, IsTrue, List, [], ◌∷◌, ◌++◌, map, Option}
use Rattle.std.specs.List.{filter}
use Rattle.po_text.specs.Entries as po
pub use Rattle.po_text.specs.Outcome.{Gives}
pub use Rattle.po_header.specs.Rule.{Rule}
use Rattle.po_checks.specs.Found.{FirstFault, FirstLine, HasFound}
use Rattle.po_checks.specs.Fails.{IsDuplicateAt, IsForeignAt, rank}
use Rattle.po_checks.specs.Kept.{kept_entries, kept_header, HasHeaderRule}
use Rattle.po_checks.specs.declared.fault.LoadFault.{LoadFault}
use Rattle.dependent_po.specs.Counts.{standing_of}
use Rattle.dependent_po.specs.Formats.{HasOtherArguments}
pub use Rattle.po_checks.specs.Headers.{IsHeaderOf}
pub use Rattle.po_checks.specs.declared.options.Options.{Options}
pub use Rattle.dependent_po.specs.MacroMeaning.{Fails, LoadKind, strings_of}
use Rattle.dependent_po.specs.SplitMessages.{Message, AreMessages, has_split, static_strings}
use Rattle.dependent_po.specs.SplitViews.{messages_in}
use Rattle.dependent_po.specs.declared.gathered.Gathered.{Gathered}
pub use Rattle.dependent_po.specs.declared.messages.Messages.{Messages}

-- ---- messages

-- the messages of entries, in two parts
pub record AreGathered (entries : List po.Entry) (held : Messages) : Type 0 where
  pub messages : List Message
  pub are : AreMessages entries messages
  pub statics_are : strings_of held.statics.items ≡ static_strings messages
  pub dependents_are : messages_in held.dependents.items ≡ filter has_split messages

-- the message of one more entry was added
abbrev pub AddsMessage : po.Entry → Messages → Messages → Type 0
AddsMessage e old new = (entries : List po.Entry) → AreGathered entries old → AreGathered (entries ++ e ∷ []) new

-- ---- all of it

-- what has been gathered of these entries
pub record HasGathered (options : Options) (entries : List po.Entry) (g : Gathered) : Type 0 where
  pub messages : AreGathered (kept_entries options entries) g.messages
  pub findings : HasFound options entries g.findings
  pub mismatch : IsTrue options.checked → FirstLine HasOtherArguments (kept_entries options entries) g.mismatch
  pub standings : g.standings.items ≡ map standing_of entries
  pub header : IsHeaderOf (kept_header options entries) g.header

-- one more entry was gathered
abbrev pub Gathers : Options → po.Entry → Gathered → Gathered → Type 0
Gathers options e old new = (entries : List po.Entry) → HasGathered options entries old
    → HasGathered options (entries ++ e ∷ []) new

-- a kept entry was gathered, but for the findings, how it counts and whether it is the header
pub record AddsKept (options : Options) (e : po.Entry) (old new : Gathered) : Type 0 where
  pub messages : AddsMessage e old.messages new.messages
  pub mismatch : IsTrue options.checked → (entries : List po.Entry) → FirstLine HasOtherArguments entries old.mismatch
      → FirstLine HasOtherArguments (entries ++ e ∷ []) new.mismatch
  pub findings : new.findings ≡ old.findings
  pub standings : new.standings ≡ old.standings
  pub header : new.header ≡ old.header

-- the header was kept, if it hadn't been and the entry is the header
pub record AddsHeader (options : Options) (e : po.Entry) (old new : Gathered) : Type 0 where
  pub header : (entries : List po.Entry) → IsHeaderOf (kept_header options entries) old.header
      → IsHeaderOf (kept_header options (entries ++ e ∷ [])) new.header
  pub messages : new.messages ≡ old.messages
  pub findings : new.findings ≡ old.findings
  pub mismatch : new.mismatch ≡ old.mismatch
  pub standings : new.standings ≡ old.standings

-- ---- the refusals

-- the entries of the text have distinct keys, and their charset is accepted
pub record IsSoundText (text : List ℕ) (options : Options) : Type 0 where
  pub entries : List po.Entry
  pub gives : Gives text entries
  pub no_duplicate : (line : ℕ) → ¬ IsDuplicateAt entries line
  pub not_foreign : (line : ℕ) → ¬ IsForeignAt options entries line

-- the entries are refused with this kind, which comes behind the charset's
abbrev pub FailsLate : Options → List po.Entry → LoadKind → ℕ → Type 0
FailsLate options entries kind line = (11 ≤ rank kind) × Fails options entries kind line

-- the first late fault, by what was gathered and by the rule of the header
abbrev pub IsLateFault : Options → Gathered → Rule → Option LoadFault → Type 0
IsLateFault options g rule fault = (entries : List po.Entry) → HasGathered options entries g
    → HasHeaderRule options entries rule → FirstFault (FailsLate options entries) fault

-- this was gathered of the text, whose keys and charset are sound
pub record IsGatheredOf (text : List ℕ) (options : Options) (g : Gathered) : Type 0 where
  pub sound : IsSoundText text options
  pub entries : List po.Entry
  pub gives : Gives text entries
  pub has : HasGathered options entries g
