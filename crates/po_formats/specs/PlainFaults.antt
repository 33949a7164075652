-- What is wrong with the formats of a PO text in UTF-8 (GNU gettext manual, "msgfmt Invocation": `--check-format`).
use Rattle.std.specs.Prelude.{◌≡◌, ◌⊎◌, ℕ, List, Option, None, Some}
use Rattle.po_text.specs.Entries as po
use Rattle.po_text.specs.Outcome as outcome
use Rattle.po_text.specs.declared.PoKind.{PoKind}
pub use Rattle.po_checks.specs.Kept.{kept_entries, kept_header, HasHeaderRule, NamesAcceptedCharset}
pub use Rattle.po_checks.specs.Fails.{IsForeignAt}
use Rattle.po_checks.specs.Refusal.{kind_of}
pub use Rattle.po_checks.specs.declared.options.Options.{Options}
use Rattle.po_checks.specs.declared.fault.LoadKind.{LoadKind}
pub use Rattle.po_checks.specs.declared.fault.LoadKind.TheVariants.{Charset}
use Rattle.po_formats.specs.Often.{often_served, Rule}
pub use Rattle.po_formats.specs.EntryFaults.{AreAllFaults, Fault}

-- the kept header names an accepted charset or none, or there is no kept header
abbrev pub IsAccepted : Option po.Entry → Type 0
IsAccepted None = Unit {0}
IsAccepted (Some header) = NamesAcceptedCharset header

-- the text is read as UTF-8, and these are the faults of its kept entries, by the rule in its kept header
pub record HasFaults (text : List ℕ) (options : Options) (faults : List Fault) : Type 0 where
  pub entries : List po.Entry
  pub gives : outcome.Gives text entries
  pub accepted : IsAccepted (kept_header options entries)
  pub rule : Rule
  pub rule_is : HasHeaderRule options entries rule
  pub faults_are : AreAllFaults (often_served rule) (kept_entries options entries) faults

-- the text can't be read
abbrev pub RefusesText : List ℕ → LoadKind → ℕ → Type 0
RefusesText text kind line = (fault : PoKind) × (kind ≡ kind_of fault) × outcome.Refuses text fault line

-- the text is read, and its kept header names a charset that isn't accepted
abbrev pub RefusesCharset : List ℕ → Options → LoadKind → ℕ → Type 0
RefusesCharset text options kind line = (entries : List po.Entry) × outcome.Gives text entries
    × (kind ≡ Charset) × IsForeignAt options entries line

-- the text is refused as UTF-8
abbrev pub Refuses : List ℕ → Options → LoadKind → ℕ → Type 0
Refuses text options kind line = RefusesText text kind line ⊎ RefusesCharset text options kind line
