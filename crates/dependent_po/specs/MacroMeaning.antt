-- What a PO text means where its formats may name macros of <inttypes.h> (GNU gettext manual, "msgfmt Invocation";
-- "c-format"): the same as to the compiler of catalogues, but that no text is refused for being system-dependent.
use Rattle.std.specs.Prelude.{◌≡◌, ◌⊎◌, ℕ, IsTrue, List}
use Rattle.po_text.specs.Entries as po
use Rattle.po_text.specs.Outcome as po_outcome
use Rattle.po_text.specs.declared.PoKind.{PoKind}
pub use Rattle.mo_segments.specs.MessageStrings.{strings_of}
pub use Rattle.po_checks.specs.Checks.{FirstAt}
use Rattle.po_checks.specs.Kept.{kept_entries, header_line_of}
use Rattle.po_checks.specs.Fails as plain
use Rattle.po_checks.specs.Fails.{IsFirst}
use Rattle.po_checks.specs.Refusal.{kind_of}
pub use Rattle.po_checks.specs.declared.options.Options.{Options}
pub use Rattle.po_checks.specs.declared.fault.LoadKind.{LoadKind}
use Rattle.po_checks.specs.declared.fault.LoadKind.TheVariants.{SystemDependent, FormatMismatch}
use Rattle.catalogue.specs.Meaning.{stats_of, missing_of}
use Rattle.dependent_po.specs.Formats.{HasOtherArguments}
use Rattle.dependent_po.specs.SplitMessages.{ArePartsOf}
use Rattle.dependent_po.specs.SplitViews.{messages_in}
pub use Rattle.dependent_po.specs.declared.compiled.DependentCompiled.{DependentCompiled}

-- the entries are refused with this kind at this line: as by the compiler of catalogues, but formats may name macros
abbrev pub Fails : Options → List po.Entry → LoadKind → ℕ → Type 0
Fails options entries SystemDependent line = ⊥
Fails options entries FormatMismatch line = IsTrue options.checked
    × FirstAt HasOtherArguments (kept_entries options entries) line
Fails options entries kind line = plain.Fails options entries kind line

-- ---- the text

-- the text compiles to this, and nothing refuses its entries
pub record Means (text : List ℕ) (options : Options) (compiled : DependentCompiled) : Type 0 where
  pub entries : List po.Entry
  pub gives : po_outcome.Gives text entries
  pub passes : (kind : LoadKind) (line : ℕ) → ¬ Fails options entries kind line
  pub parts_are : ArePartsOf (kept_entries options entries) (strings_of compiled.statics.items)
      (messages_in compiled.dependents.items)
  pub stats_are : compiled.stats ≡ stats_of entries
  pub header_line_is : compiled.header_line ≡ header_line_of options entries
  pub missing_is : compiled.missing ≡ missing_of options entries

-- the PO text can't be read
abbrev pub RefusesText : List ℕ → LoadKind → ℕ → Type 0
RefusesText text kind line = (fault : PoKind) × (kind ≡ kind_of fault) × po_outcome.Refuses text fault line

-- the text is refused with this kind at this line: first come the faults of the PO text, then the refusals of its
-- entries
abbrev pub Refuses : List ℕ → Options → LoadKind → ℕ → Type 0
Refuses text options kind line = RefusesText text kind line
    ⊎ ((entries : List po.Entry) × po_outcome.Gives text entries × IsFirst (Fails options entries) kind line)
