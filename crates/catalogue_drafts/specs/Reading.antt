-- A PO text that was read: its drafts, and what the checks found.
use Rattle.std.specs.Prelude.{ℕ, List}
use Rattle.po_checks.specs.declared.options.Options.{Options}
use Rattle.catalogue_drafts.specs.declared.collected.Collected.{Collected}
use Rattle.catalogue_drafts.specs.Drafts.{HasCollected}

-- the drafts and the findings are those of this PO text
abbrev pub IsReadOf : List ℕ → Options → Collected → Type 0
IsReadOf text options c = HasCollected text options c.drafts.items c.findings
