-- Why a PO text is refused (GNU gettext manual, "msgfmt Invocation").
use Rattle.std.specs.Prelude.{ℕ, List}
use Rattle.po_text.specs.Entries as po
use Rattle.po_text.specs.Outcome as po_outcome
use Rattle.po_text.specs.declared.PoKind.TheVariants as po_kind
use Rattle.po_checks.specs.Fails.{Fails, IsFirst}
use Rattle.po_checks.specs.declared.options.Options.{Options}
use Rattle.po_checks.specs.declared.fault.LoadKind.{LoadKind}
use Rattle.po_checks.specs.declared.fault.LoadKind.TheVariants.{TooLarge, NotUtf8, BadEscape, OpenString, BadWord}
use Rattle.po_checks.specs.declared.fault.LoadKind.TheVariants.{BadText, BadOrder, BadIndex}

-- the text is refused with this kind at this line: first come the faults of the PO text, then the refusals of its
-- entries
abbrev pub Refuses : List ℕ → Options → LoadKind → ℕ → Type 0
Refuses text options TooLarge line = po_outcome.Refuses text po_kind.TooLarge line
Refuses text options NotUtf8 line = po_outcome.Refuses text po_kind.NotUtf8 line
Refuses text options BadEscape line = po_outcome.Refuses text po_kind.BadEscape line
Refuses text options OpenString line = po_outcome.Refuses text po_kind.OpenString line
Refuses text options BadWord line = po_outcome.Refuses text po_kind.BadWord line
Refuses text options BadText line = po_outcome.Refuses text po_kind.BadText line
Refuses text options BadOrder line = po_outcome.Refuses text po_kind.BadOrder line
Refuses text options BadIndex line = po_outcome.Refuses text po_kind.BadIndex line
Refuses text options kind line = (entries : List po.Entry) × po_outcome.Gives text entries
    × IsFirst (Fails options entries) kind line
