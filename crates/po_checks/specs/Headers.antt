-- The kept header, as a reader of entries stores it.
use Rattle.std.specs.Prelude.{◌≡◌, ℕ, ◌&&◌, if◌then◌else◌, List, Option, None, Some, string_bytes}
use Rattle.std.specs.Option.{option_map}
use Rattle.po_text.specs.Entries as po
use Rattle.message.specs.Message.{first_form}
use Rattle.po_checks.specs.Kept.{is_header, is_kept}
pub use Rattle.po_checks.specs.declared.options.Options.{Options}
pub use Rattle.po_checks.specs.declared.header.Header.{Header}

-- the text and the line of a header
abbrev pub header_texts : Option po.Entry → Option (List ℕ × ℕ)
header_texts header = option_map (λ (e : po.Entry). (first_form e.forms, e.line)) header

abbrev pub stored_texts : Option Header → Option (List ℕ × ℕ)
stored_texts stored = option_map (λ (h : Header). (string_bytes h.text, h.line)) stored

-- what is stored is the text and the line of this header, if there is one
abbrev pub IsHeaderOf : Option po.Entry → Option Header → Type 0
IsHeaderOf header stored = stored_texts stored ≡ header_texts header

-- the entry, if it is the kept header
abbrev pub own_header : Options → po.Entry → Option po.Entry
own_header options e = if is_kept options e && is_header e then Some e else None
