-- Which entries of a PO text go into its catalogue, and the header among them (GNU gettext manual, "msgfmt
-- Invocation").
use Rattle.std.specs.Prelude.{ℕ, ◌&&◌, ◌||◌, not, is_none, Bool, true, false, List, [], ◌∷◌, Option, option_map}
use Rattle.std.specs.List.{filter, find}
use Rattle.std.specs.Option.{option_map_or}
use Rattle.po_text.specs.Entries as po
use Rattle.po_header.specs.Rule.{Rule, HasRuleIn}
use Rattle.message.specs.Message.{Entry, key, first_form}
use Rattle.message.specs.Charset.{HasAcceptedCharset}
use Rattle.po_checks.specs.declared.options.Options.{Options}

-- ---- one entry of the text

abbrev pub message_of : po.Entry → Entry
message_of e = record { context = e.context; id = e.id; plural = e.plural; forms = e.forms }

abbrev pub key_of : po.Entry → List ℕ
key_of e = key (message_of e)

abbrev pub is_empty : {X : Type 0} → List X → Bool
is_empty [] = true
is_empty (x ∷ xs) = false

-- the header: no context and the empty msgid (GNU gettext manual, "Header Entry")
abbrev pub is_header : po.Entry → Bool
is_header e = is_none e.context && is_empty e.id

abbrev pub has_empty_form : List (List ℕ) → Bool
has_empty_form [] = true
has_empty_form (form ∷ forms) = is_empty form

-- an entry is untranslated if its first form is empty, or if it has no form
abbrev pub is_untranslated : po.Entry → Bool
is_untranslated e = has_empty_form e.forms

-- an entry is kept if it is translated and, unless fuzzy entries are asked for or it is the header, not fuzzy
abbrev pub is_kept : Options → po.Entry → Bool
is_kept options e = not (is_untranslated e) && (not e.fuzzy || (options.use_fuzzy || is_header e))

-- ---- all entries of the text

-- the entries that are kept, in the order of the PO text
abbrev pub kept_entries : Options → List po.Entry → List po.Entry
kept_entries options entries = filter (is_kept options) entries

-- the header, if it is kept
abbrev pub kept_header : Options → List po.Entry → Option po.Entry
kept_header options entries = find is_header (kept_entries options entries)

-- the line of the kept header, or 0 if there is none
abbrev pub header_line_of : Options → List po.Entry → ℕ
header_line_of options entries = option_map_or (λ e. e.line) (kept_header options entries) 0

-- the entry's first form names an accepted charset or none
abbrev pub NamesAcceptedCharset : po.Entry → Type 0
NamesAcceptedCharset e = HasAcceptedCharset (first_form e.forms)

-- the text of the kept header: its first form
abbrev pub header_text_of : Options → List po.Entry → Option (List ℕ)
header_text_of options entries = option_map (λ e. first_form e.forms) (kept_header options entries)

-- the rule for plural forms in the kept header
abbrev pub HasHeaderRule : Options → List po.Entry → Rule → Type 0
HasHeaderRule options entries rule = HasRuleIn (header_text_of options entries) rule
