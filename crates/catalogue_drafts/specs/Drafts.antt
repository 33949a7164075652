-- The entries of a PO text until a catalogue is made of them: what is known of each, their order, and the first repeat.
use Rattle.std.specs.Prelude.{◌≡◌, ℕ, ◌+◌, ◌<◌, ◌≤◌, Bool, List, [], ◌∷◌, length, map, take, drop, Option, Some, None}
use Rattle.std.specs.Prelude.{option_map, if◌then◌else◌, ◌&&◌, nat_lt, true, false, is_some, ◌==◌}
use denote.Ref.{Bor}
use Rattle.std.specs.Str.{bytes_eq}
use Rattle.std.specs.List.{slice_index_or, slice_split, find, AllByRecursion}
use Rattle.std.specs.Ordering.{nat_cmp, ordering_then, is_lt}
use Rattle.std.specs.declared.cmp.Ordering.{Ordering}
use Rattle.std.specs.Cmp.Lexicographic.{slice_cmp}
use Rattle.po_text.specs.Entries as po
use Rattle.po_text.specs.Outcome.{Gives}
use Rattle.mo_image.specs.Entry.{Entry, IsLawfulEntry, translation}
use Rattle.mo_image.specs.Map.{first_form}
use Rattle.mo_image.specs.Parts.{entry_from}
use Rattle.po_checks.specs.Kept.{message_of, key_of, is_header, is_untranslated, is_kept}
use Rattle.po_checks.specs.Found.{HasFound}
use Rattle.po_checks.specs.declared.findings.Findings.{Findings}
use Rattle.po_checks.specs.declared.options.Options.{Options}
use Rattle.catalogue_drafts.specs.Shares.{Kept, texts_by}
use Rattle.catalogue_drafts.specs.declared.draft.Draft.{Draft}
use Rattle.catalogue_drafts.specs.declared.texts.Standing.{Standing}
use Rattle.catalogue_drafts.specs.declared.texts.Standing.TheVariants.{Header, Untranslated, Fuzzy, Translated}

-- an entry by its index in the PO text, its line, its key, how it counts, and what is kept of it
pub record Outline : Type 0 where
  pub number : ℕ
  pub line : ℕ
  pub key : List ℕ
  pub standing : Standing
  pub texts : Option Kept

-- what is kept of a draft's entry besides its key
abbrev pub kept_in : Draft → List ℕ
kept_in d = drop d.key_len d.text.now

abbrev pub outline : Draft → Outline
outline d = record {
  number = d.number;
  line = d.line;
  key = take d.key_len d.text.now;
  standing = d.standing;
  texts = texts_by d.share (kept_in d);
}

abbrev pub outlines : List Draft → List Outline
outlines drafts = map outline drafts

abbrev pub texts_of : po.Entry → Kept
texts_of e = (e.plural, translation (message_of e))

-- how an entry counts in the statistics
abbrev pub standing_of : po.Entry → Standing
standing_of e =
    if is_header e then Header else
    if is_untranslated e then Untranslated else
    if e.fuzzy then Fuzzy else Translated

-- what is kept of an entry, if it is kept at all
abbrev pub texts_if_kept : Options → po.Entry → Option Kept
texts_if_kept options e = if is_kept options e then Some (texts_of e) else None

-- the outline of the entry with this index
abbrev pub outline_of : Options → ℕ → po.Entry → Outline
outline_of options number e = record {
  number = number;
  line = e.line;
  key = key_of e;
  standing = standing_of e;
  texts = texts_if_kept options e;
}

-- the outlines of entries, numbered from this index on
abbrev pub outlines_from : Options → ℕ → List po.Entry → List Outline
outlines_from options number [] = []
outlines_from options number (e ∷ es) = outline_of options number e ∷ outlines_from options (number + 1) es

-- compares outlines by key, and those with equal keys by their order in the PO text
abbrev pub outline_cmp : Outline → Outline → Ordering
outline_cmp a b = ordering_then (slice_cmp nat_cmp a.key b.key) (nat_cmp a.number b.number)

abbrev pub comes_before : Draft → Draft → Bool
comes_before a b = is_lt (outline_cmp (outline a) (outline b))

-- the entry of an outline, if it is kept
abbrev pub kept_entry : Outline → Option Entry
kept_entry r = option_map (λ t. entry_from r.key t.0 t.1) r.texts

-- the entry of an outline that is kept, else an entry with the key alone
abbrev pub entry_with : List ℕ → Option Kept → Entry
entry_with key None = entry_from key None []
entry_with key (Some t) = entry_from key t.0 t.1

abbrev pub draft_entry : Draft → Entry
draft_entry d = entry_with (take d.key_len d.text.now) (texts_by d.share (kept_in d))

abbrev pub drafts_entries : List Draft → List Entry
drafts_entries drafts = map draft_entry drafts

-- the outline after the i-th has the key of the i-th
pub record IsRepeat (rs : List Outline) (i : ℕ) : Type 0 where
  pub within : i + 1 < length rs
  pub same : (d : Outline) → (slice_index_or rs i d).key ≡ (slice_index_or rs (i + 1) d).key

-- of the first n outlines that have the key of the one before them, this one comes first in the PO text
pub record IsFirstRepeat (rs : List Outline) (n : ℕ) (r : Outline) : Type 0 where
  pub index : ℕ
  pub within : index + 1 < n
  pub repeats : IsRepeat rs index
  pub row_is : (d : Outline) → slice_index_or rs (index + 1) d ≡ r
  pub first : (j : ℕ) (d : Outline) → j + 1 < n → IsRepeat rs j → r.number ≤ (slice_index_or rs (j + 1) d).number

abbrev pub FirstRepeat : List Outline → ℕ → Option Outline → Type 0
FirstRepeat rs n None = (j : ℕ) → j + 1 < n → ¬ IsRepeat rs j
FirstRepeat rs n (Some r) = IsFirstRepeat rs n r

-- whether an outline precedes another one in the PO text, or there is no other one
abbrev pub is_earlier : Outline → Option Outline → Bool
is_earlier r None = true
is_earlier r (Some other) = nat_lt r.number other.number

-- the first repeat so far, given one more pair of neighbours
abbrev pub earlier_repeat : Outline → Outline → Option Outline → Option Outline
earlier_repeat before r first = if bytes_eq before.key r.key && is_earlier r first then Some r else first

abbrev pub outline_if : Option (Bor Draft) → Option Outline
outline_if found = option_map (λ d. outline d.now) found

abbrev pub same_standing : Standing → Standing → Bool
same_standing Header Header = true
same_standing Untranslated Untranslated = true
same_standing Fuzzy Fuzzy = true
same_standing Translated Translated = true
same_standing _ _ = false

-- the outline has this standing
abbrev pub counts_as : Standing → Outline → Bool
counts_as standing r = same_standing r.standing standing

abbrev pub is_kept_header : Outline → Bool
is_kept_header r = counts_as Header r && is_some r.texts

-- an entry whose texts a catalogue may hold
abbrev pub IsLawfulMessage : po.Entry → Type 0
IsLawfulMessage e = IsLawfulEntry (message_of e)

-- the drafts and the findings are those of the entries that the PO text gives
pub record HasCollected (text : List ℕ) (options : Options) (drafts : List Draft) (findings : Findings) : Type 0 where
  pub entries : List po.Entry
  pub gives : Gives text entries
  pub rows_are : outlines drafts ≡ outlines_from options 0 entries
  pub lawful : AllByRecursion IsLawfulMessage entries
  pub found : HasFound options entries findings

-- the first form of an outline, if it is kept
abbrev pub outline_text : Outline → Option (List ℕ)
outline_text r = option_map (λ t. first_form (slice_split (λ b. b == 0) t.1)) r.texts

-- the first form of the outline that was found, if it is kept
abbrev pub text_found : Option Outline → Option (List ℕ)
text_found None = None
text_found (Some r) = outline_text r

-- the text of the kept header among the drafts, if there is one
abbrev pub header_text_in : List Draft → Option (List ℕ)
header_text_in drafts = text_found (option_map outline (find (λ d. is_kept_header (outline d)) drafts))
