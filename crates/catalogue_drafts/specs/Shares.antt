-- How an entry counts, and what is kept of it.
use Rattle.std.specs.Prelude.{ℕ, List, Option, Some, None, option_map}
use Rattle.byte_text.specs.Cut.{cut}
use Rattle.catalogue_drafts.specs.declared.texts.Share.{Share}
use Rattle.catalogue_drafts.specs.declared.texts.Share.TheVariants.{Dropped, Plain, Plural}
use Rattle.catalogue_drafts.specs.declared.texts.Texts.{Texts}

-- what is kept of an entry besides its key: its plural, and its forms with NUL between them
abbrev pub Kept : Type 0
Kept = Option (List ℕ) × List ℕ

abbrev pub kept_texts : Texts → Kept
kept_texts t = (option_map (λ s. s.now) t.plural, t.translation.now)

-- the parts of a text that is cut at its first NUL: what precedes it is a plural
abbrev pub parts_of : List ℕ → Option (List ℕ × List ℕ) → Kept
parts_of joined None = (None, joined)
parts_of joined (Some parts) = (Some parts.0, parts.1)

-- the plural and the forms that are joined by NULs
abbrev pub joined_texts : List ℕ → Kept
joined_texts joined = parts_of joined (cut 0 joined)

-- what is kept of an entry, by its share
abbrev pub texts_by : Share → List ℕ → Option Kept
texts_by Dropped kept = None
texts_by Plain kept = Some (None, kept)
texts_by Plural kept = Some (joined_texts kept)
