-- Private: an entry as its buffers store it.
use Rattle.std.specs.Prelude.{◌≡◌, ◌≢◌, ℕ, ◌-◌, List, [], ◌∷◌, length, take, drop}
use Rattle.std.specs.List.{Contains}
use Rattle.po_text.specs.declared.buffer.EntryBuffer.TheInside.{Inside}
use Rattle.po_text.specs.Spelling.{Token, Text, IsLawful}
use Rattle.po_text.specs.Entries.{Entry}
use Rattle.po_text.specs.Lawful.{IsLawfulTexts}
use Rattle.po_text.specs.Stages.{Stage, ContextWord, ContextText, IdWord, IdText, FormWord, FormText}
use Rattle.po_text.specs.Stages.{PluralWord, PluralText, IndexOpen, IndexNumber, IndexClose, IndexedWord, IndexedText}
use Rattle.po_text.specs.Building.{Draft, draft_of, some_if, first_or}

-- the forms that start at these offsets, each up to the next one or the end
abbrev pub cut_forms : List ℕ → List ℕ → List (List ℕ)
cut_forms flat [] = []
cut_forms flat (start ∷ later) = take (first_or later (length flat) - start) (drop start flat) ∷ cut_forms flat later

-- the entry that the buffers hold
abbrev pub entry_in : Inside → Entry
entry_in b = record {
  line = b.lines.entry;
  form_line = b.lines.form;
  fuzzy = b.flags.fuzzy;
  c_format = b.flags.c_format;
  formats = b.flags.formats;
  context = some_if b.has_context b.context.items;
  id = b.id.items;
  plural = some_if b.has_plural b.plural.items;
  forms = cut_forms b.forms.items b.starts.items;
}

-- the draft that the buffers hold, its forms uncut
abbrev pub draft_in : Inside → Draft
draft_in b = record {
  lines = b.lines;
  flags = b.flags;
  context = some_if b.has_context b.context.items;
  id = b.id.items;
  plural = some_if b.has_plural b.plural.items;
  flat = b.forms.items;
  starts = b.starts.items;
}

-- the forms are stored back to back, and the texts are lawful
pub record IsWellBuilt (b : Inside) : Type 0 where
  pub laid_out : draft_in b ≡ draft_of (entry_in b)
  pub lawful : IsLawfulTexts (entry_in b)

-- a form was begun, if the stage is in one
abbrev pub HasForm : Stage → Draft → Type 0
HasForm FormWord d = d.starts ≢ []
HasForm FormText d = d.starts ≢ []
HasForm (IndexOpen k) d = d.starts ≢ []
HasForm (IndexNumber k) d = d.starts ≢ []
HasForm (IndexClose k) d = d.starts ≢ []
HasForm (IndexedWord k) d = d.starts ≢ []
HasForm (IndexedText k) d = d.starts ≢ []
HasForm _ d = Unit {0}

-- a string with these bytes may be added at this stage
abbrev pub CanAddText : Stage → List ℕ → Draft → Type 0
CanAddText ContextWord bytes d = ¬ Contains bytes 4
CanAddText ContextText bytes d = ¬ Contains bytes 4
CanAddText IdWord bytes d = ¬ Contains bytes 4
CanAddText IdText bytes d = ¬ Contains bytes 4
CanAddText PluralWord bytes d = Unit {0}
CanAddText PluralText bytes d = Unit {0}
CanAddText _ bytes d = d.starts ≢ []

-- this token may be added at this stage
abbrev pub CanAdd : Token → Stage → Draft → Type 0
CanAdd (Text bytes) p d = IsLawful bytes × CanAddText p bytes d
CanAdd _ p d = Unit {0}
