-- The messages of entries and where they are system-dependent (GNU gettext manual, "c-format"; "MO Files"): split at a
-- macro of <inttypes.h> and, in a translation, at the flag I.
use Rattle.std.specs.Prelude.{◌≡◌, ℕ, ◌+◌, ◌&&◌, not, Bool, true, false, List, [], ◌∷◌, ◌++◌, length, map, Option, Some}
use Rattle.std.specs.Prelude.{None}
use Rattle.std.specs.List.{filter}
use Rattle.po_text.specs.Entries as po
use Rattle.po_checks.specs.Kept.{message_of, is_empty}
use Rattle.mo_image.specs.Entry.{original, translation}
use Rattle.mo_segments.specs.MessageStrings.{Strings}
use Rattle.mo_segments.specs.Flat.{AreKept}
pub use Rattle.c_macros.specs.MacroSplits.{IsSplitAt}
use Rattle.c_macros.specs.declared.Side.TheVariants.{Original, Translation}
pub use Rattle.c_macros.specs.declared.Split.{Split}

-- the two strings of a message, each with its splits, which are counted from the string's first byte
pub record Message : Type 0 where
  pub strings : Strings
  pub original_splits : List Split
  pub translation_splits : List Split

-- a split that is counted from a byte further in front
abbrev pub split_behind : ℕ → Split → Split
split_behind by split = record { start = by + split.start; len = split.len }

-- the length of what precedes the msgid in a key: the context and byte 4
abbrev pub front_len : Option (List ℕ) → ℕ
front_len None = 0
front_len (Some context) = length context + 1

-- the splits of an original are those of the msgid; neither the context nor the msgid_plural is split
abbrev pub AreOriginalSplits : po.Entry → List Split → Type 0
AreOriginalSplits e splits = (own : List Split) × IsSplitAt Original e.id own
    × (splits ≡ map (split_behind (front_len e.context)) own)

-- the splits of forms that follow one another from a place on, with NUL between them
abbrev pub AreFormSplits : ℕ → List (List ℕ) → List Split → Type 0
AreFormSplits at [] splits = splits ≡ []
AreFormSplits at (form ∷ forms) splits = (own later : List Split) × IsSplitAt Translation form own
    × AreFormSplits (at + length form + 1) forms later × (splits ≡ map (split_behind at) own ++ later)

-- splits are looked for, or there are none
abbrev pub AreSplitsIf : Bool → (List Split → Type 0) → List Split → Type 0
AreSplitsIf true Are splits = Are splits
AreSplitsIf false Are splits = splits ≡ []

-- the message of an entry; one that isn't flagged `c-format` has no splits
pub record IsMessageOf (e : po.Entry) (m : Message) : Type 0 where
  pub strings_are : m.strings ≡ (original (message_of e), translation (message_of e))
  pub original_splits_are : AreSplitsIf e.c_format (AreOriginalSplits e) m.original_splits
  pub translation_splits_are : AreSplitsIf e.c_format (AreFormSplits 0 e.forms) m.translation_splits

-- the messages of entries, in their order
abbrev pub AreMessages : List po.Entry → List Message → Type 0
AreMessages [] [] = Unit {0}
AreMessages (e ∷ es) (m ∷ ms) = IsMessageOf e m × AreMessages es ms
AreMessages _ _ = ⊥

-- a message is system-dependent if one of its strings has a split
abbrev pub has_split : Message → Bool
has_split m = not (is_empty m.original_splits && is_empty m.translation_splits)

abbrev pub is_static : Message → Bool
is_static m = not (has_split m)

-- the messages without a split
abbrev pub static_strings : List Message → List Strings
static_strings messages = map (λ m. m.strings) (filter is_static messages)

-- the entries in two parts: the messages without a split, in rising order of their keys, and those with one, in the
-- order of the entries
pub record ArePartsOf (entries : List po.Entry) (statics : List Strings) (dependents : List Message) : Type 0 where
  pub messages : List Message
  pub are : AreMessages entries messages
  pub statics_are : AreKept (static_strings messages) statics
  pub dependents_are : dependents ≡ filter has_split messages
