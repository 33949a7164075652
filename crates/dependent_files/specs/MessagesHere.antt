-- The messages as this machine has them: each segment stands for what the machine's <inttypes.h> says (GNU gettext
-- manual, "c-format"; C standard, 7.8.1).
use Rattle.std.specs.Prelude.{ℕ, ◌-◌, List, [], ◌∷◌, ◌++◌, take, drop, Option, Some, None}
use Rattle.std.specs.List.{filter_map}
use Rattle.mo_segments.specs.Machine.{value}
pub use Rattle.mo_segments.specs.MessageStrings.{Strings}
use Rattle.mo_dependent.specs.Splits.{end_of, name_at}
pub use Rattle.c_macros.specs.declared.Split.{Split}
use Rattle.mo_dependent.specs.declared.split.SplitText.{SplitText}
pub use Rattle.mo_dependent.specs.declared.split.Dependent.{Dependent}

-- ---- a text

-- a piece, what the segment after it stands for, and what follows, if these are there
abbrev pub joined_text : List ℕ → Option (List ℕ) → Option (List ℕ) → Option (List ℕ)
joined_text piece (Some value) (Some rest) = Some (piece ++ value ++ rest)
joined_text piece _ _ = None

-- the text after its first `from` bytes, with what each segment stands for in its place; none if the machine doesn't
-- know one
abbrev pub expanded_from : List ℕ → ℕ → List Split → Option (List ℕ)
expanded_from text from [] = Some (drop from text)
expanded_from text from (s ∷ ss) =
    joined_text (take (s.start - from) (drop from text)) (value (name_at text s)) (expanded_from text (end_of s) ss)

abbrev pub expanded_text : SplitText → Option (List ℕ)
expanded_text text = expanded_from text.bytes.items 0 text.splits.items

-- ---- messages

-- an original and its translation, if both are there
abbrev pub both : Option (List ℕ) → Option (List ℕ) → Option Strings
both (Some original) (Some translation) = Some (original, translation)
both _ _ = None

abbrev pub message_here : Dependent → Option Strings
message_here m = both (expanded_text m.original) (expanded_text m.translation)

-- the static messages, and after them the system-dependent ones of which the machine knows all segments
abbrev pub messages_here : List Strings → List Dependent → List Strings
messages_here statics dependents = statics ++ filter_map message_here dependents
