-- Texts with splits: the places where a segment takes the place of a macro such as `<PRIu64>`, or of the flag `I`.
use Rattle.std.specs.Prelude.{ℕ, ◌+◌, ◌-◌, ◌<◌, ◌≤◌, ◌==◌, if◌then◌else◌, List, [], ◌∷◌, ◌++◌, length, map, take, drop}
use Rattle.std.specs.List.{flat_map}
use Rattle.mo_image.specs.MoFile.{with_nul}
pub use Rattle.c_macros.specs.declared.Split.{Split}
pub use Rattle.mo_dependent.specs.declared.split.SplitText.{SplitText}
pub use Rattle.mo_dependent.specs.declared.split.Dependent.{Dependent}

abbrev pub end_of : Split → ℕ
end_of s = s.start + s.len

-- the name of the segment: the flag, or what is between `<` and `>`
abbrev pub name_at : List ℕ → Split → List ℕ
name_at text s = if s.len == 1 then take 1 (drop s.start text) else take (s.len - 2) (drop (s.start + 1) text)

-- the splits lie in the text after its first `from` bytes, one after another, and none is empty
abbrev pub LieFrom : List ℕ → ℕ → List Split → Type 0
LieFrom text from [] = from ≤ length text
LieFrom text from (s ∷ ss) = (from ≤ s.start) × (0 < s.len) × LieFrom text (end_of s) ss

abbrev pub HasSplits : SplitText → Type 0
HasSplits text = LieFrom text.bytes.items 0 text.splits.items

abbrev pub IsSplit : Dependent → Type 0
IsSplit message = HasSplits message.original × HasSplits message.translation

-- the originals, and the translations after them
abbrev pub texts : List Dependent → List SplitText
texts messages = map (λ m. m.original) messages ++ map (λ m. m.translation) messages

-- the pieces between the splits, one after another, and a NUL
abbrev pub pieces_from : List ℕ → ℕ → List Split → List ℕ
pieces_from text from [] = with_nul (drop from text)
pieces_from text from (s ∷ ss) = take (s.start - from) (drop from text) ++ pieces_from text (end_of s) ss

abbrev pub text_of : SplitText → List ℕ
text_of text = pieces_from text.bytes.items 0 text.splits.items

-- all texts one after another
abbrev pub text_pool : List SplitText → List ℕ
text_pool ts = flat_map text_of ts
