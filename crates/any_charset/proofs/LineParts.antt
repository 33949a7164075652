-- The lines of a text, one after another.
use Rattle.std.proofs.Common.{◌≡◌, ℕ, ◌+◌, ◌<◌, List, [], ◌∷◌, length, take, drop, sym, ◌∙◌}
use Rattle.std.proofs.lemmas.List.Splits.{slice_split_first}
use Rattle.byte_text.specs.Cut.{offset_of}
use Rattle.po_header.proofs.FieldLemmas.{one_line}
use Rattle.std.specs.Prelude.{◌==◌}
use Rattle.any_charset.specs.Declaring.{lines}

pub first_line : (text line later : List ℕ) (at : ℕ) → at ≡ offset_of 10 text → at < length text → line ≡ take at text
    → later ≡ drop (at + 1) text → lines text ≡ line ∷ lines later
first_line text line later at e lt front rest =
    rw (front, rest, e) (slice_split_first (λ b. b == 10) text 0 (rw e at lt))

pub last_line : (text : List ℕ) (at : ℕ) → at ≡ offset_of 10 text → at ≡ length text → lines text ≡ text ∷ []
last_line text at e end = one_line text (sym e ∙ end)
