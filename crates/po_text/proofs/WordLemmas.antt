-- Keywords at the front of a text, from its first bytes.
use Rattle.po_text.proofs.Kit.{◌≡◌, ℕ, suc, ◌+◌, ◌-◌, ◌≤◌, List, [], ◌∷◌, ◌++◌, length, take, drop, refl, sym, ap, ◌∙◌}
use Rattle.po_text.proofs.Kit.{arith, length-drop, take_while, is_word_byte, PieceAt, Word, Id, Str}
use Rattle.std.proofs.Common.{add-zero}
use Rattle.std.proofs.Math.Seq.{drop-cons}
use Rattle.std.proofs.lemmas.List.{take_all}
use Rattle.std.proofs.lemmas.Slice.Eq.{HasBytesAt}

reads_front : (s : List ℕ) (i : ℕ) (p : List ℕ) → i + length p ≤ length s → HasBytesAt s i p
    → drop i s ≡ p ++ drop (i + length p) s
reads_front s i [] le reads = ap (λ (n : ℕ). drop n s) (sym (add-zero i))
reads_front s i (b ∷ p) le reads =
    let more = reads_front s (suc i) p (omega arith) reads.1 in
    let place : suc i + length p ≡ i + length (b ∷ p) = omega arith in
    drop-cons s i 0 (omega arith) ∙ rw (reads.0, more, place) refl

-- what follows n bytes, as slicing gives it
behind : (s : List ℕ) (n : ℕ) → take (length s - n) (drop n s) ≡ drop n s
behind s n = take_all (length s - n) (drop n s) (omega (arith, length-drop n s))

-- "msgid ", without the space
is_id : (t more : List ℕ) → t ≡ 109 ∷ 115 ∷ 103 ∷ 105 ∷ 100 ∷ 32 ∷ more
    → PieceAt (Word (take_while is_word_byte t) Id) t (drop 5 t)
is_id t more e = rw e (refl, refl, refl)

pub id_ahead : (text : List ℕ) → 6 ≤ length text → HasBytesAt text 0 (109 ∷ 115 ∷ 103 ∷ 105 ∷ 100 ∷ 32 ∷ [])
    → PieceAt (Word (take_while is_word_byte text) Id) text (take (length text - 5) (drop 5 text))
id_ahead text le reads = rw (behind text 5) (is_id text (drop 6 text)
    (reads_front text 0 (109 ∷ 115 ∷ 103 ∷ 105 ∷ 100 ∷ 32 ∷ []) le reads))

-- "msgstr ", without the space
is_str : (t more : List ℕ) → t ≡ 109 ∷ 115 ∷ 103 ∷ 115 ∷ 116 ∷ 114 ∷ 32 ∷ more
    → PieceAt (Word (take_while is_word_byte t) Str) t (drop 6 t)
is_str t more e = rw e (refl, refl, refl)

pub str_ahead : (text : List ℕ) → 7 ≤ length text
    → HasBytesAt text 0 (109 ∷ 115 ∷ 103 ∷ 115 ∷ 116 ∷ 114 ∷ 32 ∷ [])
    → PieceAt (Word (take_while is_word_byte text) Str) text (take (length text - 6) (drop 6 text))
str_ahead text le reads = rw (behind text 6) (is_str text (drop 7 text)
    (reads_front text 0 (109 ∷ 115 ∷ 103 ∷ 115 ∷ 116 ∷ 114 ∷ 32 ∷ []) le reads))
