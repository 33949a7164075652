-- Searches for a byte, compared with runs of bytes.
use Rattle.po_header.proofs.Kit.{◌≡◌, ℕ, ◌-◌, true, false, List, take, length, refl, sym, arith, ap, ◌∙◌, Some, None}
use Rattle.po_header.proofs.Kit.{Option, prefix_len, take_while, take_all}
use Rattle.std.proofs.Common.{Bool}
use Rattle.std.specs.Option.{unwrap_or}
use Rattle.std.specs.Prelude.{not, slice_range}
use Rattle.std.proofs.lemmas.List.Sums.{prefix_len_is}
use Rattle.memchr.specs.Find.{IsFirstByte}

not_true : (b : Bool) → (b ≡ true → ⊥) → not b ≡ true
not_true true h = absurd (h refl)
not_true false h = refl

pub run_len : (test : ℕ → Bool) (text : List ℕ) (r : Option ℕ) → IsFirstByte test text r
    → prefix_len (λ b. not (test b)) text ≡ unwrap_or r (length text)
run_len test text None none = prefix_len_is (λ b. not (test b)) text (length text) 0 (omega arith)
    (λ i lt. not_true _ (none i (omega arith) lt)) (λ lt. absurd (omega arith))
run_len test text (Some k) some = prefix_len_is (λ b. not (test b)) text k 0 (omega (arith, some.0.high))
    (λ i lt. not_true _ (some.0.before i (omega arith) lt)) (λ lt. ap not some.1)

-- the run before the byte that a search found, or all of the text
pub run_before : (test : ℕ → Bool) (text bytes front : List ℕ) (k : ℕ) → bytes ≡ text → IsFirstByte test bytes (Some k)
    → front ≡ slice_range text 0 k → front ≡ take_while (λ b. not (test b)) text
run_before test text bytes front k e some f =
    let zero : k - 0 ≡ k = omega arith in
    let len : prefix_len (λ b. not (test b)) text ≡ k = rw (← e) (run_len test bytes (Some k) some) in
    f ∙ ap (λ (n : ℕ). take n text) (zero ∙ sym len)

pub run_all : (test : ℕ → Bool) (text bytes : List ℕ) → bytes ≡ text → IsFirstByte test bytes None → text
    ≡ take_while (λ b. not (test b)) text
run_all test text bytes e none =
    let len : prefix_len (λ b. not (test b)) text ≡ length text = rw (← e) (run_len test bytes None none) in
    sym (take_all (length text) text (omega arith)) ∙ ap (λ (n : ℕ). take n text) (sym len)
