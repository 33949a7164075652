-- Texts, split at the first occurrence of a byte.
use Rattle.std.proofs.Common.{◌≡◌, ℕ, ◌+◌, ◌-◌, ◌<◌, ◌≤◌, ◌↔◌, Bool, true, false, not, cond, List, length, take, drop}
use Rattle.std.proofs.Common.{get_or, Option, Some, None, refl, sym, ap, ◌∙◌, arith}
use Rattle.std.specs.Prelude.{is_some}
use Rattle.std.specs.List.{position_or_len, before_first, after_first, slice_range}
use Rattle.std.proofs.lemmas.Bool.{eqb-true, false_from_ne_true, false≢true, lt-ltb, le-ltb}
use Rattle.std.proofs.lemmas.List.{take_all}
use Rattle.std.proofs.lemmas.List.Sums.{passes_at_first, position_or_len_is, prefix_len-le-length}
use Rattle.bstr.specs.Find.{IsFirstByte, is_byte}
use Rattle.byte_text.specs.Cut.{cut, IsCut}

abbrev offset : ℕ → List ℕ → ℕ
offset byte text = position_or_len (is_byte byte) text

abbrev parts : ℕ → List ℕ → List ℕ × List ℕ
parts byte text = (before_first (is_byte byte) text, after_first (is_byte byte) text)

-- ---- what a search for the byte finds

pub offset_found : (byte : ℕ) (text : List ℕ) (k : ℕ) → IsFirstByte (is_byte byte) text (Some k) → offset byte text ≡ k
offset_found byte text k found = position_or_len_is (is_byte byte) text k 0 (omega (arith, found.0.high))
    (λ i lt. false_from_ne_true _ (found.0.before i (omega arith) lt)) (λ lt. found.1)

pub offset_none : (byte : ℕ) (text : List ℕ) → IsFirstByte (is_byte byte) text None → offset byte text ≡ length text
offset_none byte text none = position_or_len_is (is_byte byte) text (length text) 0 (omega arith)
    (λ i lt. false_from_ne_true _ (none i (omega arith) lt)) (λ lt. absurd (omega arith))

-- ---- the cut

pub cut_there : (byte : ℕ) (text : List ℕ) → offset byte text < length text → cut byte text ≡ Some (parts byte text)
cut_there byte text lt = ap (λ b. cond b (Some (parts byte text)) None) (lt-ltb _ _ lt)

pub cut_nowhere : (byte : ℕ) (text : List ℕ) → offset byte text ≡ length text → cut byte text ≡ None
cut_nowhere byte text none = ap (λ b. cond b (Some (parts byte text)) None) (le-ltb _ _ (omega (arith, none)))

pub cut_is : (byte : ℕ) (text front behind : List ℕ) → IsCut byte text front behind → Some (front, behind)
    ≡ cut byte text
cut_is byte text front behind at = ap (λ f. Some (f, behind)) at.front_is
    ∙ ap (λ b. Some (before_first (is_byte byte) text, b)) at.behind_is ∙ sym (cut_there byte text at.within)

-- a text without the byte is all before it
pub front_whole : (byte : ℕ) (text : List ℕ) → offset byte text ≡ length text → text ≡ before_first (is_byte byte) text
front_whole byte text none = sym (take_all (offset byte text) text (omega (arith, none)))

-- ---- a text without the byte

pub lacks_is : (byte : ℕ) (text : List ℕ) (at : Option ℕ) (test : Bool) → IsFirstByte (is_byte byte) text at
    → is_some at ≡ not test → (test ≡ true) ↔ (offset byte text ≡ length text)
lacks_is byte text None true first some = ((λ e. offset_none byte text first), (λ e. refl))
lacks_is byte text None false first some = absurd (false≢true some)
lacks_is byte text (Some k) true first some = absurd (false≢true (sym some))
lacks_is byte text (Some k) false first some = (
  (λ e. absurd (false≢true e)),
  (λ none. absurd (omega (arith, offset_found byte text k first, first.0.high, none))),
)

-- ---- a known index

pub byte_there : (byte : ℕ) (text : List ℕ) (at : ℕ) → at ≡ offset byte text → at < length text
    → get_or text at 0 ≡ byte
byte_there byte text at is lt = eqb-true _ _ (rw is (passes_at_first (is_byte byte) text 0 (omega (arith, is, lt))))

pub offset_within : (byte : ℕ) (text : List ℕ) → offset byte text ≤ length text
offset_within byte text = prefix_len-le-length (λ b. not (is_byte byte b)) text

-- the parts around the first such byte
pub cut_known : (byte : ℕ) (text front behind : List ℕ) (at : ℕ) → at ≡ offset byte text → at < length text
    → front ≡ slice_range text 0 at → behind ≡ drop (at + 1) text → IsCut byte text front behind
cut_known byte text front behind at is lt e f =
    let all : at - 0 ≡ at = omega arith in
    record {
      within = omega (arith, is, lt);
      front_is = rw (sym is) (e ∙ ap (λ n. take n text) all);
      behind_is = rw (sym is) f;
    }
