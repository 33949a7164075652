-- Texts that begin with a key.
use Rattle.catalogue_drafts.proofs.Kit.{◌≡◌, ℕ, List, ◌++◌, length, take, refl, sym, ◌∙◌, subst}
use Rattle.std.specs.Prelude.{drop}
use Rattle.std.specs.Str.{IsUtf8, IsCharBoundary}
use Rattle.std.proofs.lemmas.List.{take_at}
use Rattle.std.proofs.lemmas.Str.{IsCharBoundary-at_seam}
use Rattle.byte_text.specs.Front.{HaveOneFront, IsFrontOf}
use Rattle.catalogue_drafts.specs.Keyed.{IsKeyed}

-- ---- the key and what follows it

pub is_keyed : (text key kept : List ℕ) (n front next : ℕ) → text ≡ key ++ kept → n ≡ length key → IsUtf8 kept
    → IsFrontOf key front → IsFrontOf (drop 8 key) next → IsKeyed text n front next
is_keyed text key kept n front next joined long utf8 first later =
    let same : take n text ≡ key = rw (joined, long) (take_at key kept (length key) refl) in
    record {
      ends = subst (IsCharBoundary text) (sym long) (IsCharBoundary-at_seam text key kept joined utf8);
      front_is = subst (λ (k : List ℕ). IsFrontOf k front) (sym same) first;
      next_is = subst (λ (k : List ℕ). IsFrontOf (drop 8 k) next) (sym same) later;
    }

-- ---- the order of keys

pub one_front : (key other : List ℕ) (m n : ℕ) → IsFrontOf key m → IsFrontOf other n → m ≡ n → HaveOneFront key other
one_front key other m n a b same = record {
  number = sym a.number ∙ same ∙ b.number;
  bytes = a.bytes;
  other_bytes = b.bytes;
}
