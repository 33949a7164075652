-- Values that repeat every hundred, and the precomputed values.
use Rattle.std.proofs.Common.{◌≡◌, ℕ, ◌+◌, ◌*◌, ◌/◌, ◌%◌, ◌<◌, sym, ap, ◌∙◌, arith, List, length}
use Rattle.std.proofs.Math.Nat.{mul-add-mod_self_left, div-add-mod, mul_assoc}
use Rattle.po_header.specs.Grammar.{Tree}
use Rattle.po_header.specs.Repeats.{AreFirst, IsPart}

-- folding by a multiple of m keeps the remainder by m
mod_folded : (n w m k : ℕ) → w ≡ m * k → (w + n % w) % m ≡ n % m
mod_folded n w m k e =
    let whole : n ≡ m * (k * (n / w)) + n % w =
    sym (div-add-mod n w) ∙ ap (λ (x : ℕ). x * (n / w) + n % w) e ∙ ap (λ (x : ℕ). x + n % w) (mul_assoc m k (n / w))
    in
    ap (λ (x : ℕ). (x + n % w) % m) e ∙ mul-add-mod_self_left m k (n % w)
    ∙ sym (ap (λ (x : ℕ). x % m) whole ∙ mul-add-mod_self_left m (k * (n / w)) (n % w))

pub part_of : (m : ℕ) → 0 < m → 100 % m ≡ 0 → IsPart m
part_of m some e = record {
  some = some;
  same = λ n. mod_folded n 100 m (100 / m) (sym (div-add-mod 100 m) ∙ omega (arith, e));
}

-- the values at all numbers below n
pub record Values (values : List ℕ) (tree : Tree) (n : ℕ) : Type 0 where
  pub as_many : length values ≡ n
  pub are : AreFirst values tree
