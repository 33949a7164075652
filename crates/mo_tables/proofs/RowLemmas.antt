-- The rows of a table, one after another.
use Rattle.mo_tables.proofs.Kit.{◌≡◌, ℕ, zero, suc, ◌+◌, ◌-◌, ◌*◌, ◌<◌, List, ◌∷◌, ◌++◌, length, drop, refl, ap, ◌∙◌}
use Rattle.mo_tables.proofs.Kit.{subst, arith, length-drop, word_at, string_at, strings, StringLies}
use Rattle.std.proofs.Common.{length-append}
use Rattle.std.proofs.lemmas.List.{length-take-le}
use Rattle.std.proofs.lemmas.List.Concat.{flat_map-cons}
use Rattle.mo_image.specs.MoFile.{with_nul, pool, file}
use Rattle.mo_image.proofs.MoLengths.{length-word, length-pairs, length-with_nul}

pub length-strings : (number : ℕ → List ℕ → ℕ) (bytes : List ℕ) (offset n : ℕ) → length (strings number bytes offset n)
    ≡ n
length-strings number bytes offset zero = refl
length-strings number bytes offset (suc n) = ap suc (length-strings number bytes (offset + 8) n)

pub length-file : (n : ℕ) (os ts : List (List ℕ)) → length os ≡ n → length ts ≡ n → length (file n os ts)
    ≡ 28 + 16 * n + length (pool os) + length (pool ts)
length-file n os ts o t =
    let a = length-pairs (28 + 16 * n) os in
    let b = length-pairs (28 + 16 * n + length (pool os)) ts in
    simp (length-append, length-word) (omega (arith, a, b, o, t))

-- the row at i, and those after it
pub strings_split : (number : ℕ → List ℕ → ℕ) (bytes : List ℕ) (table n i : ℕ) → i < n
    → strings number bytes (table + 8 * i) (n - i) ≡ string_at number bytes (table + 8 * i)
    ∷ strings number bytes (table + 8 * (i + 1)) (n - (i + 1))
strings_split number bytes table n i lt =
    let left : n - i ≡ suc (n - (i + 1)) = omega arith in
    let next : table + 8 * i + 8 ≡ table + 8 * (i + 1) = omega arith in
    ap (strings number bytes (table + 8 * i)) left ∙ ap (λ (p : ℕ). string_at number bytes (table + 8 * i)
    ∷ strings number bytes p (n - (i + 1))) next

pub length-string : (number : ℕ → List ℕ → ℕ) (bytes : List ℕ) (offset : ℕ) → StringLies number bytes offset
    → length (string_at number bytes offset) ≡ word_at number bytes offset
length-string number bytes offset lies =
    let start : ℕ = word_at number bytes (offset + 4) in
    length-take-le (word_at number bytes offset) (drop start bytes) (omega (arith, length-drop start bytes, lies))

pub length-pool_row : (number : ℕ → List ℕ → ℕ) (bytes : List ℕ) (table n i : ℕ) → i < n
    → StringLies number bytes (table + 8 * i)
    → length (pool (strings number bytes (table + 8 * i) (n - i)))
    ≡ word_at number bytes (table + 8 * i) + 1 + length (pool
    (strings number bytes (table + 8 * (i + 1)) (n - (i + 1))))
length-pool_row number bytes table n i lt lies =
    let s : List ℕ = string_at number bytes (table + 8 * i) in
    let rest : List (List ℕ) = strings number bytes (table + 8 * (i + 1)) (n - (i + 1)) in
    let split : pool (strings number bytes (table + 8 * i) (n - i)) ≡ with_nul s
    ++ pool rest = ap pool (strings_split number bytes table n i lt) ∙ flat_map-cons with_nul s rest in
    omega (
      arith,
      ap length split,
      length-append (with_nul s) (pool rest),
      length-with_nul s,
      length-string number bytes
          (table + 8 * i) lies,
    )

-- the first row, and those after it
pub first_row : (Q : ℕ → ℕ → Type 0) (o t n : ℕ) → ((i : ℕ) → i < suc n → Q (o + 8 * i) (t + 8 * i)) → Q o t
first_row Q o t n each =
    let here : Q (o + 8 * 0) (t + 8 * 0) = each 0 (omega arith) in
    let eo : o + 8 * 0 ≡ o = omega arith in
    let et : t + 8 * 0 ≡ t = omega arith in
    subst (λ a. Q a t) eo (subst (λ b. Q (o + 8 * 0) b) et here)

pub later_rows : (Q : ℕ → ℕ → Type 0) (o t n : ℕ) → ((i : ℕ) → i < suc n → Q (o + 8 * i) (t + 8 * i)) → (i : ℕ) → i < n
    → Q (o + 8 + 8 * i) (t + 8 + 8 * i)
later_rows Q o t n each i lt =
    let here : Q (o + 8 * suc i) (t + 8 * suc i) = each (suc i) (omega (arith, lt)) in
    let eo : o + 8 * suc i ≡ o + 8 + 8 * i = omega arith in
    let et : t + 8 * suc i ≡ t + 8 + 8 * i = omega arith in
    subst (λ a. Q a (t + 8 + 8 * i)) eo (subst (λ b. Q (o + 8 * suc i) b) et here)

-- the string of a row that is equal to the one before it
pub as_before : (P : List ℕ → Type 0) (number : ℕ → List ℕ → ℕ) (bytes : List ℕ) (table i : ℕ) → (0 < i)
    × (string_at number bytes (table + 8 * (i - 1)) ≡ string_at number bytes (table + 8 * i))
    → ((k : ℕ) → k < i → P (string_at number bytes (table + 8 * k))) → P (string_at number bytes (table + 8 * i))
as_before P number bytes table i same before = subst P same.1 (before (i - 1) (omega (arith, same.0)))
