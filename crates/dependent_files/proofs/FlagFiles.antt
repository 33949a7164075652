-- Where the translations lie in the file of a map.
use Rattle.std.proofs.Common.{◌≡◌, ℕ, ◌+◌, ◌-◌, ◌*◌, ◌<◌, ◌≤◌, ◌^◌, Bool, false, List, [], ◌∷◌, ◌++◌, length, map}
use Rattle.std.proofs.Common.{take, drop, refl, sym, ap, ◌∙◌, arith, append_assoc, length-append}
use Rattle.std.specs.Prelude.{◌↔◌, IsTrue}
use Rattle.std.proofs.lemmas.List.{drop_at, length-map, take_rest}
use Rattle.byteorder.specs.Endian.{little_number}
use Rattle.byteorder.specs.Numbers.{little_number-reads_back}
use Rattle.mo_image.specs.Entry.{Entry, original, translation}
use Rattle.mo_image.specs.Map.{IsLawful}
use Rattle.mo_image.specs.MoFile.{word, header, pairs, pool, spelling}
use Rattle.mo_image.specs.Tables.{word_at}
use Rattle.mo_image.proofs.MoLengths.{length-word, length-header, length-pairs, length-spelling}

-- the offset of the first translation
abbrev pub start_of : List Entry → ℕ
start_of m = 28 + 16 * length m + length (pool (map original m))

word_read : (n : ℕ) (rest : List ℕ) → n < 2 ^ 32 → little_number 4 (word n ++ rest) ≡ n
unfolding word
word_read n rest small = little_number-reads_back 4 n rest small

pub rows_lie : (m : List Entry) → 28 + 16 * length m ≤ length (spelling m)
rows_lie m = omega (arith, length-spelling m)

pub start_lies : (m : List Entry) → start_of m ≤ length (spelling m)
start_lies m = omega (arith, length-spelling m)

start_small : (m : List Entry) → IsLawful m → start_of m < 4294967296
start_small m lawful = omega (arith, lawful.fits, length-spelling m)

first_start : (e : Entry) (more : List Entry) → IsLawful (e ∷ more)
    → word_at little_number (spelling (e ∷ more)) (28 + 8 * length (e ∷ more) + 4) ≡ start_of (e ∷ more)
unfolding spelling
first_start e more lawful =
    let m = e ∷ more in
    let n = length m in
    let os = map original m in
    let t = translation e in
    let start = start_of m in
    let len = word (length t) in
    let a = pairs (28 + 16 * n) os in
    let rest = pairs (start + length t + 1) (map translation more) ++ (pool os ++ pool (map translation m)) in
    let front = header n ++ (a ++ len) in
    let split : spelling m ≡ front ++ (word start ++ rest) = simp append_assoc in
    let at : length front ≡ 28 + 8 * n + 4 = omega (
      arith,
      length-append (header n) (a ++ len),
      length-append a len,
      length-header n,
      length-pairs (28 + 16 * n) os,
      length-word (length t),
      length-map m original,
    ) in
    ap (word_at little_number (spelling m)) (sym at)
    ∙ ap (λ (b : List ℕ). little_number 4 (drop (length front) b)) split
    ∙ ap (little_number 4) (drop_at front (word start ++ rest) (length front) refl)
    ∙ word_read start rest (start_small m lawful)

-- the first row of the translations has it
pub start_read : (m : List Entry) → IsLawful m → 0 < length m
    → word_at little_number (spelling m) (28 + 8 * length m + 4) ≡ start_of m
start_read [] lawful some = absurd (omega (arith, some))
start_read (e ∷ more) lawful some = first_start e more lawful

pub has_entries : (m : List Entry) (is_empty : Bool) → (IsTrue is_empty ↔ (length m ≡ 0)) → is_empty ≡ false
    → 0 < length m
has_entries [] is_empty told some = absurd (cc (sym some ∙ told.1 refl))
has_entries (e ∷ more) is_empty told some = omega arith

-- and behind it are all of them
pub behind_start : (m : List Entry) → drop (start_of m) (spelling m) ≡ pool (map translation m)
unfolding spelling
behind_start m =
    let n = length m in
    let os = map original m in
    let ts = map translation m in
    let a = pairs (28 + 16 * n) os in
    let b = pairs (start_of m) ts in
    let front = header n ++ (a ++ (b ++ pool os)) in
    let split : spelling m ≡ front ++ pool ts = simp append_assoc in
    let len : length front ≡ start_of m = omega (
      arith,
      length-append (header n) (a ++ (b ++ pool os)),
      length-append a (b ++ pool os),
      length-append b (pool os),
      length-header n,
      length-pairs (28 + 16 * n) os,
      length-pairs (start_of m) ts,
      length-map m original,
      length-map m translation,
    ) in
    ap (drop (start_of m)) split ∙ drop_at front (pool ts) (start_of m) len

-- what is read of a file in that row
pub start_is : (m : List Entry) (bytes : List ℕ) (n read : ℕ) → IsLawful m → 0 < length m → bytes ≡ spelling m
    → n ≡ length m
    → read ≡ little_number 4 (take (length bytes - (28 + 8 * n + 4)) (drop (28 + 8 * n + 4) bytes)) → read ≡ start_of m
start_is m bytes n read lawful some spelt counted is =
    is ∙ ap (little_number 4) (take_rest bytes (28 + 8 * n + 4))
    ∙ ap (λ (b : List ℕ). word_at little_number b (28 + 8 * n + 4)) spelt
    ∙ ap (λ (k : ℕ). word_at little_number (spelling m) (28 + 8 * k + 4)) counted ∙ start_read m lawful some

-- what is lent from there on
pub lent_is : (m : List Entry) (bytes : List ℕ) (read : ℕ) → bytes ≡ spelling m → read ≡ start_of m
    → take (length bytes - read) (drop read bytes) ≡ pool (map translation m)
lent_is m bytes read spelt is =
    take_rest bytes read ∙ ap (drop read) spelt ∙ ap (λ (k : ℕ). drop k (spelling m)) is ∙ behind_start m
