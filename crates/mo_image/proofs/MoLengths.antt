-- The lengths of the parts of an MO file.
use Rattle.mo_image.proofs.Kit.{◌≡◌, ℕ, ◌+◌, ◌*◌, ◌<◌, List, [], ◌∷◌, ◌++◌, length, map, refl, sym, ap, ◌∙◌, arith}
use Rattle.mo_image.proofs.Kit.{append_assoc, length-append, join_with_byte, length-map, append-nil, Entry, original}
use Rattle.mo_image.proofs.Kit.{translation, pairs, with_nul, pool, header}
use Rattle.mo_image.specs.MoFile.{word, file, spelling}

pub length-with_nul : (s : List ℕ) → length (with_nul s) ≡ length s + 1
length-with_nul s = length-append s (0 ∷ [])

-- the joined forms with a NUL after them are the forms, each with its NUL
pub joined_with_nul : (forms : List (List ℕ)) → 0 < length forms → with_nul (join_with_byte 0 forms) ≡ pool forms
joined_with_nul [] some = absurd (omega arith)
joined_with_nul (f ∷ []) some = sym (append-nil (with_nul f))
joined_with_nul (f ∷ g ∷ fs) some =
    let rest : with_nul (join_with_byte 0 (g ∷ fs)) ≡ pool (g ∷ fs) = joined_with_nul (g ∷ fs) (omega arith) in
    append_assoc f (0 ∷ join_with_byte 0 (g ∷ fs)) (0 ∷ []) ∙ ap (λ (t : List ℕ). f ++ (0 ∷ t)) rest
    ∙ sym (append_assoc f (0 ∷ []) (pool (g ∷ fs)))

pub length-word : (n : ℕ) → length (word n) ≡ 4
unfolding word
length-word n = refl

pub length-header : (n : ℕ) → length (header n) ≡ 28
length-header n = simp (length-append, length-word)

pub length-pairs : (at : ℕ) (ss : List (List ℕ)) → length (pairs at ss) ≡ 8 * length ss
length-pairs at [] = refl
length-pairs at (s ∷ ss) =
    let more = length-pairs (at + length s + 1) ss in
    simp (length-append, length-word) (omega (arith, more))

length-file : (n : ℕ) (os ts : List (List ℕ)) → length os ≡ n → length ts ≡ n → length (file n os ts)
    ≡ 28 + 16 * n + length (pool os) + length (pool ts)
length-file n os ts o t =
    let a = length-pairs (28 + 16 * n) os in
    let b = length-pairs (28 + 16 * n + length (pool os)) ts in
    simp (length-append, length-word) (omega (arith, a, b, o, t))

pub length-spelling : (m : List Entry) → length (spelling m)
    ≡ 28 + 16 * length m + length (pool (map original m)) + length (pool (map translation m))
unfolding spelling
length-spelling m = length-file (length m) (map original m) (map translation m) (length-map m original)
    (length-map m translation)
