-- The parts of a flat file, string by string, and the file of its parts.
use Rattle.std.proofs.Common.{◌≡◌, ℕ, ◌+◌, ◌*◌, ◌<◌, List, [], ◌∷◌, ◌++◌, length, drop, map, get_or, refl, sym, ap}
use Rattle.std.proofs.Common.{◌∙◌, arith, append_assoc, length-append}
use Rattle.std.proofs.lemmas.List.{drop_more, length-map, get_or-map}
use Rattle.std.proofs.lemmas.List.Concat.{flat_map-cons}
use Rattle.mo_image.specs.MoFile.{word, pairs, with_nul, pool, header, file}
use Rattle.mo_image.proofs.MoLengths.{length-with_nul, length-pairs, length-word}
use Rattle.mo_segments.specs.MessageStrings.{strings_in, strings_of}
use Rattle.mo_segments.specs.Flat.{flat_file}
use Rattle.mo_segments.specs.Writing.{side_of, sides_of}
use Rattle.mo_segments.specs.declared.messages.Strings.{Strings}
use Rattle.mo_segments.specs.declared.flat.Side.TheVariants.{Original, Translation}

module _ {X : Type 0} (f : X → List ℕ) (ms : List X) (i : ℕ) (x : X) (lt : i < length ms) (is : x ≡ get_or ms i x) where
  abbrev left : ℕ → List (List ℕ)
  left k = drop k (map f ms)

  strings_split : left i ≡ f x ∷ left (i + 1)
  strings_split =
      let short : i < length (map f ms) = omega (arith, lt, length-map ms f) in
      drop_more (map f ms) i (f x) short
      ∙ ap (λ (y : List ℕ). y ∷ drop (i + 1) (map f ms)) (get_or-map f ms i x (f x) lt ∙ sym (ap f is))

  pub pool_split : pool (left i) ≡ with_nul (f x) ++ pool (left (i + 1))
  pool_split = ap pool strings_split ∙ flat_map-cons with_nul (f x) (left (i + 1))

  pub length-pool_split : length (pool (left i)) ≡ length (f x) + 1 + length (pool (left (i + 1)))
  length-pool_split =
      let both = ap length pool_split ∙ length-append (with_nul (f x)) (pool (left (i + 1))) in
      omega (arith, both, length-with_nul (f x))

  pub pairs_split : (at : ℕ) → pairs at (left i)
      ≡ (word (length (f x)) ++ word at) ++ pairs (at + length (f x) + 1) (left (i + 1))
  pairs_split at = ap (pairs at) strings_split

-- one more part has been written
pub piece_written : (out rest all more a b : List ℕ) → out ++ rest ≡ all → rest ≡ a ++ b → more ≡ out ++ a → more ++ b
    ≡ all
piece_written out rest all more a b so_far split grown =
    ap (λ (x : List ℕ). x ++ b) grown ∙ append_assoc out a b ∙ ap (λ (x : List ℕ). out ++ x) (sym split) ∙ so_far

-- the strings of both sides are those of the flat file
map_again : {X Y Z : Type 0} (f : X → Y) (g : Y → Z) (xs : List X) → map g (map f xs) ≡ map (λ x. g (f x)) xs
map_again f g [] = refl
map_again f g (x ∷ xs) = ap (λ t. g (f x) ∷ t) (map_again f g xs)

pub originals_are : (ms : List Strings) → map (λ m. m.0) (strings_of ms) ≡ sides_of Original ms
originals_are ms = map_again strings_in (λ m. m.0) ms

pub translations_are : (ms : List Strings) → map (λ m. m.1) (strings_of ms) ≡ sides_of Translation ms
translations_are ms = map_again strings_in (λ m. m.1) ms

-- the flat file by its sides
pub flat_file_is : (ms : List Strings) → flat_file (strings_of ms)
    ≡ file (length ms) (sides_of Original ms) (sides_of Translation ms)
flat_file_is ms =
    let n : length (strings_of ms) ≡ length ms = length-map ms strings_in in
    ap (λ (k : ℕ). file k (map (λ m. m.0) (strings_of ms)) (map (λ m. m.1) (strings_of ms))) n
    ∙ ap (λ (os : List (List ℕ)). file (length ms) os (map (λ m. m.1) (strings_of ms))) (originals_are ms)
    ∙ ap (λ (ts : List (List ℕ)). file (length ms) (sides_of Original ms) ts) (translations_are ms)

length-file : (n : ℕ) (os ts : List (List ℕ)) → length os ≡ n → length ts ≡ n → length (file n os ts)
    ≡ 28 + 16 * n + length (pool os) + length (pool ts)
length-file n os ts o t =
    let a = length-pairs (28 + 16 * n) os in
    let b = length-pairs (28 + 16 * n + length (pool os)) ts in
    simp (length-append, length-word) (omega (arith, a, b, o, t))

pub flat_size : (ms : List Strings) → length (flat_file (strings_of ms))
    ≡ 28 + 16 * length ms + length (pool (sides_of Original ms)) + length (pool (sides_of Translation ms))
flat_size ms = ap length (flat_file_is ms)
    ∙ length-file (length ms) (sides_of Original ms) (sides_of Translation ms) (length-map ms (side_of Original))
    (length-map ms (side_of Translation))

-- the file, written part by part
pub file_written : (ms : List Strings) (n first second : ℕ) (v0 v1 v2 v3 v4 v5 : List ℕ) → n ≡ length ms
    → first ≡ 28 + 16 * n → second ≡ 28 + 16 * n + length (pool (sides_of Original ms)) → v0 ≡ []
    → v1 ≡ v0 ++ header n → v2 ≡ v1 ++ pairs first (sides_of Original ms)
    → v3 ≡ v2 ++ pairs second (sides_of Translation ms)
    → v4 ≡ v3 ++ pool (sides_of Original ms) → v5 ≡ v4 ++ pool (sides_of Translation ms)
    → v5 ≡ flat_file (strings_of ms)
file_written ms n first second v0 v1 v2 v3 v4 v5 en ef es e0 e1 e2 e3 e4 e5 =
    rw (flat_file_is ms, e5, e4, e3, e2, e1, e0, es, ef, en) (simp append_assoc)
