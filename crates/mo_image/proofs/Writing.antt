-- The parts of an MO file, string by string, and the file of its parts.
use Rattle.mo_image.proofs.Kit.{◌≡◌, ℕ, ◌+◌, ◌*◌, ◌≤◌, List, [], ◌∷◌, ◌++◌, length, drop, Some, slice_get, refl, sym}
use Rattle.mo_image.proofs.Kit.{ap, ◌∙◌, arith, append_assoc, length-append, Entry, pairs, with_nul, pool, header}
use Rattle.mo_image.proofs.Kit.{string_of, strings_of}
use Rattle.std.proofs.lemmas.List.{drop_more}
use Rattle.std.proofs.lemmas.List.Concat.{flat_map-cons}
use Rattle.std.proofs.lemmas.Option.{get_or_from_slice_get, slice_get_within}
use Rattle.mo_image.specs.MoFile.{word, spelling}
use Rattle.mo_image.specs.Map.{IsLawful}
use Rattle.mo_image.proofs.Lists.{slice_get-map}
use Rattle.mo_image.proofs.MoLengths.{length-with_nul, length-spelling}
use Rattle.mo_image.specs.declared.writer.Side.{Side}
use Rattle.mo_image.specs.declared.writer.Side.TheVariants.{Original, Translation}

drop_found : {X : Type 0} (xs : List X) (i : ℕ) (x : X) → slice_get xs i ≡ Some x → drop i xs ≡ x ∷ drop (i + 1) xs
drop_found xs i x found = drop_more xs i x (slice_get_within xs i x found)
    ∙ ap (λ y. y ∷ drop (i + 1) xs) (get_or_from_slice_get xs i x x found)

module _ (side : Side) (m : List Entry) (i : ℕ) (e : Entry) (found : slice_get m i ≡ Some e) where
  abbrev left : ℕ → List (List ℕ)
  left k = drop k (strings_of side m)

  strings_split : left i ≡ string_of side e ∷ left (i + 1)
  strings_split = drop_found (strings_of side m) i (string_of side e) (slice_get-map (string_of side) m i e found)

  pub pool_split : pool (left i) ≡ with_nul (string_of side e) ++ pool (left (i + 1))
  pool_split = ap pool strings_split ∙ flat_map-cons with_nul (string_of side e) (left (i + 1))

  pub length-pool_split : length (pool (left i)) ≡ length (string_of side e) + 1 + length (pool (left (i + 1)))
  length-pool_split =
      let both = ap length pool_split ∙ length-append (with_nul (string_of side e)) (pool (left (i + 1))) in
      omega (arith, both, length-with_nul (string_of side e))

  pub pairs_split : (at : ℕ) → pairs at (left i)
      ≡ (word (length (string_of side e)) ++ word at) ++ pairs (at + length (string_of side e) + 1) (left (i + 1))
  pairs_split at = ap (pairs at) strings_split

-- one more part has been written
pub piece_written : (out rest all more a b : List ℕ) → out ++ rest ≡ all → rest ≡ a ++ b → more ≡ out ++ a → more ++ b
    ≡ all
piece_written out rest all more a b so_far split grown =
    ap (λ (x : List ℕ). x ++ b) grown ∙ append_assoc out a b ∙ ap (λ (x : List ℕ). out ++ x) (sym split) ∙ so_far

-- the parts of a lawful list's file are short
pub part_lengths : (m : List Entry) → IsLawful m
    → 28 + 16 * length m + length (pool (strings_of Original m)) + length (pool (strings_of Translation m)) ≤ 268435456
part_lengths m lawful = omega (arith, lawful.fits, length-spelling m)

-- the file, written part by part
pub file_written : (m : List Entry) (n o : ℕ) (v0 v1 v2 v3 v4 v5 : List ℕ) → n ≡ length m → o
    ≡ length (pool (strings_of Original m)) → v0 ≡ []
    → v1 ≡ v0 ++ header n → v2 ≡ v1 ++ pairs (28 + 16 * n) (strings_of Original m) → v3 ≡ v2
    ++ pairs (28 + 16 * n + o) (strings_of Translation m)
    → v4 ≡ v3 ++ pool (strings_of Original m) → v5 ≡ v4 ++ pool (strings_of Translation m) → v5 ≡ spelling m
unfolding spelling
file_written m n o v0 v1 v2 v3 v4 v5 en eo e0 e1 e2 e3 e4 e5 = rw (e5, e4, e3, e2, e1, e0, en, eo) refl
