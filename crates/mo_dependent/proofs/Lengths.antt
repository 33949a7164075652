-- The lengths of the parts of a file.
use Rattle.std.proofs.Common.{◌≡◌, ℕ, ◌+◌, ◌*◌, List, [], ◌∷◌, length, map, refl, ap, ◌∙◌, arith, length-append}
use Rattle.std.specs.List.{flat_map, sum_by}
use Rattle.std.proofs.lemmas.List.{length-map}
use Rattle.std.proofs.lemmas.List.Concat.{flat_map-cons}
use Rattle.std.proofs.lemmas.List.Sums.{sum_by-cons}
use Rattle.mo_image.specs.MoFile.{word, pool}
use Rattle.mo_image.proofs.MoLengths.{length-word, length-pairs}
use Rattle.mo_dependent.specs.Splits.{texts, text_of, text_pool, end_of, Split, SplitText, Dependent}
use Rattle.mo_dependent.specs.Segments.{segments, segment_rows}
use Rattle.mo_dependent.specs.Layout.{rows_from, descriptor_len, pointers, descriptors, strings, sizes_of, file_with}
use Rattle.mo_dependent.specs.Layout.{strings_at, names_at, texts_at, descriptors_at, Entry, original, translation}
use Rattle.mo_dependent.proofs.Steps.{length-texts}

length-words : (ns : List ℕ) → length (flat_map word ns) ≡ 4 * length ns
length-words [] = refl
length-words (n ∷ ns) =
    let both = ap length (flat_map-cons word n ns) ∙ length-append (word n) (flat_map word ns) in
    omega (arith, both, length-word n, length-words ns)

length-segment_rows : (at : ℕ) (ns : List (List ℕ)) → length (segment_rows at ns) ≡ 8 * length ns
length-segment_rows at [] = refl
length-segment_rows at (n ∷ ns) =
    let more = length-segment_rows (at + (length n + 1)) ns in
    simp (length-append, length-word) (omega (arith, more))

length-pointers : (at : ℕ) (ts : List SplitText) → length (pointers at ts) ≡ 4 * length ts
length-pointers at [] = refl
length-pointers at (t ∷ ts) =
    let more = length-pointers (at + descriptor_len t) ts in
    simp (length-append, length-word) (omega (arith, more))

length-rows_from : (names : List (List ℕ)) (text : List ℕ) (from : ℕ) (ss : List Split)
    → length (rows_from names text from ss) ≡ 8 + 8 * length ss
length-rows_from names text from [] = simp (length-append, length-word)
length-rows_from names text from (s ∷ ss) =
    let more = length-rows_from names text (end_of s) ss in
    simp (length-append, length-word) (omega (arith, more))

length-descriptors : (names : List (List ℕ)) (at : ℕ) (ts : List SplitText)
    → length (descriptors names at ts) ≡ sum_by descriptor_len ts
length-descriptors names at [] = refl
length-descriptors names at (t ∷ ts) =
    let more = length-descriptors names (at + length (text_of t)) ts in
    let these = length-rows_from names t.bytes.items 0 t.splits.items in
    let all = sum_by-cons descriptor_len t ts in
    simp (length-append, length-word) (omega (arith, more, these, all))

pub length-strings : (m : List Entry) → length (strings m) ≡ 2 * length m
length-strings m = omega (
  arith,
  length-append (map original m) (map translation m),
  length-map m original,
  length-map m translation,
)

pub length-file : (m : List Entry) (messages : List Dependent) (slots : List ℕ) → length (file_with m messages slots)
    ≡ 48 + 16 * length m + 4 * length slots + 8 * length (segments messages) + 8 * length messages
    + sum_by descriptor_len (texts messages) + length (pool (strings m)) + length (pool (segments messages))
    + length (text_pool (texts messages))
length-file m messages slots =
    let s = sizes_of m messages slots in
    let names = segments messages in
    let b = length-pairs (strings_at m messages slots) (strings m) in
    let c = length-words slots in
    let d = length-segment_rows (names_at m messages slots) names in
    let e = length-pointers (descriptors_at s) (texts messages) in
    let f = length-descriptors names (texts_at m messages slots) (texts messages) in
    simp (length-append, length-word) (omega (arith, b, c, d, e, f, length-strings m, length-texts messages))
