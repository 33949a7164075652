-- The strings of the static messages in the file of revision 0.
use Rattle.std.proofs.Common.{◌≡◌, ℕ, ◌+◌, ◌*◌, ◌<◌, ◌≤◌, List, [], ◌∷◌, ◌++◌, length, map, drop}
use Rattle.std.proofs.Common.{get_or, Some, slice_get, refl, sym, ap, ◌∙◌, subst, arith, append_assoc, length-append}
use Rattle.std.proofs.lemmas.List.{drop_at, length-map, length-drop, length-take-le, get_or_default}
use Rattle.std.proofs.lemmas.List.Concat.{flat_map-append}
use Rattle.std.proofs.lemmas.Option.{slice_get_read}
use Rattle.byteorder.specs.Endian.{little_number}
use Rattle.mo_image.specs.Map.{IsLawful}
use Rattle.mo_image.specs.MoFile.{header, pairs, with_nul, pool, spelling}
use Rattle.mo_image.specs.Tables.{word_at}
use Rattle.mo_image.proofs.FileStrings.{Names, AllNamed, named_at, spelling_describes}
use Rattle.mo_image.proofs.MoLengths.{length-header, length-pairs}
use Rattle.mo_dependent.specs.Layout.{strings, Entry, original, translation}
use Rattle.mo_dependent.proofs.Lengths.{length-strings}

pub pool_behind : (m : List Entry) → drop (28 + 16 * length m) (spelling m) ≡ pool (strings m)
unfolding spelling
pool_behind m =
    let n = length m in
    let os = map original m in
    let ts = map translation m in
    let a = pairs (28 + 16 * n) os in
    let b = pairs (28 + 16 * n + length (pool os)) ts in
    let front = header n ++ (a ++ b) in
    let split : spelling m ≡ front ++ (pool os ++ pool ts) = simp append_assoc in
    let len : length front ≡ 28 + 16 * n = omega (
      arith,
      length-append (header n) (a ++ b),
      length-append a b,
      length-header n,
      length-pairs (28 + 16 * n) os,
      length-pairs (28 + 16 * n + length (pool os)) ts,
      length-map m original,
      length-map m translation,
    ) in
    ap (drop (28 + 16 * n)) split ∙ drop_at front (pool os ++ pool ts) (28 + 16 * n) len
    ∙ sym (flat_map-append with_nul os ts)

named_both : (bytes : List ℕ) (offset : ℕ) (os ts : List (List ℕ)) → AllNamed bytes offset os
    → AllNamed bytes (offset + 8 * length os) ts → AllNamed bytes offset (os ++ ts)
named_both bytes offset [] ts os_named ts_named = subst (λ n. AllNamed bytes n ts) (omega arith) ts_named
named_both bytes offset (o ∷ os) ts os_named ts_named = (
  os_named.0,
  named_both bytes (offset + 8) os ts os_named.1 (subst (λ n. AllNamed bytes n ts) (omega arith) ts_named),
)

named_len : (bytes : List ℕ) (offset : ℕ) (s : List ℕ) → Names bytes offset s
    → word_at little_number bytes offset ≡ length s
named_len bytes offset s named =
    let start = word_at little_number bytes (offset + 4) in
    let len = word_at little_number bytes offset in
    let room : len ≤ length (drop start bytes) = omega (arith, named.lies, length-drop start bytes) in
    sym (length-take-le len (drop start bytes) room) ∙ ap length named.string

-- the i-th row has the length of the i-th string
pub row_len : (m : List Entry) (i : ℕ) → IsLawful m → i < 2 * length m
    → word_at little_number (spelling m) (28 + 8 * i) ≡ length (get_or (strings m) i [])
row_len m i lawful lt =
    let s = get_or (strings m) i [] in
    let short : i < length (strings m) = omega (arith, lt, length-strings m) in
    let told = spelling_describes m (omega (arith, lawful.fits)) in
    let found : slice_get (strings m) i ≡ Some s = slice_get_read (strings m) (length (strings m)) i s refl short
    (get_or_default (strings m) i [] s short) in
    let second : AllNamed (spelling m) (28 + 8 * length (map original m)) (map translation m) =
    subst (λ n. AllNamed (spelling m) n (map translation m)) (omega (arith, length-map m original)) told.translations in
    named_len (spelling m) (28 + 8 * i) s (named_at (spelling m) 28 (strings m) i s
    (named_both (spelling m) 28 (map original m) (map translation m) told.originals second) found)

-- the table, and what is behind it, lies in the file
pub rows_lie : (m : List Entry) → IsLawful m → 28 + 16 * length m ≤ length (spelling m)
rows_lie m lawful = (spelling_describes m (omega (arith, lawful.fits))).long

-- the strings lie in it
pub strings_lie : (m : List Entry) → length (pool (strings m)) ≤ length (spelling m)
strings_lie m = omega (arith, ap length (pool_behind m), length-drop (28 + 16 * length m) (spelling m))
