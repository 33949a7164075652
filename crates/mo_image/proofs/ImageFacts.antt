-- What the MO file of a lawful map holds.
use Rattle.mo_image.proofs.Kit.{◌≡◌, ℕ, zero, suc, ◌+◌, ◌*◌, ◌<◌, ◌≤◌, List, [], ◌∷◌, length, map, Some, slice_get}
use Rattle.mo_image.proofs.Kit.{refl, sym, ap, ◌∙◌, subst, arith, drop, IfSome, slice_index, IsUtf8, length-drop}
use Rattle.mo_image.proofs.Kit.{length-map, length-take-le, little_number, Entry, key, original, translation}
use Rattle.mo_image.proofs.Kit.{IsLawfulEntry, word_at, string_at, key_part, entry_of, IsImage, NamesText}
use Rattle.std.specs.Prelude.{Option}
use Rattle.mo_image.specs.Map.{IsFileOf, IsLawful}
use Rattle.mo_image.specs.MoFile.{spelling}
use Rattle.mo_image.specs.Tables.{strings}
use Rattle.mo_image.specs.Image.{listing}
use Rattle.mo_image.proofs.Lists.{slice_get-map, at_index}
use Rattle.mo_image.proofs.FileStrings.{strings_named, Describes, spelling_describes, Names, named_at}
use Rattle.mo_image.proofs.Originals.{entry_again_of, entries_again, key_is, original_utf8, translation_utf8}

pub image_describes : (bytes : List ℕ) → IsImage bytes → Describes bytes (length (listing bytes))
    (map original (listing bytes)) (map translation (listing bytes))
image_describes bytes image =
    let P : List ℕ → Type 0 = λ b. Describes b (length (listing bytes)) (map original (listing bytes))
    (map translation (listing bytes)) in
    subst P (sym image.spelt) (spelling_describes (listing bytes) (omega (arith, image.lawful.fits)))

pub image_small : (bytes : List ℕ) → IsImage bytes → length bytes ≤ 268435456
image_small bytes image = omega (arith, image.lawful.fits, ap length image.spelt)

text_named : (bytes : List ℕ) (offset : ℕ) (s : List ℕ) → Names bytes offset s → IsUtf8 s → NamesText bytes offset
text_named bytes offset s named utf8 = record {
  row = named.row;
  room = named.lies;
  utf8 = subst IsUtf8
      (sym named.string) utf8;
}

-- the i-th entry of n
pub record EntryFacts (bytes : List ℕ) (n i : ℕ) : Type 0 where
  pub small : 28 + 8 * n + 8 * i + 8 ≤ length bytes
  pub original : NamesText bytes (28 + 8 * i)
  pub translation : NamesText bytes (28 + 8 * n + 8 * i)
  pub with_nul : slice_index bytes (word_at little_number bytes (28 + 8 * n + 8 * i + 4) + word_at little_number bytes
      (28 + 8 * n + 8 * i)) ≡ 0
  pub found : slice_get (listing bytes) i ≡ Some (entry_of (string_at little_number bytes (28 + 8 * i))
      (string_at little_number bytes (28 + 8 * n + 8 * i)))
  pub lawful : IsLawfulEntry (entry_of (string_at little_number bytes (28 + 8 * i))
      (string_at little_number bytes (28 + 8 * n + 8 * i)))

facts_of : (bytes : List ℕ) (i : ℕ) (e : Entry) → IsImage bytes → slice_get (listing bytes) i ≡ Some e
    → EntryFacts bytes (length (listing bytes)) i
facts_of bytes i e image here =
    let m = listing bytes in
    let n = length m in
    let d = image_describes bytes image in
    let lawful : IsLawfulEntry e = at_index IsLawfulEntry m i e image.lawful.each here in
    let o = named_at bytes 28 (map original m) i (original e) d.originals (slice_get-map original m i e here) in
    let t = named_at bytes (28 + 8 * n) (map translation m) i (translation e) d.translations
    (slice_get-map translation m i e here) in
    let same : entry_of (string_at little_number bytes (28 + 8 * i))
    (string_at little_number bytes (28 + 8 * n + 8 * i)) ≡ e = rw (o.string, t.string) (entry_again_of e lawful) in
    record {
      small = t.row;
      original = text_named bytes (28 + 8 * i) (original e) o (original_utf8 e lawful);
      translation = text_named bytes (28 + 8 * n + 8 * i) (translation e) t (translation_utf8 e lawful);
      with_nul = t.with_nul;
      found = here ∙ ap (λ x. Some x) (sym same);
      lawful = subst IsLawfulEntry (sym same) lawful;
    }

some_at : {X : Type 0} (xs : List X) (i : ℕ) → i < length xs → (x : X) × (slice_get xs i ≡ Some x)
some_at [] i lt = absurd (omega arith)
some_at (x ∷ xs) zero lt = (x, refl)
some_at (x ∷ xs) (suc i) lt = some_at xs i (omega arith)

pub entry_facts : (bytes : List ℕ) (i : ℕ) → IsImage bytes → i < length (listing bytes)
    → EntryFacts bytes (length (listing bytes)) i
entry_facts bytes i image lt = let here = some_at (listing bytes) i lt in facts_of bytes i here.0 image here.1

pub entry_room : (bytes : List ℕ) (i : ℕ) → IsImage bytes → i < length (listing bytes)
    → 28 + 8 * length (listing bytes) + 8 * i + 8 ≤ 268435456
entry_room bytes i image lt = omega (arith, (entry_facts bytes i image lt).small, image_small bytes image)

pub header_long : (bytes : List ℕ) → IsImage bytes → 12 ≤ length bytes
header_long bytes image = omega (arith, (image_describes bytes image).long)

pub string_small : (bytes : List ℕ) (offset : ℕ) → NamesText bytes offset → length bytes ≤ 268435456
    → length (string_at little_number bytes offset) < 4294967296
string_small bytes offset text small =
    let n = word_at little_number bytes offset in
    let start = word_at little_number bytes (offset + 4) in
    omega (
      arith,
      small,
      text.room,
      length-drop start bytes,
      length-take-le n (drop start bytes) (omega (arith, length-drop start bytes, text.room)),
    )

-- the key before an original's NUL is that of the entry
pub key_found : (bytes : List ℕ) (i : ℕ) (k : List ℕ) → IsImage bytes → i < length (listing bytes) → k
    ≡ key_part (string_at little_number bytes (28 + 8 * i)) → IfSome (slice_get (listing bytes) i) (λ e. k ≡ key e)
key_found bytes i k image lt is =
    let facts = entry_facts bytes i image lt in
    let P : Option Entry → Type 0 = λ found. IfSome found (λ e. k ≡ key e) in
    subst P (sym facts.found) (is ∙ sym (key_is (string_at little_number bytes (28 + 8 * i))
    (string_at little_number bytes (28 + 8 * length (listing bytes) + 8 * i))))

pub listing_again : (m : List Entry) → IsLawful m → listing (spelling m) ≡ m
unfolding listing
listing_again m lawful =
    let d = spelling_describes m (omega (arith, lawful.fits)) in
    let f = spelling m in
    let n = length m in
    let os : strings little_number f 28 n ≡ map original m = ap (strings little_number f 28)
    (sym (length-map m original)) ∙ strings_named f 28 (map original m) d.originals in
    let ts : strings little_number f (28 + 8 * n) n ≡ map translation m = ap (strings little_number f (28 + 8 * n))
    (sym (length-map m translation)) ∙ strings_named f (28 + 8 * n) (map translation m) d.translations in
    rw (d.count, os, ts) (entries_again m lawful.each)

-- the file of a lawful map is an image
pub spelling_image : (m : List Entry) → IsLawful m → IsImage (spelling m)
spelling_image m lawful =
    let same = listing_again m lawful in
    record { lawful = subst IsLawful (sym same) lawful; spelt = ap spelling (sym same) }

-- the file of a map is the image of the map that its tables name
pub file_image : (bytes : List ℕ) (m : List Entry) → IsFileOf bytes m → IsImage bytes
file_image bytes m file =
    let same : listing bytes ≡ m = ap listing file.spelt ∙ listing_again m file.lawful in
    record { lawful = subst IsLawful (sym same) file.lawful; spelt = file.spelt ∙ sym (ap spelling same) }

pub image_file : (bytes : List ℕ) → IsImage bytes → IsFileOf bytes (listing bytes)
image_file bytes image = record { lawful = image.lawful; spelt = image.spelt }
