-- The file that is written of a lawful map passes all tests, and is an MO file of that map.
use Rattle.std.proofs.Common.{◌≡◌, ℕ, zero, suc, ◌+◌, ◌*◌, ◌^◌, ◌<◌, ◌≤◌, List, [], ◌∷◌, length, map, Option, Some}
use Rattle.std.proofs.Common.{slice_get, refl, sym, ap, ◌∙◌, subst, arith}
use Rattle.std.specs.Prelude.{IfSome, option_map}
use Rattle.std.specs.Ordering.{nat_cmp}
use Rattle.std.specs.declared.cmp.Ordering.TheVariants.{Less}
use Rattle.std.specs.Cmp.Lexicographic.{slice_cmp}
use Rattle.std.proofs.lemmas.List.{length-map}
use Rattle.byteorder.specs.Endian.{little_number}
use Rattle.catalogue.specs.Entry.{Entry, key, original, translation, IsLawfulEntry}
use Rattle.catalogue.specs.MoFile.{file, spelling}
use Rattle.catalogue.specs.Map.{first_form, HasAcceptedCharset, IsFileOf, IsLawful}
use Rattle.mo_image.proofs.EntryParts.{key_lacks_nul, split_joined, some_form, lack_nul}
use Rattle.mo_image.proofs.Lists.{slice_get-map, at_index}
use Rattle.entry_search.proofs.Searching.{rises_pair, find_some}
use Rattle.mo_file.specs.Tables.{word_at, string_at, strings}
use Rattle.mo_file.specs.MoReading.{table_at, count, originals_start, translations_start, file_by, order, before_nul}
use Rattle.mo_file.specs.MoReading.{TableLies, AllHaveNul, AreOriginalTexts, AreTranslationTexts, HaveLawfulForms}
use Rattle.mo_file.specs.MoReading.{KeysRise, HaveLawfulHeaders, Fits, Passes, rank, Mo}
use Rattle.mo_file.specs.declared.fault.MoFault.{MoFault}
use Rattle.mo_file.specs.declared.fault.MoFault.TheVariants.{TooLarge, Short, Magic, Revision, Bounds, NoNul, BadText}
use Rattle.mo_file.specs.declared.fault.MoFault.TheVariants.{Forms, Order, Charset, Swollen, Memory}
use Rattle.mo_file.proofs.ByteOrders.{order_little}
use Rattle.mo_tables.proofs.Cuts.{first_form_is}
use Rattle.mo_file.proofs.Entries.{key_of_original}
use Rattle.mo_file.proofs.LawfulStrings.{original_text, translation_text, lawful_forms}
use Rattle.mo_image.proofs.FileStrings.{Names, strings_named, named_at, Describes, spelling_describes}

-- the tests that a file passes, given the words of its header
record AllPass (number : ℕ → List ℕ → ℕ) (bytes : List ℕ) (o t n : ℕ) : Type 0 where
  short : length bytes ≤ 268435456
  long : 28 ≤ length bytes
  magic : word_at number bytes 0 ≡ 0x950412de
  revision : word_at number bytes 4 ≡ 0
  originals_lie : TableLies (table_at number bytes o n)
  translations_lie : TableLies (table_at number bytes t n)
  originals_have_nul : AllHaveNul (table_at number bytes o n)
  translations_have_nul : AllHaveNul (table_at number bytes t n)
  original_texts : AreOriginalTexts (table_at number bytes o n)
  translation_texts : AreTranslationTexts (table_at number bytes t n)
  forms : HaveLawfulForms (table_at number bytes o n) (table_at number bytes t n)
  rise : KeysRise (table_at number bytes o n)
  headers : HaveLawfulHeaders (table_at number bytes o n) (table_at number bytes t n)
  fits : Fits (table_at number bytes o n) (table_at number bytes t n)

passed : (number : ℕ → List ℕ → ℕ) (bytes : List ℕ) → AllPass number bytes (originals_start number bytes)
    (translations_start number bytes) (count number bytes)
    → (fault : MoFault) → rank fault < 12 → Passes (file_by number bytes) fault
passed number bytes all TooLarge below = all.short
passed number bytes all Short below = all.long
passed number bytes all Magic below = all.magic
passed number bytes all Revision below = all.revision
passed number bytes all Bounds below = (all.originals_lie, all.translations_lie)
passed number bytes all NoNul below = (all.originals_have_nul, all.translations_have_nul)
passed number bytes all BadText below = (all.original_texts, all.translation_texts)
passed number bytes all Forms below = all.forms
passed number bytes all Order below = all.rise
passed number bytes all Charset below = all.headers
passed number bytes all Swollen below = all.fits
passed number bytes all Memory below = tt

entry_in : (m : List Entry) (i : ℕ) → i < length m → (e : Entry) × (slice_get m i ≡ Some e)
entry_in [] i lt = absurd (omega (arith, lt))
entry_in (e ∷ m) zero lt = (e, refl)
entry_in (e ∷ m) (suc i) lt = entry_in m i (omega (arith, lt))

-- the rows of a table name the strings of the entries
module _ (m : List Entry) (lawful : IsLawful m) where
  abbrev bytes : List ℕ
  bytes = spelling m

  abbrev n : ℕ
  n = length m

  abbrev t : ℕ
  t = 28 + 8 * length m

  short : length bytes < 2 ^ 32
  short = omega (arith, lawful.fits)

  told : Describes bytes n (map original m) (map translation m)
  told = spelling_describes m short

  -- the i-th entry and its rows
  record Row (i : ℕ) : Type 0 where
    entry : Entry
    found : slice_get m i ≡ Some entry
    lawful_entry : IsLawfulEntry entry
    of_original : Names bytes (28 + 8 * i) (original entry)
    of_translation : Names bytes (t + 8 * i) (translation entry)

  row : (i : ℕ) → i < n → Row i
  row i lt =
      let e = entry_in m i lt in
      record {
        entry = e.0;
        found = e.1;
        lawful_entry = at_index IsLawfulEntry m i e.0 lawful.each e.1;
        of_original = named_at bytes 28 (map original m) i (original e.0) told.originals
            (slice_get-map original m i e.0 e.1);
        of_translation = named_at bytes t (map translation m) i (translation e.0) told.translations
            (slice_get-map translation m i e.0 e.1);
      }

  key_named : (i : ℕ) → (r : Row i) → before_nul (string_at little_number bytes (28 + 8 * i)) ≡ key r.entry
  key_named i r = ap before_nul r.of_original.string ∙ key_of_original (key r.entry) r.entry.plural
      (key_lacks_nul r.entry.context r.entry.id r.lawful_entry.context r.lawful_entry.id)

  first_named : (i : ℕ) → (r : Row i) → before_nul (string_at little_number bytes (t + 8 * i))
      ≡ first_form r.entry.forms
  first_named i r =
      ap before_nul r.of_translation.string ∙ sym (first_form_is (translation r.entry))
      ∙ ap first_form (split_joined r.entry.forms (some_form r.entry.plural r.entry.forms r.lawful_entry.counted)
      (lack_nul r.entry.forms r.lawful_entry.forms))

  header_named : (i : ℕ) → (r : Row i) → key r.entry ≡ [] → HasAcceptedCharset (first_form r.entry.forms)
  header_named i r empty =
      let P : Option Entry → Type 0 = λ found. IfSome (option_map (λ e. first_form e.forms) found) HasAcceptedCharset in
      subst P (find_some m i r.entry [] lawful.rises r.found empty) lawful.charset

  step_named : (i : ℕ) → i + 1 < n → slice_cmp nat_cmp (before_nul (string_at little_number bytes (28 + 8 * i)))
      (before_nul (string_at little_number bytes (28 + 8 * (i + 1)))) ≡ Less
  step_named i lt =
      let r : Row i = row i (omega (arith, lt)) in
      let s : Row (i + 1) = row (i + 1) lt in
      ap (λ (k : List ℕ). slice_cmp nat_cmp k (before_nul (string_at little_number bytes (28 + 8 * (i + 1)))))
      (key_named i r)
      ∙ ap (slice_cmp nat_cmp (key r.entry)) (key_named (i + 1) s)
      ∙ rises_pair m i (i + 1) r.entry s.entry lawful.rises (omega arith) r.found s.found

  originals_are : strings little_number bytes 28 n ≡ map original m
  originals_are = ap (strings little_number bytes 28) (sym (length-map m original))
      ∙ strings_named bytes 28 (map original m) told.originals

  translations_are : strings little_number bytes t n ≡ map translation m
  translations_are = ap (strings little_number bytes t) (sym (length-map m translation))
      ∙ strings_named bytes t (map translation m) told.translations

  spelled : file n (strings little_number bytes 28 n) (strings little_number bytes t n) ≡ bytes
  unfolding spelling
  spelled = ap (λ (os : List (List ℕ)). file n os (strings little_number (spelling m) t n)) originals_are
      ∙ ap (file n (map original m)) translations_are

  all_pass : AllPass little_number bytes 28 t n
  all_pass = record {
    short = lawful.fits;
    long = omega (arith, told.long);
    magic = told.magic;
    revision = told.revision;
    originals_lie = record { rows = λ some. omega (arith, told.long); strings = λ i lt. (row i lt).of_original.lies };
    translations_lie = record {
      rows = λ some. omega (arith, told.long);
      strings = λ i lt.
          (row i lt).of_translation.lies;
    };
    originals_have_nul = record { each = λ i lt. (row i lt).of_original.with_nul };
    translations_have_nul = record { each = λ i lt. (row i lt).of_translation.with_nul };
    original_texts = record {
      each = λ i lt. let r = row i lt in rw r.of_original.string
          (original_text r.entry r.lawful_entry);
    };
    translation_texts = record {
      each = λ i lt. let r = row i lt in rw r.of_translation.string
          (translation_text r.entry r.lawful_entry);
    };
    forms = record {
      each = λ i lt. let r = row i lt in rw (r.of_original.string, r.of_translation.string)
          (lawful_forms r.entry r.lawful_entry);
    };
    rise = record { each = λ i lt. step_named i lt };
    headers = record {
      each = λ i lt. let r = row i lt in record {
        accepted = λ empty. subst HasAcceptedCharset (sym (first_named i r))
            (header_named i r (sym (key_named i r) ∙ empty));
      };
    };
    fits = record { short = omega (arith, ap length spelled, lawful.fits) };
  }

  -- the claims about the byte order and the words of the header
  abbrev Claim : (ℕ → List ℕ → ℕ) → ℕ → ℕ → ℕ → Type 0
  Claim number a b c = AllPass number bytes a b c × (map original m ≡ strings number bytes a c)
      × (map translation m ≡ strings number bytes b c)

  claimed : Claim little_number 28 t n
  claimed = (all_pass, sym originals_are, sym translations_are)

  counted : Claim little_number 28 t (count little_number bytes)
  counted = subst (λ c. Claim little_number 28 t c) (sym told.count) claimed

  placed : Claim little_number 28 (translations_start little_number bytes) (count little_number bytes)
  placed = subst (λ b. Claim little_number 28 b (count little_number bytes)) (sym told.translations_table) counted

  read : Claim little_number (originals_start little_number bytes) (translations_start little_number bytes)
      (count little_number bytes)
  read = subst (λ a. Claim little_number a (translations_start little_number bytes) (count little_number bytes))
      (sym told.originals_table) placed

  ordered : Claim (order bytes) (originals_start (order bytes) bytes) (translations_start (order bytes) bytes)
      (count (order bytes) bytes)
  ordered =
      let P : (ℕ → List ℕ → ℕ) → Type 0 = λ number. Claim number (originals_start number bytes)
      (translations_start number bytes) (count number bytes) in
      subst P (sym (order_little bytes told.magic)) read

  pub reads_back : Mo (spelling m) m
  reads_back = record {
    lawful = lawful;
    passed = passed (order bytes) bytes ordered.0;
    originals = ordered.1;
    translations = ordered.2;
  }

-- a file in the layout that is written
pub file_is_read : (bytes : List ℕ) (m : List Entry) → IsFileOf bytes m → Mo bytes m
file_is_read written m of = subst (λ (b : List ℕ). Mo b m) (sym of.spelt) (reads_back m of.lawful)
