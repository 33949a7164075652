-- The entries that originals and translations make up.
use Rattle.std.proofs.Common.{◌≡◌, ℕ, ◌+◌, ◌<◌, ◌≤◌, Bool, true, false, cond, List, length, Option, Some, None, refl}
use Rattle.std.proofs.Common.{ap, arith}
use Rattle.std.specs.Prelude.{option_map, IfSome}
use Rattle.std.specs.List.{before_first, after_first, slice_split, count_by}
use Rattle.std.specs.Str.{IsUtf8}
use Rattle.std.proofs.lemmas.Bool.{ltb-true, lt-ltb, le-ltb}
use Rattle.std.proofs.lemmas.List.{take_all}
use Rattle.std.proofs.lemmas.List.Splits.{length-slice_split}
use Rattle.catalogue.specs.Entry.{LacksByte, IsText, IsKeyText, HasForms, IsLawfulEntry}
use Rattle.catalogue.specs.Parts.{cut, behind}
pub use Rattle.mo_image.proofs.Originals.{key_of_original, plural_of_original, entry_again_of, entries_again, key_is}
pub use Rattle.mo_image.proofs.Originals.{original_is, translation_is}
use Rattle.mo_file.specs.MoReading.{before_nul, IsOriginalText, IsTranslationText, HasLawfulForms}
use Rattle.mo_file.specs.Pairs.{plural_part, entry_of}
use Rattle.mo_tables.proofs.Cuts.{is, offset, holds, front_lacks, absent, count_none, behind_lacks, LacksByte-take}
use Rattle.mo_tables.proofs.Cuts.{LacksByte-drop, front_utf8, behind_utf8, parts_are_texts}

abbrev cut_at : ℕ → List ℕ → Bool → Option (List ℕ × List ℕ)
cut_at byte text test = cond test (Some (before_first (is byte) text, after_first (is byte) text)) None

-- ---- the entry of lawful strings is lawful

pub record IsKeyOf (k : List ℕ) (c : Option (List ℕ × List ℕ)) : Type 0 where
  pub context : IfSome (option_map (λ p. p.0) c) IsKeyText
  pub id : IsKeyText (behind k c)

key_texts_by : (k : List ℕ) → IsUtf8 k → LacksByte 0 k → count_by (is 4) k ≤ 1 → (test : Bool) → holds 4 k ≡ test
    → IsKeyOf k (cut_at 4 k test)
key_texts_by k utf8 no_nul once true e =
    let lt : offset 4 k < length k = ltb-true _ _ e in
    record {
      context = record {
        utf8 = front_utf8 4 k (omega arith) utf8;
        no_nul = LacksByte-take 0 (offset 4 k) k no_nul;
        no_separator = front_lacks 4 k;
      };
      id = record {
        utf8 = behind_utf8 4 k (omega arith) utf8 lt;
        no_nul = LacksByte-drop 0 (offset 4 k + 1) k no_nul;
        no_separator = behind_lacks 4 k lt once;
      };
    }
key_texts_by k utf8 no_nul once false e = record {
  context = tt;
  id = record
      { utf8 = utf8; no_nul = no_nul; no_separator = absent 4 k e };
}

plural_text_by : (o : List ℕ) → IsUtf8 o → count_by (is 0) o ≤ 1 → (test : Bool) → holds 0 o ≡ test
    → IfSome (option_map (λ p. p.1) (cut_at 0 o test)) IsText
plural_text_by o utf8 once true e =
    let lt : offset 0 o < length o = ltb-true _ _ e in
    record { utf8 = behind_utf8 0 o (omega arith) utf8 lt; no_nul = behind_lacks 0 o lt once }
plural_text_by o utf8 once false e = tt

counted_by : (o t : List ℕ) → HasLawfulForms o t → (test : Bool) → holds 0 o ≡ test
    → HasForms (option_map (λ p. p.1) (cut_at 0 o test)) (slice_split (is 0) t)
counted_by o t forms true e = omega (arith, length-slice_split (is 0) t)
counted_by o t forms false e = omega (arith, length-slice_split (is 0) t, forms.alone (count_none 0 o (absent 0 o e)))

pub lawful_entry : (o t : List ℕ) → IsOriginalText o → IsTranslationText t → HasLawfulForms o t
    → IsLawfulEntry (entry_of o t)
lawful_entry o t ot tt' forms =
    let k : List ℕ = before_nul o in
    let texts : IsKeyOf k (cut 4 k) = key_texts_by k (front_utf8 0 o (omega arith) ot.utf8) (front_lacks 0 o)
    ot.separators (holds 4 k) refl in
    record {
      context = texts.context;
      id = texts.id;
      plural = plural_text_by o ot.utf8 forms.plurals (holds 0 o) refl;
      forms = parts_are_texts t tt'.utf8;
      counted = counted_by o t forms (holds 0 o) refl;
    }

-- where an original is cut
pub plural_there : (o : List ℕ) → offset 0 o < length o → plural_part o ≡ Some (after_first (is 0) o)
plural_there o lt = ap (λ (b : Bool). option_map (λ p. p.1) (cut_at 0 o b)) (lt-ltb _ _ lt)

pub plural_absent : (o : List ℕ) → offset 0 o ≡ length o → plural_part o ≡ None
plural_absent o e = ap (λ (b : Bool). option_map (λ p. p.1) (cut_at 0 o b)) (le-ltb _ _ (omega (arith, e)))

pub key_alone : (o : List ℕ) → offset 0 o ≡ length o → before_nul o ≡ o
key_alone o e = take_all (offset 0 o) o (omega (arith, e))
