-- The strings of a lawful entry are lawful.
use Rattle.std.proofs.Common.{◌≡◌, ℕ, ◌+◌, ◌≤◌, List, [], ◌∷◌, ◌++◌, length, Option, Some, None, refl, ap, arith}
use Rattle.std.specs.Prelude.{IfSome}
use Rattle.std.specs.List.{AllByRecursion, join_with_byte, count_by}
use Rattle.std.proofs.lemmas.List.Sums.{sum_by-append}
use Rattle.catalogue.specs.Entry.{Entry, key, key_bytes, with_plural, original, translation, LacksByte, IsText}
use Rattle.catalogue.specs.Entry.{IsKeyText, HasForms, IsLawfulEntry}
use Rattle.mo_image.proofs.EntryParts.{key_lacks_nul}
use Rattle.mo_image.proofs.Originals.{original_utf8, translation_utf8}
use Rattle.mo_file.specs.MoReading.{before_nul, IsOriginalText, IsTranslationText, HasLawfulForms}
use Rattle.mo_tables.proofs.Cuts.{is, count_none}
use Rattle.mo_file.proofs.Entries.{key_of_original}

-- a byte between two texts that lack it
counted_once : (byte : ℕ) (a b : List ℕ) → LacksByte byte a → LacksByte byte b → count_by (is byte) (byte ∷ []) ≡ 1
    → count_by (is byte) (a ++ (byte ∷ b)) ≡ 1
counted_once byte a b la lb it =
    let both : count_by (is byte) (a ++ (byte ∷ b)) ≡ count_by (is byte) a + count_by (is byte) ((byte ∷ []) ++ b) =
    sum_by-append _ a (byte ∷ b) in
    let tail : count_by (is byte) ((byte ∷ []) ++ b) ≡ count_by (is byte) (byte ∷ []) + count_by (is byte) b =
    sum_by-append _ (byte ∷ []) b in
    omega (arith, both, tail, it, count_none byte a la, count_none byte b lb)

key_separators : (context : Option (List ℕ)) (id : List ℕ) → IfSome context IsKeyText → IsKeyText id
    → count_by (is 4) (key_bytes context id) ≤ 1
key_separators None id c i = omega (arith, count_none 4 id i.no_separator)
key_separators (Some context) id c i = omega (arith, counted_once 4 context id c.no_separator i.no_separator refl)

pub original_text : (e : Entry) → IsLawfulEntry e → IsOriginalText (original e)
original_text e lawful =
    let same : before_nul (original e) ≡ key e = key_of_original (key e) e.plural
    (key_lacks_nul e.context e.id lawful.context lawful.id) in
    let few : count_by (is 4) (key e) ≤ 1 = key_separators e.context e.id lawful.context lawful.id in
    record {
      utf8 = original_utf8 e lawful;
      separators = omega (arith, ap (count_by (is 4)) same, few);
    }

pub translation_text : (e : Entry) → IsLawfulEntry e → IsTranslationText (translation e)
translation_text e lawful = record { utf8 = translation_utf8 e lawful }

one_form : (forms : List (List ℕ)) → length forms ≡ 1 → AllByRecursion IsText forms
    → count_by (is 0) (join_with_byte 0 forms) ≡ 0
one_form [] count texts = absurd (omega (arith, count))
one_form (f ∷ []) count texts = count_none 0 f texts.0.no_nul
one_form (f ∷ g ∷ fs) count texts = absurd (omega (arith, count))

forms_by : (k : List ℕ) (plural : Option (List ℕ)) (forms : List (List ℕ)) → LacksByte 0 k → IfSome plural IsText
    → AllByRecursion IsText forms → HasForms plural forms
    → HasLawfulForms (with_plural k plural) (join_with_byte 0 forms)
forms_by k None forms lacks p texts counted = record {
  plurals = omega (arith, count_none 0 k lacks);
  alone = λ e.
      one_form forms counted texts;
}
forms_by k (Some plural) forms lacks p texts counted =
    let once : count_by (is 0) (k ++ (0 ∷ plural)) ≡ 1 = counted_once 0 k plural lacks p.no_nul refl in
    record { plurals = omega (arith, once); alone = λ e. absurd (omega (arith, once, e)) }

pub lawful_forms : (e : Entry) → IsLawfulEntry e → HasLawfulForms (original e) (translation e)
lawful_forms e lawful = forms_by (key e) e.plural e.forms (key_lacks_nul e.context e.id lawful.context lawful.id)
    lawful.plural lawful.forms lawful.counted
