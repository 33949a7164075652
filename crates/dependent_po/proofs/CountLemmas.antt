-- The statistics, counted over standings and over entries.
use Rattle.std.proofs.Common.{◌≡◌, ℕ, ◌+◌, Bool, true, false, cond, not, List, [], ◌∷◌, map, refl, sym, ap, ◌∙◌, arith}
use Rattle.std.specs.Prelude.{◌&&◌, if◌then◌else◌}
use Rattle.std.specs.List.{count_by}
use Rattle.std.proofs.lemmas.List.Sums.{sum_by-cons}
use Rattle.po_text.specs.Entries as po
use Rattle.catalogue.specs.Meaning.{is_fuzzy, is_translated, counted_entries}
use Rattle.catalogue.specs.Meaning as catalogue
use Rattle.dependent_po.specs.Counts.{standing_of, same_standing, stats_by, is_header, is_untranslated, Stats, Standing}
use Rattle.dependent_po.specs.declared.counts.Standing.TheVariants.{Header, Untranslated, Fuzzy, Translated}

abbrev one_if : {X : Type 0} → (X → Bool) → X → ℕ
one_if p x = cond (p x) 1 0

over_entries : (s : Standing) (q : po.Entry → Bool)
    → ((e : po.Entry) → same_standing s (standing_of e) ≡ (not (is_header e) && q e)) → (es : List po.Entry)
    → count_by (same_standing s) (map standing_of es) ≡ count_by q (counted_entries es)
over_entries s q says [] = refl
over_entries s q says (e ∷ es) =
    sum_by-cons (one_if (same_standing s)) (standing_of e) (map standing_of es)
    ∙ ap (λ n. one_if (same_standing s) (standing_of e) + n) (over_entries s q says es)
    ∙ ap (λ b. cond b 1 0 + count_by q (counted_entries es)) (says e) ∙ of (is_header e) refl
  where
    of : (h : Bool) → is_header e ≡ h → cond (not (is_header e) && q e) 1 0 + count_by q (counted_entries es)
        ≡ count_by q (cond (not (is_header e)) (e ∷ counted_entries es) (counted_entries es))
    of true is = rw is (omega arith)
    of false is = rw is (sym (sum_by-cons (one_if q) e (counted_entries es)))

abbrev stands_so : Bool → Bool → Bool → Standing
stands_so h u f = if h then Header else if u then Untranslated else if f then Fuzzy else Translated

untranslated_so : (h u f : Bool) → same_standing Untranslated (stands_so h u f) ≡ (not h && u)
untranslated_so true u f = refl
untranslated_so false true f = refl
untranslated_so false false true = refl
untranslated_so false false false = refl

fuzzy_so : (h u f : Bool) → same_standing Fuzzy (stands_so h u f) ≡ (not h && (not u && f))
fuzzy_so true u f = refl
fuzzy_so false true f = refl
fuzzy_so false false true = refl
fuzzy_so false false false = refl

translated_so : (h u f : Bool) → same_standing Translated (stands_so h u f) ≡ (not h && (not u && not f))
translated_so true u f = refl
translated_so false true f = refl
translated_so false false true = refl
translated_so false false false = refl

pub stats_are : (es : List po.Entry) → stats_by (map standing_of es) ≡ catalogue.stats_of es
stats_are es =
    let of : ℕ → ℕ → ℕ → Stats = λ x y z. record { translated = x; fuzzy = y; untranslated = z } in
    let t = over_entries Translated is_translated
    (λ e. translated_so (is_header e) (is_untranslated e) e.fuzzy) es in
    let f = over_entries Fuzzy is_fuzzy (λ e. fuzzy_so (is_header e) (is_untranslated e) e.fuzzy) es in
    let u = over_entries Untranslated is_untranslated
    (λ e. untranslated_so (is_header e) (is_untranslated e) e.fuzzy) es in
    ap (λ n. of n (count_by (same_standing Fuzzy) (map standing_of es))
    (count_by (same_standing Untranslated) (map standing_of es))) t
    ∙ ap (λ n. of (count_by is_translated (counted_entries es)) n
    (count_by (same_standing Untranslated) (map standing_of es))) f
    ∙ ap (λ n. of (count_by is_translated (counted_entries es)) (count_by is_fuzzy (counted_entries es)) n) u
