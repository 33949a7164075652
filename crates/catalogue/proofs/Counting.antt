-- The statistics and the header's line, counted over outlines and over entries.
use Rattle.catalogue.proofs.Kit.{◌≡◌, ℕ, ◌+◌, Bool, true, false, cond, List, [], ◌∷◌, Option, Some}
use Rattle.catalogue.proofs.Kit.{refl, sym, ap, ◌∙◌, arith, find, count_by, sum_by-cons, is_kept, kept_entries}
use Rattle.catalogue.proofs.Kit.{header_line_of, Outline, outline, outlines, outline_of, outlines_from, texts_of}
use Rattle.catalogue.proofs.Kit.{counts_as, is_kept_header, Options, Draft, Untranslated, Fuzzy, Translated}
use Rattle.std.proofs.Common.{not}
use Rattle.std.specs.Prelude.{◌&&◌, if◌then◌else◌}
use Rattle.std.specs.Option.{option_map_or}
use Rattle.po_text.specs.Entries as po
use Rattle.catalogue_drafts.proofs.Collecting.{kept_texts_are}
use Rattle.po_checks.specs.Kept.{is_header, is_untranslated}
use Rattle.catalogue.specs.Meaning.{is_fuzzy, is_translated, counted_entries}
use Rattle.catalogue_drafts.specs.Drafts.{standing_of, same_standing}
use Rattle.catalogue_drafts.specs.declared.texts.Standing.{Standing}
use Rattle.catalogue_drafts.specs.declared.texts.Standing.TheVariants.{Header}

abbrev one_if : {X : Type 0} → (X → Bool) → X → ℕ
one_if p x = cond (p x) 1 0

-- ---- counts

over_outlines : (s : Standing) (ds : List Draft) → count_by (λ d. counts_as s (outline d)) ds
    ≡ count_by (counts_as s) (outlines ds)
over_outlines s [] = refl
over_outlines s (d ∷ ds) = sum_by-cons (λ x. one_if (counts_as s) (outline x)) d ds
    ∙ ap (λ n. one_if (counts_as s) (outline d) + n) (over_outlines s ds)
    ∙ sym (sum_by-cons (one_if (counts_as s)) (outline d) (outlines ds))

over_entries : (o : Options) (s : Standing) (q : po.Entry → Bool)
    → ((e : po.Entry) → same_standing (standing_of e) s ≡ (not (is_header e) && q e)) → (k : ℕ) (es : List po.Entry)
    → count_by (counts_as s) (outlines_from o k es) ≡ count_by q (counted_entries es)
over_entries o s q says k [] = refl
over_entries o s q says k (e ∷ es) =
    let rest = over_entries o s q says (k + 1) es in
    sum_by-cons (one_if (counts_as s)) (outline_of o k e) (outlines_from o (k + 1) es)
    ∙ ap (λ n. one_if (counts_as s) (outline_of o k e) + n) rest
    ∙ ap (λ b. cond b 1 0 + count_by q (counted_entries es)) (says e) ∙ of (is_header e) refl
  where
    of : (h : Bool) → is_header e ≡ h → cond (not (is_header e) && q e) 1 0 + count_by q (counted_entries es)
        ≡ count_by q (cond (not (is_header e)) (e ∷ counted_entries es) (counted_entries es))
    of true is = rw is (omega arith)
    of false is = rw is (sym (sum_by-cons (one_if q) e (counted_entries es)))

abbrev stands_so : Bool → Bool → Bool → Standing
stands_so h u f = if h then Header else if u then Untranslated else if f then Fuzzy else Translated

untranslated_so : (h u f : Bool) → same_standing (stands_so h u f) Untranslated ≡ (not h && u)
untranslated_so false false true = refl
untranslated_so _ _ _ = refl

fuzzy_so : (h u f : Bool) → same_standing (stands_so h u f) Fuzzy ≡ (not h && (not u && f))
fuzzy_so false false true = refl
fuzzy_so _ _ _ = refl

translated_so : (h u f : Bool) → same_standing (stands_so h u f) Translated ≡ (not h && (not u && not f))
translated_so false false true = refl
translated_so _ _ _ = refl

header_so : (h u f : Bool) → same_standing (stands_so h u f) Header ≡ h
header_so false false true = refl
header_so _ _ _ = refl

abbrev pub AreOutlines : Options → List po.Entry → List Draft → Type 0
AreOutlines o es ds = outlines ds ≡ outlines_from o 0 es

count_of : (o : Options) (es : List po.Entry) (ds : List Draft) (s : Standing) (q : po.Entry → Bool)
    → AreOutlines o es ds → ((e : po.Entry) → same_standing (standing_of e) s ≡ (not (is_header e) && q e))
    → count_by (λ d. counts_as s (outline d)) ds ≡ count_by q (counted_entries es)
count_of o es ds s q are says = over_outlines s ds ∙ ap (count_by (counts_as s)) are ∙ over_entries o s q says 0 es

pub untranslated_count : (o : Options) (es : List po.Entry) (ds : List Draft) → AreOutlines o es ds
    → count_by (λ d. counts_as Untranslated (outline d)) ds ≡ count_by is_untranslated (counted_entries es)
untranslated_count o es ds are = count_of o es ds Untranslated is_untranslated are
    (λ e. untranslated_so (is_header e) (is_untranslated e) e.fuzzy)

pub fuzzy_count : (o : Options) (es : List po.Entry) (ds : List Draft) → AreOutlines o es ds
    → count_by (λ d. counts_as Fuzzy (outline d)) ds ≡ count_by is_fuzzy (counted_entries es)
fuzzy_count o es ds are = count_of o es ds Fuzzy is_fuzzy are (λ e. fuzzy_so (is_header e) (is_untranslated e) e.fuzzy)

pub translated_count : (o : Options) (es : List po.Entry) (ds : List Draft) → AreOutlines o es ds
    → count_by (λ d. counts_as Translated (outline d)) ds ≡ count_by is_translated (counted_entries es)
translated_count o es ds are = count_of o es ds Translated is_translated are
    (λ e. translated_so (is_header e) (is_untranslated e) e.fuzzy)

-- ---- the header

line_over_outlines : (ds : List Draft) → option_map_or (λ d. d.line) (find (λ d. is_kept_header (outline d)) ds) 0
    ≡ option_map_or (λ (r : Outline). r.line) (find is_kept_header (outlines ds)) 0
line_over_outlines [] = refl
line_over_outlines (d ∷ ds) = of (is_kept_header (outline d)) (line_over_outlines ds)
  where
    of : (b : Bool) → option_map_or (λ d. d.line) (find (λ d. is_kept_header (outline d)) ds) 0
        ≡ option_map_or (λ (r : Outline). r.line) (find is_kept_header (outlines ds)) 0
        → option_map_or (λ d. d.line) (cond b (Some d) (find (λ d. is_kept_header (outline d)) ds)) 0
        ≡ option_map_or (λ (r : Outline). r.line) (cond b (Some (outline d)) (find is_kept_header (outlines ds))) 0
    of true rest = refl
    of false rest = rest

pub header_outline : (o : Options) (k : ℕ) (e : po.Entry) → is_kept_header (outline_of o k e)
    ≡ (is_header e && is_kept o e)
header_outline o k e = rw (
  header_so (is_header e) (is_untranslated e) e.fuzzy,
  kept_texts_are (is_kept o e)
      (texts_of e),
) refl

pub split_find : (t : Bool) (e : po.Entry) (ks : List po.Entry) → find is_header (cond t (e ∷ ks) ks)
    ≡ cond t (cond (is_header e) (Some e) (find is_header ks)) (find is_header ks)
split_find true e ks = refl
split_find false e ks = refl

line_or : (h t : Bool) (r : Outline) (e : po.Entry) (x : Option Outline) (y : Option po.Entry) → r.line ≡ e.line
    → option_map_or (λ (r : Outline). r.line) x 0 ≡ option_map_or (λ (e : po.Entry). e.line) y 0
    → option_map_or (λ (r : Outline). r.line) (cond (h && t) (Some r) x) 0
    ≡ option_map_or (λ (e : po.Entry). e.line) (cond t (cond h (Some e) y) y) 0
line_or true true r e x y same rest = same
line_or false true r e x y same rest = rest
line_or _ _ r e x y same rest = rest

line_over_entries : (o : Options) (k : ℕ) (es : List po.Entry)
    → option_map_or (λ (r : Outline). r.line) (find is_kept_header (outlines_from o k es)) 0 ≡ header_line_of o es
line_over_entries o k [] = refl
line_over_entries o k (e ∷ es) =
    ap (λ b. option_map_or (λ (r : Outline). r.line) (cond b (Some (outline_of o k e))
    (find is_kept_header (outlines_from o (k + 1) es))) 0) (header_outline o k e)
    ∙ line_or (is_header e) (is_kept o e) (outline_of o k e) e (find is_kept_header (outlines_from o (k + 1) es))
    (find is_header (kept_entries o es)) refl (line_over_entries o (k + 1) es)
    ∙ sym (ap (λ (x : Option po.Entry). option_map_or (λ (e : po.Entry). e.line) x 0)
    (split_find (is_kept o e) e (kept_entries o es)))

pub header_line_is : (o : Options) (es : List po.Entry) (ds : List Draft) → AreOutlines o es ds
    → option_map_or (λ d. d.line) (find (λ d. is_kept_header (outline d)) ds) 0 ≡ header_line_of o es
header_line_is o es ds are = line_over_outlines ds ∙ ap (λ (rs : List Outline). option_map_or (λ (r : Outline). r.line)
    (find is_kept_header rs) 0) are ∙ line_over_entries o 0 es
