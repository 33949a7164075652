-- The header among the drafts is that of the text, and the catalogue's.
use Rattle.catalogue.proofs.Kit.{◌≡◌, ℕ, ◌+◌, ◌<◌, Bool, true, false, cond, List, [], ◌∷◌, length, map, get_or, Option}
use Rattle.catalogue.proofs.Kit.{Some, None, refl, sym, ap, ◌∙◌, subst, arith, inl, inr, ◌⊎◌, Contains, IfSome}
use Rattle.catalogue.proofs.Kit.{option_map, AllByRecursion, find, bytes_eq, cases_lt, false≢true, get_or-map}
use Rattle.catalogue.proofs.Kit.{get_or_default, length-map, All-contains, Entry, key, translation, HasAcceptedCharset}
use Rattle.catalogue.proofs.Kit.{message_of, key_of, is_kept, kept_entries, HasDistinctKeys, IsMapOf, Kept, Outline}
use Rattle.catalogue.proofs.Kit.{outline, outlines, outline_of, outlines_from, texts_of, is_kept_header}
use Rattle.catalogue.proofs.Kit.{IsLawfulMessage, Options, Draft}
use Rattle.std.specs.Prelude.{◌&&◌, ◌==◌, is_none}
use Rattle.std.specs.List.{slice_split}
use Rattle.std.proofs.lemmas.Slice.Eq.{bytes_eq-Decides}
use Rattle.po_text.specs.Entries as po
use Rattle.mo_image.specs.Entry.{key_bytes}
use Rattle.mo_image.specs.Map.{entry_at, first_form, header_text}
use Rattle.po_checks.specs.Kept.{is_empty, is_header, kept_header, header_text_of, NamesAcceptedCharset}
use Rattle.catalogue_drafts.specs.Drafts.{outline_text, text_found, header_text_in}
use Rattle.catalogue.proofs.Counting.{AreOutlines, header_outline, split_find}
use Rattle.mo_image.proofs.EntryParts.{split_joined, some_form, lack_nul}
use Rattle.catalogue_drafts.proofs.Members.{has_head, has_tail, has_cases, has_map, from_map, from_filter, from_find}

-- an outline is that of a kept entry
pub record IsRowOf (o : Options) (es : List po.Entry) (r : Outline) (e : po.Entry) : Type 0 where
  pub number : ℕ
  pub is : r ≡ outline_of o number e
  pub has : Contains es e
  pub is_kept : is_kept o e ≡ true
  pub lawful : IsLawfulMessage e

-- an outline and an entry were found, or neither
abbrev Found : Options → List po.Entry → Option Outline → Option po.Entry → Type 0
Found o es None None = Unit {0}
Found o es (Some r) (Some e) = IsRowOf o es r e
Found o es _ _ = ⊥

longer : (o : Options) (x : po.Entry) (es : List po.Entry) (r : Option Outline) (e : Option po.Entry) → Found o es r e
    → Found o (x ∷ es) r e
longer o x es None None f = tt
longer o x es (Some r) (Some e) f = record {
  number = f.number;
  is = f.is;
  has = has_tail e x es f.has;
  is_kept =
      f.is_kept;
  lawful = f.lawful;
}
longer o x es _ _ f = f

step : (o : Options) (k : ℕ) (e : po.Entry) (es : List po.Entry) (h t : Bool) (r : Option Outline) (x : Option po.Entry)
    → is_kept o e ≡ t → IsLawfulMessage e → Found o es r x → Found o (e ∷ es)
    (cond (h && t) (Some (outline_of o k e)) r) (cond t (cond h (Some e) x) x)
step o k e es true true r x is lawful f = record {
  number = k;
  is = refl;
  has = has_head e e es refl;
  is_kept = is;
  lawful = lawful;
}
step o k e es false true r x is lawful f = longer o e es r x f
step o k e es _ _ r x is lawful f = longer o e es r x f

found : (o : Options) (k : ℕ) (es : List po.Entry) → AllByRecursion IsLawfulMessage es
    → Found o es (find is_kept_header (outlines_from o k es)) (kept_header o es)
found o k [] lawful = tt
found o k (e ∷ es) lawful =
    let rest = find is_kept_header (outlines_from o (k + 1) es) in
    let R : Bool → Type 0 = λ b. Found o (e ∷ es) (cond b (Some (outline_of o k e)) rest) (kept_header o (e ∷ es)) in
    let X : Option po.Entry → Type 0 = λ x. Found o (e ∷ es)
    (cond (is_header e && is_kept o e) (Some (outline_of o k e)) rest) x in
    subst R (sym (header_outline o k e)) (subst X (sym (split_find (is_kept o e) e (kept_entries o es)))
    (step o k e es (is_header e) (is_kept o e) rest (kept_header o es) refl lawful.0 (found o (k + 1) es lawful.1)))

-- ---- what it names

forms_again : (e : po.Entry) → IsLawfulMessage e → slice_split (λ b. b == 0) (translation (message_of e)) ≡ e.forms
forms_again e lawful = split_joined e.forms (some_form e.plural e.forms lawful.counted) (lack_nul e.forms lawful.forms)

row_texts : (o : Options) (es : List po.Entry) (r : Outline) (e : po.Entry) → IsRowOf o es r e → r.texts
    ≡ Some (texts_of e)
row_texts o es r e f = ap (λ (x : Outline). x.texts) f.is ∙ rw f.is_kept refl

row_text_is : (o : Options) (es : List po.Entry) (r : Outline) (e : po.Entry) → IsRowOf o es r e → outline_text r
    ≡ Some (first_form e.forms)
row_text_is o es r e f = ap (option_map (λ (t : Kept). first_form (slice_split (λ b. b == 0) t.1)))
    (row_texts o es r e f) ∙ ap (λ (forms : List (List ℕ)). Some (first_form forms)) (forms_again e f.lawful)

text_is : (o : Options) (es : List po.Entry) (r : Option Outline) (e : Option po.Entry) → Found o es r e → text_found r
    ≡ option_map (λ e. first_form e.forms) e
text_is o es None None f = refl
text_is o es (Some r) (Some e) f = row_text_is o es r e f
text_is o es _ _ f = absurd f

find_outlines : (ds : List Draft) → option_map outline (find (λ d. is_kept_header (outline d)) ds)
    ≡ find is_kept_header (outlines ds)
find_outlines [] = refl
find_outlines (d ∷ ds) = of (is_kept_header (outline d)) (find_outlines ds)
  where
    of : (b : Bool) → option_map outline (find (λ d. is_kept_header (outline d)) ds) ≡ find is_kept_header (outlines ds)
        → option_map outline (cond b (Some d) (find (λ d. is_kept_header (outline d)) ds))
        ≡ cond b (Some (outline d)) (find is_kept_header (outlines ds))
    of true rest = refl
    of false rest = rest

-- the text of the kept header
pub header_text_is : (o : Options) (es : List po.Entry) (ds : List Draft) → AreOutlines o es ds
    → AllByRecursion IsLawfulMessage es → header_text_in ds ≡ header_text_of o es
header_text_is o es ds are lawful = ap text_found (find_outlines ds ∙ ap (find is_kept_header) are)
    ∙ text_is o es (find is_kept_header (outlines_from o 0 es)) (kept_header o es) (found o 0 es lawful)

accepted_by : (e : Option po.Entry) → IfSome (option_map (λ e. first_form e.forms) e) HasAcceptedCharset
    → IfSome e NamesAcceptedCharset
accepted_by None named = tt
accepted_by (Some e) named = named

pub accepted : (o : Options) (es : List po.Entry) → IfSome (header_text_of o es) HasAcceptedCharset
    → IfSome (kept_header o es) NamesAcceptedCharset
accepted o es named = accepted_by (kept_header o es) named

-- the header names a charset that isn't accepted
pub record NamesAnother (o : Options) (es : List po.Entry) : Type 0 where
  pub header : po.Entry
  pub is : kept_header o es ≡ Some header
  pub foreign : ¬ NamesAcceptedCharset header

another_by : (o : Options) (es : List po.Entry) (e : Option po.Entry) → kept_header o es ≡ e
    → (IfSome (option_map (λ e. first_form e.forms) e) HasAcceptedCharset → ⊥) → NamesAnother o es
another_by o es None is no_name = absurd (no_name tt)
another_by o es (Some e) is no_name = record { header = e; is = is; foreign = no_name }

pub another : (o : Options) (es : List po.Entry) → (IfSome (header_text_of o es) HasAcceptedCharset → ⊥)
    → NamesAnother o es
another o es no_name = another_by o es (kept_header o es) refl no_name

-- ---- the header of the catalogue

-- entries with equal keys are the same entry, if keys are distinct
one_of : (es : List po.Entry) (x y : po.Entry) → HasDistinctKeys es → Contains es x → Contains es y → key_of x
    ≡ key_of y → x ≡ y
one_of es x y distinct (i, li, ix) (j, lj, jy) same =
    elim (cases_lt i j) [
      | inl lt ↦ absurd (distinct i j [] lt (omega (arith, lj, length-map es key_of))
          (at i x li ix ∙ same ∙ sym (at j y lj jy)))
      | inr le ↦ elim (cases_lt j i) [
        | inl lt ↦ absurd (distinct j i [] lt (omega (arith, li, length-map es key_of))
            (at j y lj jy ∙ sym same ∙ sym (at i x li ix)))
        | inr ge ↦ let k : i ≡ j = omega (arith, le, ge) in sym ix ∙ get_or_default es i x y li
            ∙ ap (λ n. get_or es n y) k ∙ jy
      ]
    ]
  where
    at : (n : ℕ) (z : po.Entry) → n < length es → get_or es n z ≡ z → get_or (map key_of es) n [] ≡ key_of z
    at n z lt is = get_or-map key_of es n z [] lt ∙ ap key_of is

-- the entry with the empty key is the header
no_key : (context : Option (List ℕ)) (id : List ℕ) → key_bytes context id ≡ [] → (is_none context && is_empty id) ≡ true
no_key None [] e = refl
no_key (Some []) id e = absurd cc
no_key _ _ e = absurd cc

header_key : (context : Option (List ℕ)) (id : List ℕ) → (is_none context && is_empty id) ≡ true → key_bytes context id
    ≡ []
header_key None [] e = refl
header_key _ _ e = absurd (false≢true e)

-- what a search finds passes and is a member; if a member passes, the search finds something
pub record Finds {X : Type 0} (p : X → Bool) (es : List X) (e : X) : Type 0 where
  pub found : X
  pub is : find p es ≡ Some found
  pub passes : p found ≡ true
  pub has : Contains es found

finds : {X : Type 0} (p : X → Bool) (es : List X) (e : X) → Contains es e → p e ≡ true → Finds p es e
finds p [] e has passes = absurd (omega (arith, has.1))
finds p (x ∷ es) e has passes = of (p x) refl (has_cases e x es has) (λ h. finds p es e h passes)
  where
    of : (b : Bool) → p x ≡ b → (x ≡ e) ⊎ Contains es e → (Contains es e → Finds p es e) → Finds p (x ∷ es) e
    of true is h rest = record { found = x; is = rw is refl; passes = is; has = has_head x x es refl }
    of false is (inl same) rest = absurd (false≢true (sym is ∙ ap p same ∙ passes))
    of false is (inr t) rest = let f = rest t in record {
      found = f.found;
      is = rw is f.is;
      passes = f.passes;
      has =
          has_tail f.found x es f.has;
    }

-- an entry of the catalogue with the empty key is the kept header's message
catalogued : (o : Options) (es : List po.Entry) (m : List Entry) → IsMapOf (kept_entries o es) m → HasDistinctKeys es
    → (x : Entry) → entry_at m [] ≡ Some x → Some (first_form x.forms) ≡ header_text_of o es
catalogued o es m is distinct x at =
    let here = from_find (λ (e : Entry). bytes_eq (key e) []) m x at in
    let no_key_of : key x ≡ [] = (bytes_eq-Decides (key x) []).0 here.1 in
    let (e, has, same) = from_map message_of (kept_entries o es) x
    (All-contains (Contains (map message_of (kept_entries o es))) m x
    is.nothing_else here.0) in
    let e_key : key_of e ≡ [] = ap key same ∙ no_key_of in
    let h = finds is_header (kept_entries o es) e has (no_key e.context e.id e_key) in
    let h_key : key_of h.found ≡ [] = header_key h.found.context h.found.id h.passes in
    let one : e ≡ h.found = one_of es e h.found distinct (from_filter (is_kept o) es e has)
    (from_filter (is_kept o) es h.found h.has) (e_key ∙ sym h_key) in
    ap (λ (y : Entry). Some (first_form y.forms)) (sym same ∙ ap message_of one)
    ∙ sym (ap (option_map (λ (e : po.Entry). first_form e.forms)) h.is)

-- the catalogue has the message of the kept header
uncatalogued : (o : Options) (es : List po.Entry) (m : List Entry) → IsMapOf (kept_entries o es) m → entry_at m []
    ≡ None
    → (e : po.Entry) → kept_header o es ≡ Some e → ⊥
uncatalogued o es m is at e header =
    let here = from_find is_header (kept_entries o es) e header in
    let has : Contains m (message_of e) = All-contains (Contains m) (map message_of (kept_entries o es)) (message_of e)
    is.listed (has_map message_of (kept_entries o es) e here.0) in
    let f = finds (λ (x : Entry). bytes_eq (key x) []) m (message_of e) has
    ((bytes_eq-Decides (key_of e) []).1 (header_key e.context e.id here.1)) in
    absurd (none_is_some (sym at ∙ f.is))
  where
    none_is_some : {x : Entry} → None ≡ Some x → ⊥
    none_is_some e = absurd cc

-- the header's text in the catalogue is that of the kept header
pub map_text : (o : Options) (es : List po.Entry) (m : List Entry) → IsMapOf (kept_entries o es) m → HasDistinctKeys es
    → header_text m ≡ header_text_of o es
map_text o es m is distinct = of (entry_at m []) (kept_header o es) refl refl
  where
    of : (x : Option Entry) (h : Option po.Entry) → entry_at m [] ≡ x → kept_header o es ≡ h
        → header_text m ≡ header_text_of o es
    of (Some x) h at header = ap (option_map (λ (e : Entry). first_form e.forms)) at
        ∙ catalogued o es m is distinct x at
    of None None at header = ap (option_map (λ (e : Entry). first_form e.forms)) at
        ∙ sym (ap (option_map (λ (e : po.Entry). first_form e.forms)) header)
    of None (Some e) at header = absurd (uncatalogued o es m is at e header)
