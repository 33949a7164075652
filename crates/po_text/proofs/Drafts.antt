-- A draft comes from at most one entry.
use Rattle.po_text.proofs.Kit.{◌≡◌, ℕ, ◌+◌, List, [], ◌∷◌, ◌++◌, map, length, refl, sym, ap, ◌∙◌, arith, concat}
use Rattle.po_text.proofs.Kit.{AllByRecursion, append-nil, map-append, Entry, Draft, draft_of, offsets}

append_one : {A : Type 0} (xs ys us vs : List A) → xs ++ us ≡ ys ++ vs → length xs ≡ length ys → (xs ≡ ys) × (us ≡ vs)
append_one [] [] us vs e l = (refl, e)
append_one (x ∷ xs) (y ∷ ys) us vs e l =
    let head : x ≡ y = cc e in
    let h = append_one xs ys us vs (cc e) (omega (arith, l)) in
    let rest = h.0 in
    (cc (head, rest), h.1)
append_one _ _ us vs e l = absurd (omega (arith, l))

pub forms_one : (k : ℕ) (fs gs : List (List ℕ)) → concat fs ≡ concat gs → offsets k fs ≡ offsets k gs → fs ≡ gs
forms_one k [] [] e o = refl
forms_one k (f ∷ []) (g ∷ []) e o = let same : f ≡ g = sym (append-nil f) ∙ e
    ∙ append-nil g in ap (λ (x : List ℕ). x ∷ []) same
forms_one k (f ∷ f' ∷ fs) (g ∷ g' ∷ gs) e o =
    let next : k + length f ≡ k + length g = cc o in
    let len : length f ≡ length g = omega (arith, next) in
    let cut = append_one f g (concat (f' ∷ fs)) (concat (g' ∷ gs)) e len in
    let same = cut.0 in
    let rest = forms_one (k + length f) (f' ∷ fs) (g' ∷ gs) cut.1 (cc (o, next)) in
    cc (same, rest)
forms_one k _ _ e o = absurd (cc o)

-- entries with equal fields are equal
pub same_entry : (e e' : Entry) → e.line ≡ e'.line → e.form_line ≡ e'.form_line → e.fuzzy ≡ e'.fuzzy → e.c_format
    ≡ e'.c_format → e.formats ≡ e'.formats → e.context ≡ e'.context → e.id ≡ e'.id → e.plural ≡ e'.plural → e.forms
    ≡ e'.forms → e ≡ e'
same_entry e e' line form_line fuzzy c_format formats context id plural forms =
    ap (λ (x : ℕ). record {
      line = x;
      form_line = e.form_line;
      fuzzy = e.fuzzy;
      c_format = e.c_format;
      formats = e.formats;
      context = e.context;
      id = e.id;
      plural = e.plural;
      forms = e.forms;
    }) line
    ∙ ap (λ (x : _). record {
      line = e'.line;
      form_line = x;
      fuzzy = e.fuzzy;
      c_format = e.c_format;
      formats = e.formats;
      context = e.context;
      id = e.id;
      plural = e.plural;
      forms = e.forms;
    }) form_line
    ∙ ap (λ (x : _). record {
      line = e'.line;
      form_line = e'.form_line;
      fuzzy = x;
      c_format = e.c_format;
      formats = e.formats;
      context = e.context;
      id = e.id;
      plural = e.plural;
      forms = e.forms;
    }) fuzzy
    ∙ ap (λ (x : _). record {
      line = e'.line;
      form_line = e'.form_line;
      fuzzy = e'.fuzzy;
      c_format = x;
      formats = e.formats;
      context = e.context;
      id = e.id;
      plural = e.plural;
      forms = e.forms;
    }) c_format
    ∙ ap (λ (x : _). record {
      line = e'.line;
      form_line = e'.form_line;
      fuzzy = e'.fuzzy;
      c_format = e'.c_format;
      formats = x;
      context = e.context;
      id = e.id;
      plural = e.plural;
      forms = e.forms;
    }) formats
    ∙ ap (λ (x : _). record {
      line = e'.line;
      form_line = e'.form_line;
      fuzzy = e'.fuzzy;
      c_format = e'.c_format;
      formats = e'.formats;
      context = x;
      id = e.id;
      plural = e.plural;
      forms = e.forms;
    }) context
    ∙ ap (λ (x : _). record {
      line = e'.line;
      form_line = e'.form_line;
      fuzzy = e'.fuzzy;
      c_format = e'.c_format;
      formats = e'.formats;
      context = e'.context;
      id = x;
      plural = e.plural;
      forms = e.forms;
    }) id
    ∙ ap (λ (x : _). record {
      line = e'.line;
      form_line = e'.form_line;
      fuzzy = e'.fuzzy;
      c_format = e'.c_format;
      formats = e'.formats;
      context = e'.context;
      id = e'.id;
      plural = x;
      forms = e.forms;
    }) plural
    ∙ ap (λ (x : _). record {
      line = e'.line;
      form_line = e'.form_line;
      fuzzy = e'.fuzzy;
      c_format = e'.c_format;
      formats = e'.formats;
      context = e'.context;
      id = e'.id;
      plural = e'.plural;
      forms = x;
    }) forms

pub draft_one : (e e' : Entry) → draft_of e ≡ draft_of e' → e ≡ e'
draft_one e e' same =
    same_entry e e' (ap (λ (d : Draft). d.lines.entry) same) (ap (λ (d : Draft). d.lines.form) same)
    (ap (λ (d : Draft). d.flags.fuzzy) same) (ap (λ (d : Draft). d.flags.c_format) same)
    (ap (λ (d : Draft). d.flags.formats) same) (ap (λ (d : Draft). d.context) same) (ap (λ (d : Draft). d.id) same)
    (ap (λ (d : Draft). d.plural) same) (forms_one 0 e.forms e'.forms (ap (λ (d : Draft). d.flat) same)
    (ap (λ (d : Draft). d.starts) same))

pub drafts_one : (es fs : List Entry) → map draft_of es ≡ map draft_of fs → es ≡ fs
drafts_one [] [] e = refl
drafts_one (x ∷ es) (y ∷ fs) e =
    let head = draft_one x y (cc e) in
    let tail = drafts_one es fs (cc e) in
    cc (head, tail)
drafts_one _ _ e = absurd (cc e)

-- if some drafts come from entries, so does the last one
pub split_last : (P : Entry → Type 0) (done : List Draft) (d : Draft) (es : List Entry) → AllByRecursion P es → done
    ++ (d ∷ []) ≡ map draft_of es → (e : Entry) × (d ≡ draft_of e) × P e
split_last P [] d [] all e = absurd (cc e)
split_last P [] d (x ∷ es) all e = (x, cc e, all.0)
split_last P (y ∷ done) d [] all e = absurd (cc e)
split_last P (y ∷ done) d (x ∷ es) all e = split_last P done d es all.1 (cc e)

pub snoc_drafts : (es : List Entry) (e : Entry) (d : Draft) → d ≡ draft_of e → map draft_of (es ++ (e ∷ []))
    ≡ map draft_of es ++ (d ∷ [])
snoc_drafts es e d is = map-append draft_of es (e ∷ []) ∙ ap (λ (x : Draft). map draft_of es ++ (x ∷ [])) (sym is)
