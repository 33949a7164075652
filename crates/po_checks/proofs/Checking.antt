-- What the checks find, entry by entry.
use Rattle.std.proofs.Common.{◌≡◌, ◌≢◌, ℕ, zero, suc, ◌+◌, Bool, true, false, cond, not, List, [], ◌∷◌, ◌++◌, length}
use Rattle.std.proofs.Common.{take, Option, Some, None, refl, sym, ap, ◌∙◌, subst, append-nil, inl, inr, arith}
use Rattle.std.specs.Prelude.{◌⊎◌, ◌↔◌, ◌||◌, ◌==◌, IsTrue, slice_get, is_some, option_map}
use Rattle.std.specs.List.{Any}
use Rattle.std.proofs.lemmas.Bool.{false≢true, eqb-false, ne_eqb, not-true}
use Rattle.std.proofs.lemmas.List.Elements.{filter-append}
use denote.Ref.{Bor}
use Rattle.po_text.specs.Entries as po
use Rattle.c_signature.specs.Agreement.{Agrees}
use Rattle.c_signature.specs.Signature as signature
use Rattle.c_signature.specs.declared.Strictness.{Strictness}
use Rattle.c_signature.specs.declared.Strictness.TheVariants.{Same, Prefix}
use Rattle.c_signature.proofs.OneOutcome.{lists_one, lists_valid, lists_independent, one_fault}
use Rattle.po_checks.specs.Checks.{text_if, texts, HasSystemDependentText, format_original, original_or, strictness}
use Rattle.po_checks.specs.Checks.{Differs, FormsDiffer, HasOtherArguments, IsPlural, HasOtherCount}
use Rattle.po_checks.specs.Checks.{begins_with_newline, ends_with_newline, IsMixed, HasOtherNewlines}
use Rattle.po_checks.specs.Found.{FirstLine, line_for, line_of, HasPlurals, AreFound, HasFound}
use Rattle.po_checks.specs.Findings.{first_or, IsReadAs, is_dependent, FormatsDiffer, DiffersFrom, AddsPlural}
use Rattle.po_checks.specs.Findings.{NewlinesDiffer, AddsFormats, AddsTexts}
use Rattle.po_checks.specs.Kept.{is_kept, kept_entries}
use Rattle.po_checks.specs.declared.findings.Findings.{Findings}
use Rattle.po_checks.specs.declared.formats.Format.{Format}
use Rattle.po_checks.specs.declared.formats.Format.TheVariants.{Arguments, Invalid, SystemDependent}
use Rattle.po_checks.specs.declared.formats.FormatFindings.{FormatFindings}
use Rattle.po_checks.specs.declared.plurals.Plurals.{Plurals}
use Rattle.po_checks.specs.declared.options.Options.{Options}
use Rattle.po_checks.proofs.FirstLines.{first_more, first_skip, any_head, any_tail, any_cases, any_none, any_left}
use Rattle.po_checks.proofs.FirstLines.{any_right, any_append_cases, any_weaker}

-- ---- one more entry

pub kept_skip : (o : Options) (es : List po.Entry) (e : po.Entry) → is_kept o e ≡ false → kept_entries o (es ++ e ∷ [])
    ≡ kept_entries o es
kept_skip o es e lacks = filter-append (is_kept o) es (e ∷ []) ∙ ap (λ b. kept_entries o es ++ cond b (e ∷ []) []) lacks
    ∙ append-nil (kept_entries o es)

pub kept_more : (o : Options) (es : List po.Entry) (e : po.Entry) → is_kept o e ≡ true → kept_entries o (es ++ e ∷ [])
    ≡ kept_entries o es ++ e ∷ []
kept_more o es e kept_so = filter-append (is_kept o) es (e ∷ [])
    ∙ ap (λ b. kept_entries o es ++ cond b (e ∷ []) []) kept_so

pub found_skip : (o : Options) (es : List po.Entry) (e : po.Entry) (f : Findings) → is_kept o e ≡ false
    → HasFound o es f → HasFound o (es ++ e ∷ []) f
found_skip o es e f lacks h = subst (λ (ks : List po.Entry). AreFound o.checked ks f) (sym (kept_skip o es e lacks)) h

pub found_formats : (o : Options) (es : List po.Entry) (e : po.Entry) (old new : Findings) → is_kept o e ≡ true
    → o.checked ≡ false → AddsFormats old new e → HasFound o es old → HasFound o (es ++ e ∷ []) new
found_formats o es e old new kept_so lacks a h = subst (λ (ks : List po.Entry). AreFound o.checked ks new)
    (sym (kept_more o es e kept_so)) (record {
      dependent = a.dependent (kept_entries o es) h.dependent;
      mismatch = a.mismatch (kept_entries o es) h.mismatch;
      newlines = λ checked. absurd (false≢true (sym lacks ∙ checked));
      plurals = λ checked. absurd (false≢true (sym lacks ∙ checked));
    })

pub found_all : (o : Options) (es : List po.Entry) (e : po.Entry) (old mid new : Findings) → is_kept o e ≡ true
    → AddsFormats old mid e → AddsTexts mid new e → HasFound o es old → HasFound o (es ++ e ∷ []) new
found_all o es e old mid new kept_so a b h = subst (λ (ks : List po.Entry). AreFound o.checked ks new)
    (sym (kept_more o es e kept_so)) (record {
      dependent = subst (FirstLine HasSystemDependentText (kept_entries o es ++ e ∷ [])) (sym b.dependent)
          (a.dependent (kept_entries o es) h.dependent);
      mismatch = subst (FirstLine HasOtherArguments (kept_entries o es ++ e ∷ [])) (sym b.mismatch)
          (a.mismatch (kept_entries o es) h.mismatch);
      newlines = λ checked. b.newlines (kept_entries o es)
          (subst (FirstLine HasOtherNewlines (kept_entries o es)) (sym a.newlines)
          (h.newlines checked));
      plurals = λ checked. b.plurals (kept_entries o es)
          (subst (HasPlurals (kept_entries o es)) (sym a.plurals) (h.plurals checked));
    })

-- the line of an entry that fails
pub line_more : (P : po.Entry → Type 0) (e : po.Entry) (old new : Option ℕ) (fails : Bool) (line : ℕ)
    → (IsTrue fails ↔ P e) → line ≡ e.line → new ≡ first_or old fails line → (es : List po.Entry) → FirstLine P es old
    → FirstLine P (es ++ e ∷ []) new
line_more P e old new fails line is line_is new_is es f = subst (FirstLine P (es ++ e ∷ []))
    (sym (new_is ∙ ap (first_or old fails) line_is)) (first_more P e fails is old es f)

-- ---- plural entries

other_count : (e : po.Entry) (forms n : ℕ) → forms ≡ length e.forms → IsPlural e → IsTrue (not (forms == n))
    ↔ HasOtherCount n e
other_count e forms n is plural = (
  (λ t. record { plural = plural; differs = λ same. eqb-false forms n (not-true (forms == n) t) (is ∙ same) }),
  (λ h. ap not (ne_eqb forms n (λ same. h.differs (sym is ∙ same)))),
)

pub plurals_skip : (e : po.Entry) (p : Plurals) → ¬ IsPlural e → (es : List po.Entry) → HasPlurals es p
    → HasPlurals (es ++ e ∷ []) p
plurals_skip e p lacks es h = record {
  first = first_skip IsPlural e lacks (line_of p.first) es h.first;
  other = λ n. first_skip (HasOtherCount n) e (λ c. lacks c.plural) (line_for p.first n) es (h.other n);
}

pub plurals_more : (e : po.Entry) (old new : Plurals) (forms line : ℕ) → AddsPlural old new forms line → forms
    ≡ length e.forms → line ≡ e.line → IsPlural e → (es : List po.Entry) → HasPlurals es old
    → HasPlurals (es ++ e ∷ []) new
plurals_more e old new forms line a forms_are line_is plural es h = record {
  first = line_more IsPlural e (line_of old.first) (line_of new.first) true line ((λ t. plural), (λ p. refl)) line_is
      a.first es h.first;
  other = λ n. line_more (HasOtherCount n) e (line_for old.first n) (line_for new.first n) (not (forms == n)) line
      (other_count e forms n forms_are plural) line_is (a.other n) es (h.other n);
}

-- ---- tests of some element

take_push : {X : Type 0} (xs : List X) (k : ℕ) (x : X) → slice_get xs k ≡ Some x → take (suc k) xs ≡ take k xs ++ x ∷ []
take_push [] k x e = absurd cc
take_push (y ∷ ys) zero x e = let same : y ≡ x = cc in ap (λ z. z ∷ []) same
take_push (y ∷ ys) (suc k) x e = ap (λ zs. y ∷ zs) (take_push ys k x e)

-- N says that x or an element before it passes
any_step : {X : Type 0} (P : X → Type 0) (xs : List X) (x : X) (D O N : Type 0) → (D ↔ P x) → (O ↔ Any P xs)
    → (N ↔ (D ⊎ O)) → N ↔ Any P (xs ++ x ∷ [])
any_step P xs x D O N d o n = (
  (λ t. elim (n.0 t) [
    | inl y ↦ any_right P xs (x ∷ []) (any_head P x [] (d.0 y))
    | inr y ↦ any_left P xs (x ∷ [])
        (o.0 y)
  ]),
  (λ a. n.1 (elim (any_append_cases P xs (x ∷ []) a) [
    | inl y ↦ inr (o.1 y)
    | inr y ↦ elim (any_cases P x [] y) [ inl p ↦ inl (d.1 p) | inr z ↦ absurd (any_none P z) ]
  ])),
)

-- N says that x or an element after it passes
pub any_cons : {X : Type 0} (P : X → Type 0) (x : X) (xs : List X) (D O N : Type 0) → (D ↔ P x) → (O ↔ Any P xs)
    → (N ↔ (D ⊎ O)) → N ↔ Any P (x ∷ xs)
any_cons P x xs D O N d o n = (
  (λ t. elim (n.0 t) [ inl y ↦ any_head P x xs (d.0 y) | inr y ↦ any_tail P x xs (o.0 y) ]),
  (λ a. n.1 (elim (any_cases P x xs a) [ inl p ↦ inl (d.1 p) | inr y ↦ inr (o.1 y) ])),
)

pub any_take : {X : Type 0} (P : X → Type 0) (xs : List X) (k : ℕ) (x : X) (D O N : Type 0) → slice_get xs k ≡ Some x
    → (D ↔ P x) → (O ↔ Any P (take k xs)) → (N ↔ (D ⊎ O)) → N ↔ Any P (take (k + 1) xs)
any_take P xs k x D O N at d o n =
    let next : k + 1 ≡ suc k = omega arith in
    let longer : take (k + 1) xs ≡ take k xs ++ x ∷ [] = ap (λ (i : ℕ). take i xs) next ∙ take_push xs k x at in
    subst (λ ys. N ↔ Any P ys) (sym longer) (any_step P (take k xs) x D O N d o n)

pub none_take : {X : Type 0} (P : X → Type 0) (xs : List X) (k : ℕ) (x : X) → slice_get xs k ≡ Some x → ¬ P x
    → ¬ Any P (take k xs) → ¬ Any P (take (k + 1) xs)
none_take P xs k x at not_x none = (any_take P xs k x ⊥ ⊥ ⊥ at ((λ b. absurd b), not_x) ((λ b. absurd b), none)
    ((λ b. absurd b), (λ b. elim b [ inl y ↦ y | inr y ↦ y ]))).1

pub either_true : (a b c : Bool) → c ≡ (a || b) → IsTrue c ↔ (IsTrue a ⊎ IsTrue b)
either_true true b c is = ((λ t. inl refl), (λ t. is))
either_true false b c is = ((λ t. inr (sym is ∙ t)), (λ t. elim t [ inl y ↦ absurd (false≢true y) | inr y ↦ is ∙ y ]))

-- ---- formats

pub dependent_is : (text : List ℕ) (f : Format) → IsReadAs text f → IsTrue (is_dependent f)
    ↔ signature.IsSystemDependent text
dependent_is text (Arguments kinds) r = (
  (λ t. absurd (false≢true t)),
  (λ d. absurd (lists_independent text kinds.items r d)),
)
dependent_is text Invalid r = ((λ t. absurd (false≢true t)), (λ d. absurd (one_fault text r d)))
dependent_is text SystemDependent r = ((λ t. r), (λ d. refl))

pub differ_is : (original : Format) (form : List ℕ) (f : Format) (rule : Strictness) → IsReadAs form f
    → FormatsDiffer original f rule ↔ DiffersFrom original rule form
differ_is (Arguments ks) form (Arguments js) rule r = (
  (λ lacks. inr (js.items, r, lacks)),
  (λ d agrees. elim d [
    | inl invalid ↦ lists_valid form js.items r invalid
    | inr (kinds, lists, lacks) ↦ lacks (subst (λ k. Agrees ks.items k rule) (lists_one form js.items kinds r lists)
        agrees)
  ]),
)
differ_is (Arguments ks) form Invalid rule r = ((λ t. inl r), (λ d. tt))
differ_is (Arguments ks) form SystemDependent rule r = (
  (λ t. absurd t),
  (λ d. elim d [
    | inl invalid ↦ absurd (one_fault form invalid r)
    | inr (kinds, lists, lacks) ↦ absurd
        (lists_independent form kinds lists r)
  ]),
)
differ_is _ form f rule r = ((λ t. absurd t), (λ d. absurd d))

-- the original, read as a format
pub original_is : (e : po.Entry) (f : Format) (rule : Strictness) → IsReadAs (format_original e) f → rule
    ≡ strictness e.plural → Any (DiffersFrom f rule) e.forms ↔ FormsDiffer e
original_is e f rule r rule_is = subst (λ s. Any (DiffersFrom f s) e.forms ↔ FormsDiffer e) (sym rule_is) (of f r)
  where
    of : (f : Format) → IsReadAs (format_original e) f → Any (DiffersFrom f (strictness e.plural)) e.forms
        ↔ FormsDiffer e
    of (Arguments ks) r = (
      (λ a. record { kinds = ks.items; original = r; some = a }),
      (λ d. subst (λ k. Any (Differs k (strictness e.plural)) e.forms)
          (lists_one (format_original e) d.kinds ks.items d.original r) d.some),
    )
    of Invalid r = (
      (λ (k, y, lt, is, p). absurd p),
      (λ d. absurd
          (lists_valid (format_original e) d.kinds d.original r)),
    )
    of SystemDependent r = (
      (λ (k, y, lt, is, p). absurd p),
      (λ d. absurd (lists_independent (format_original e) d.kinds d.original r)),
    )

-- the faults of the first k forms
pub record FormFaults (original : Format) (rule : Strictness) (forms : List (List ℕ)) (k : ℕ) (faults : FormatFindings)
    :
    Type 0 where
  pub dependent : IsTrue faults.system_dependent ↔ Any signature.IsSystemDependent (take k forms)
  pub mismatch : IsTrue faults.mismatch ↔ Any (DiffersFrom original rule) (take k forms)

pub no_faults : (original : Format) (rule : Strictness) (forms : List (List ℕ)) (faults : FormatFindings) → faults
    ≡ record { system_dependent = false; mismatch = false } → FormFaults original rule forms 0 faults
no_faults original rule forms faults is = record {
  dependent = (
    (λ t. absurd (false≢true (sym (ap (λ f. f.system_dependent) is) ∙ t))),
    (λ a. absurd (any_none signature.IsSystemDependent a)),
  );
  mismatch = (
    (λ t. absurd (false≢true (sym (ap (λ f. f.mismatch) is) ∙ t))),
    (λ a. absurd (any_none (DiffersFrom original rule) a)),
  );
}

pub one_more_form : (original : Format) (rule : Strictness) (forms : List (List ℕ)) (k : ℕ) (old new : FormatFindings)
    (text : List ℕ) (form : Format) → FormFaults original rule forms k old → slice_get forms k ≡ Some text
    → IsReadAs text form → new.system_dependent ≡ (is_dependent form || old.system_dependent)
    → (IsTrue new.mismatch ↔ (FormatsDiffer original form rule ⊎ IsTrue old.mismatch))
    → FormFaults original rule forms (k + 1) new
one_more_form original rule forms k old new text form h at r dependent mismatch = record {
  dependent = any_take signature.IsSystemDependent forms k text _ _ _ at (dependent_is text form r) h.dependent
      (either_true (is_dependent form) old.system_dependent new.system_dependent dependent);
  mismatch = any_take (DiffersFrom original rule) forms k text _ _ _ at (differ_is original text form rule r) h.mismatch
      mismatch;
}

texts_alone : (e : po.Entry) → e.plural ≡ None → texts e ≡ e.id ∷ e.forms
texts_alone e is = ap (λ (p : Option (List ℕ)). e.id ∷ (text_if p ++ e.forms)) is

texts_both : (e : po.Entry) (p : List ℕ) → e.plural ≡ Some p → texts e ≡ e.id ∷ p ∷ e.forms
texts_both e p is = ap (λ (p : Option (List ℕ)). e.id ∷ (text_if p ++ e.forms)) is

pub dependent_alone : (e : po.Entry) (id : Format) (forms all : Bool) → e.plural ≡ None → IsReadAs e.id id
    → (IsTrue forms ↔ Any signature.IsSystemDependent e.forms) → all ≡ (is_dependent id || forms) → IsTrue all
    ↔ Any signature.IsSystemDependent (texts e)
dependent_alone e id forms all none r f is = subst (λ ts. IsTrue all ↔ Any signature.IsSystemDependent ts)
    (sym (texts_alone e none))
    (any_cons signature.IsSystemDependent e.id e.forms _ _ _ (dependent_is e.id id r) f
    (either_true (is_dependent id) forms all is))

pub dependent_both : (e : po.Entry) (p : List ℕ) (id plural : Format) (forms some all : Bool) → e.plural ≡ Some p
    → IsReadAs e.id id → IsReadAs p plural → (IsTrue forms ↔ Any signature.IsSystemDependent e.forms) → some
    ≡ (is_dependent plural || forms) → all ≡ (is_dependent id || some) → IsTrue all
    ↔ Any signature.IsSystemDependent (texts e)
dependent_both e p id plural forms some all is_some r r' f some_is all_is = subst
    (λ ts. IsTrue all ↔ Any signature.IsSystemDependent ts) (sym (texts_both e p is_some))
    (any_cons signature.IsSystemDependent e.id (p ∷ e.forms) _ _ _ (dependent_is e.id id r)
    (any_cons signature.IsSystemDependent p e.forms _ _ _ (dependent_is p plural r') f
    (either_true (is_dependent plural) forms some some_is))
    (either_true (is_dependent id) some all all_is))

-- the plural that is borrowed
pub none_lent : (lent : Option (Bor (List ℕ))) (plural : Option (List ℕ)) → option_map (λ text. text.now) lent ≡ plural
    → lent ≡ None → plural ≡ None
none_lent lent plural is none = sym is ∙ ap (option_map (λ (text : Bor (List ℕ)). text.now)) none

pub some_lent : (lent : Option (Bor (List ℕ))) (plural : Option (List ℕ)) (text : Bor (List ℕ))
    → option_map (λ text. text.now) lent ≡ plural → lent ≡ Some text → plural ≡ Some text.now
some_lent lent plural text is some = sym is ∙ ap (option_map (λ (text : Bor (List ℕ)). text.now)) some

pub read_again : (lent text : List ℕ) (f : Format) → lent ≡ text → IsReadAs lent f → IsReadAs text f
read_again lent text f is r = subst (λ t. IsReadAs t f) is r

by_original : (e : po.Entry) (f : Format) (rule : Strictness) (forms all : Bool) → IsReadAs (format_original e) f → rule
    ≡ strictness e.plural → (IsTrue forms ↔ Any (DiffersFrom f rule) e.forms) → all ≡ forms → IsTrue all ↔ FormsDiffer e
by_original e f rule forms all r rule_is differ is =
    let o = original_is e f rule r rule_is in
    ((λ t. o.0 (differ.0 (sym is ∙ t))), (λ d. is ∙ differ.1 (o.1 d)))

pub mismatch_alone : (e : po.Entry) (id : Format) (forms all : Bool) → e.plural ≡ None → IsReadAs e.id id
    → (IsTrue forms ↔ Any (DiffersFrom id Same) e.forms) → all ≡ forms → IsTrue all ↔ FormsDiffer e
mismatch_alone e id forms all none r differ is = by_original e id Same forms all
    (subst (λ t. IsReadAs t id) (ap (original_or e.id) (sym none)) r) (ap strictness (sym none)) differ is

pub mismatch_both : (e : po.Entry) (p : List ℕ) (plural : Format) (forms all : Bool) → e.plural ≡ Some p
    → IsReadAs p plural → (IsTrue forms ↔ Any (DiffersFrom plural Prefix) e.forms) → all ≡ forms → IsTrue all
    ↔ FormsDiffer e
mismatch_both e p plural forms all some r differ is = by_original e plural Prefix forms all
    (subst (λ t. IsReadAs t plural) (ap (original_or e.id) (sym some)) r) (ap strictness (sym some)) differ is

-- ---- newlines

pub not_empty : (lent id : List ℕ) (b : Bool) → lent ≡ id → b ≡ (length lent == 0) → b ≡ false → id ≢ []
not_empty lent id b is b_is b_false same = eqb-false (length lent) 0 (sym b_is ∙ b_false) (ap length (is ∙ same))

-- the test differs between id and one of the others
abbrev OtherThan : (List ℕ → Bool) → List ℕ → List ℕ → Type 0
OtherThan test id text = test id ≢ test text

mixed_from : (test : List ℕ → Bool) (id : List ℕ) (others : List (List ℕ)) → Any (OtherThan test id) others
    → IsMixed test (id ∷ others)
mixed_from test id others (k, text, lt, is, ne) = of (test id) (test text) refl refl
  where
    of : (a b : Bool) → test id ≡ a → test text ≡ b → IsMixed test (id ∷ others)
    of true true p q = absurd (ne (p ∙ sym q))
    of true false p q = record {
      some = any_head _ id others p;
      others = any_tail (λ t. test t ≡ false) id others
          (k, text, lt, is, q);
    }
    of false true p q = record {
      some = any_tail (λ t. test t ≡ true) id others (k, text, lt, is, q);
      others = any_head
          _ id others p;
    }
    of false false p q = absurd (ne (p ∙ sym q))

from_mixed : (test : List ℕ → Bool) (id : List ℕ) (others : List (List ℕ)) → IsMixed test (id ∷ others)
    → Any (OtherThan test id) others
from_mixed test id others m = of (test id) refl
  where
    of : (a : Bool) → test id ≡ a → Any (OtherThan test id) others
    of true p = elim (any_cases (λ t. test t ≡ false) id others m.others) [
      | inl q ↦ absurd (false≢true (sym q ∙ p))
      | inr a ↦ any_weaker (λ t. test t ≡ false) (OtherThan test id) (λ t q same. false≢true (sym q ∙ sym same ∙ p))
          others a
    ]
    of false p = elim (any_cases (λ t. test t ≡ true) id others m.some) [
      | inl q ↦ absurd (false≢true (sym p ∙ q))
      | inr a ↦ any_weaker (λ t. test t ≡ true) (OtherThan test id) (λ t q same. false≢true (sym p ∙ same ∙ q)) others a
    ]

mixed_is : (id : List ℕ) (others : List (List ℕ)) → Any (NewlinesDiffer id) others
    ↔ (IsMixed begins_with_newline (id ∷ others) ⊎ IsMixed ends_with_newline (id ∷ others))
mixed_is id others = (
  (λ (k, text, lt, is, d). elim d.either [
    | inl ne ↦ inl (mixed_from begins_with_newline id others (k, text, lt, is, ne))
    | inr ne ↦ inr (mixed_from ends_with_newline id others (k, text, lt, is, ne))
  ]),
  (λ m. elim m [
    | inl b ↦ any_weaker (OtherThan begins_with_newline id) (NewlinesDiffer id) (λ t ne. record { either = inl ne })
        others (from_mixed begins_with_newline id others b)
    | inr e ↦ any_weaker (OtherThan ends_with_newline id) (NewlinesDiffer id) (λ t ne. record { either = inr ne })
        others (from_mixed ends_with_newline id others e)
  ]),
)

-- a text of the entry differs from its msgid
pub newlines_are : (e : po.Entry) → e.id ≢ [] → Any (NewlinesDiffer e.id) (text_if e.plural)
    ⊎ Any (NewlinesDiffer e.id) e.forms → HasOtherNewlines e
newlines_are e named some = record {
  named = named;
  mixed = (mixed_is e.id (text_if e.plural ++ e.forms)).0 (elim some [
    | inl a ↦ any_left (NewlinesDiffer e.id) (text_if e.plural) e.forms a
    | inr a ↦ any_right (NewlinesDiffer e.id) (text_if e.plural) e.forms a
  ]);
}

pub are_newlines : (e : po.Entry) → HasOtherNewlines e → Any (NewlinesDiffer e.id) (text_if e.plural)
    ⊎ Any (NewlinesDiffer e.id) e.forms
are_newlines e h = any_append_cases (NewlinesDiffer e.id) (text_if e.plural) e.forms
    ((mixed_is e.id (text_if e.plural ++ e.forms)).1 h.mixed)

-- a borrowed text is there if the text is there
pub plural_is : (lent : Option (Bor (List ℕ))) (plural : Option (List ℕ)) (b : Bool)
    → option_map (λ text. text.now) lent ≡ plural → b ≡ is_some lent → b ≡ is_some plural
plural_is None plural b is b_is = b_is ∙ ap (λ (p : Option (List ℕ)). is_some p) is
plural_is (Some text) plural b is b_is = b_is ∙ ap (λ (p : Option (List ℕ)). is_some p) is
