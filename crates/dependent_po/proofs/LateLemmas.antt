-- The checks look at an entry as though it had no format: what they find then, and what refuses the entries besides.
use Rattle.std.proofs.Common.{◌≡◌, ℕ, Bool, true, false, cond, List, [], ◌∷◌, ◌++◌, map, Option, Some, None}
use Rattle.std.proofs.Common.{refl, sym, ap, ◌∙◌, subst, arith, inl, inr}
use Rattle.std.specs.Prelude.{◌⊎◌, IsTrue, option_map}
use Rattle.std.specs.List.{Any, find}
use Rattle.std.specs.Option.{option_map_or}
use Rattle.std.proofs.lemmas.Bool.{false≢true}
use Rattle.po_text.specs.Entries as po
use Rattle.po_header.specs.Rule.{Rule, Given, Absent, Broken, HasRuleIn}
use Rattle.mo_image.specs.Map.{first_form}
use Rattle.po_checks.specs.Checks.{NoneOf, FirstAt, IsPlural, HasSystemDependentText, HasOtherCount, HasOtherNewlines}
use Rattle.po_checks.specs.Checks as checks
use Rattle.po_checks.specs.Found.{FirstLine, FailsFrom, HasFound}
use Rattle.po_checks.specs.Kept.{is_header, is_kept, kept_entries, kept_header, header_line_of, header_text_of}
use Rattle.po_checks.specs.Kept.{HasHeaderRule}
use Rattle.po_checks.specs.Fails.{RuleRefuses, HeaderRefuses, rank}
use Rattle.po_checks.specs.declared.findings.Findings.{Findings}
use Rattle.po_checks.specs.declared.fault.LoadKind.TheVariants.{Duplicate, Charset, SystemDependent, NoRule, BadRule}
use Rattle.po_checks.specs.declared.fault.LoadKind.TheVariants.{FormCount, PluralRange, FormatMismatch, NewlineMismatch}
use Rattle.po_checks.proofs.FirstLines.{any_none, any_head, any_tail, any_cases}
use Rattle.dependent_po.specs.Formats.{HasOtherArguments}
use Rattle.dependent_po.specs.EntryGathering.{FailsLate, Options, LoadKind}

-- the entry, as though it weren't flagged `c-format`
abbrev pub bare : po.Entry → po.Entry
bare e = record {
  line = e.line;
  form_line = e.form_line;
  fuzzy = e.fuzzy;
  c_format = false;
  formats = e.formats;
  context = e.context;
  id = e.id;
  plural = e.plural;
  forms = e.forms;
}

abbrev pub bares : List po.Entry → List po.Entry
bares es = map bare es

-- ---- what is kept

kept_bare : (o : Options) (es : List po.Entry) → kept_entries o (bares es) ≡ bares (kept_entries o es)
kept_bare o [] = refl
kept_bare o (e ∷ es) = of (is_kept o e) (kept_bare o es)
  where
    of : (b : Bool) → kept_entries o (bares es) ≡ bares (kept_entries o es)
        → cond b (bare e ∷ kept_entries o (bares es)) (kept_entries o (bares es))
        ≡ bares (cond b (e ∷ kept_entries o es) (kept_entries o es))
    of true rest = ap (λ (ks : List po.Entry). bare e ∷ ks) rest
    of false rest = rest

find_bare : (es : List po.Entry) → find is_header (bares es) ≡ option_map bare (find is_header es)
find_bare [] = refl
find_bare (e ∷ es) = of (is_header e) (find_bare es)
  where
    of : (b : Bool) → find is_header (bares es) ≡ option_map bare (find is_header es)
        → cond b (Some (bare e)) (find is_header (bares es)) ≡ option_map bare (cond b (Some e) (find is_header es))
    of true rest = refl
    of false rest = rest

header_bare : (o : Options) (es : List po.Entry) → kept_header o (bares es) ≡ option_map bare (kept_header o es)
header_bare o es = ap (find is_header) (kept_bare o es) ∙ find_bare (kept_entries o es)

same_line : (h : Option po.Entry) → option_map_or (λ (e : po.Entry). e.line) (option_map bare h) 0
    ≡ option_map_or (λ (e : po.Entry). e.line) h 0
same_line None = refl
same_line (Some e) = refl

same_text : (h : Option po.Entry) → option_map (λ (e : po.Entry). first_form e.forms) (option_map bare h)
    ≡ option_map (λ (e : po.Entry). first_form e.forms) h
same_text None = refl
same_text (Some e) = refl

pub line_bare : (o : Options) (es : List po.Entry) → header_line_of o (bares es) ≡ header_line_of o es
line_bare o es = ap (λ (h : Option po.Entry). option_map_or (λ (e : po.Entry). e.line) h 0) (header_bare o es)
    ∙ same_line (kept_header o es)

text_bare : (o : Options) (es : List po.Entry) → header_text_of o (bares es) ≡ header_text_of o es
text_bare o es = ap (option_map (λ (e : po.Entry). first_form e.forms)) (header_bare o es)
    ∙ same_text (kept_header o es)

pub rule_bare : (o : Options) (es : List po.Entry) (rule : Rule) → HasHeaderRule o es rule
    → HasHeaderRule o (bares es) rule
rule_bare o es rule has = subst (λ (t : Option (List ℕ)). HasRuleIn t rule) (sym (text_bare o es)) has

-- ---- entries that are the same but for the flag

twice : (es : List po.Entry) → bares (bares es) ≡ bares es
twice [] = refl
twice (e ∷ es) = ap (λ (ks : List po.Entry). bare e ∷ ks) (twice es)

kept_same : (o : Options) (xs ys : List po.Entry) → bares xs ≡ bares ys → bares (kept_entries o xs)
    ≡ bares (kept_entries o ys)
kept_same o xs ys same = sym (kept_bare o xs) ∙ ap (kept_entries o) same ∙ kept_bare o ys

-- what holds for an entry holds for the other
pub record IsBlind (P : po.Entry → Type 0) : Type 0 where
  pub onto : (e : po.Entry) → P e → P (bare e)
  pub again : (e : po.Entry) → P (bare e) → P e

plural_blind : IsBlind IsPlural
plural_blind = record { onto = λ e p. p; again = λ e p. p }

count_blind : (n : ℕ) → IsBlind (HasOtherCount n)
count_blind n = record {
  onto = λ e h. record { plural = h.plural; differs = h.differs };
  again = λ e h. record { plural = h.plural; differs = h.differs };
}

newlines_blind : IsBlind HasOtherNewlines
newlines_blind = record {
  onto = λ e h. record { named = h.named; mixed = h.mixed };
  again = λ e h. record { named = h.named; mixed = h.mixed };
}

module _ (P : po.Entry → Type 0) (blind : IsBlind P) where
  across : (x y : po.Entry) → bare x ≡ bare y → P x → P y
  across x y same p = blind.again y (subst P same (blind.onto x p))

  none_same : (xs ys : List po.Entry) → bares xs ≡ bares ys → NoneOf P xs → NoneOf P ys
  none_same xs [] same none = tt
  none_same [] (y ∷ ys) same none = absurd (cc same)
  none_same (x ∷ xs) (y ∷ ys) same none =
      let here : bare x ≡ bare y = cc same in
      let rest : bares xs ≡ bares ys = cc same in
      ((λ p. none.0 (across y x (sym here) p)), none_same xs ys rest none.1)

  any_same : (xs ys : List po.Entry) → bares xs ≡ bares ys → Any P xs → Any P ys
  any_same [] ys same a = absurd (any_none P a)
  any_same (x ∷ xs) [] same a = absurd (cc same)
  any_same (x ∷ xs) (y ∷ ys) same a =
      let here : bare x ≡ bare y = cc same in
      let rest : bares xs ≡ bares ys = cc same in
      elim (any_cases P x xs a) [
        | inl p ↦ any_head P y ys (across x y here p)
        | inr t ↦ any_tail P y ys (any_same xs ys rest t)
      ]

  first_from : (before : List po.Entry) (x : po.Entry) (after ys : List po.Entry)
      → bares (before ++ x ∷ after) ≡ bares ys → NoneOf P before → P x → FirstAt P ys x.line
  first_from before x after [] same none p = absurd (no_entry before same)
    where
      no_entry : (b : List po.Entry) → bares (b ++ x ∷ after) ≡ [] → ⊥
      no_entry [] e = cc e
      no_entry (z ∷ b) e = cc e
  first_from [] x after (y ∷ ys) same none p =
      let here : bare x ≡ bare y = cc same in
      record {
        before = [];
        e = y;
        after = ys;
        split = refl;
        none_before = tt;
        holds = across x y here p;
        line_is = ap (λ (e : po.Entry). e.line) here;
      }
  first_from (z ∷ before) x after (y ∷ ys) same none p =
      let here : bare z ≡ bare y = cc same in
      let rest : bares (before ++ x ∷ after) ≡ bares ys = cc same in
      let f = first_from before x after ys rest none.1 p in
      record {
        before = y ∷ f.before;
        e = f.e;
        after = f.after;
        split = ap (λ (es : List po.Entry). y ∷ es) f.split;
        none_before = ((λ q. none.0 (across y z (sym here) q)), f.none_before);
        holds = f.holds;
        line_is = f.line_is;
      }

  first_same : (xs ys : List po.Entry) → bares xs ≡ bares ys → (line : ℕ) → FirstAt P xs line → FirstAt P ys line
  first_same xs ys same line f = subst (FirstAt P ys) (sym f.line_is)
      (first_from f.before f.e f.after ys (ap bares (sym f.split) ∙ same) f.none_before f.holds)

-- ---- what was found

lines_to : (P : po.Entry → Type 0) → IsBlind P → (o : Options) (es : List po.Entry) (line : Option ℕ)
    → FirstLine P (kept_entries o es) line → FirstLine P (kept_entries o (bares es)) line
lines_to P b o es None none =
    none_same P b (kept_entries o es) (kept_entries o (bares es)) (kept_same o es (bares es) (sym (twice es))) none
lines_to P b o es (Some line) f =
    first_same P b (kept_entries o es) (kept_entries o (bares es)) (kept_same o es (bares es) (sym (twice es))) line f

none_flagged : (P : po.Entry → Type 0) → ((e : po.Entry) → P (bare e) → ⊥) → (es : List po.Entry) → NoneOf P (bares es)
none_flagged P never [] = tt
none_flagged P never (e ∷ es) = ((λ p. never e p), none_flagged P never es)

-- without what they say of formats, the findings are those about the bare entries
pub found_bare : (o : Options) (es : List po.Entry) (f : Findings) → HasFound o es f → HasFound o (bares es) (record {
  system_dependent = None;
  mismatch = None;
  newlines = f.newlines;
  plurals = f.plurals;
})
found_bare o es f h = record {
  dependent = subst (NoneOf HasSystemDependentText) (sym (kept_bare o es))
      (none_flagged HasSystemDependentText (λ e d. false≢true d.flagged) (kept_entries o es));
  mismatch = subst (NoneOf checks.HasOtherArguments) (sym (kept_bare o es))
      (none_flagged checks.HasOtherArguments (λ e d. false≢true d.flagged) (kept_entries o es));
  newlines = λ checked. lines_to HasOtherNewlines newlines_blind o es f.newlines (h.newlines checked);
  plurals = λ checked. record {
    first = lines_to IsPlural plural_blind o es _ (h.plurals checked).first;
    other = λ n. lines_to (HasOtherCount n) (count_blind n) o es _ ((h.plurals checked).other n);
  };
}

-- ---- what refuses the entries

rule_same : (rule : Rule) (xs ys : List po.Entry) → bares xs ≡ bares ys → (at : ℕ) (kind : LoadKind) (line : ℕ)
    → RuleRefuses rule xs at kind line → RuleRefuses rule ys at kind line
rule_same Absent xs ys same at NoRule line r = first_same IsPlural plural_blind xs ys same line r
rule_same Absent xs ys same at _ line r = absurd r
rule_same Broken xs ys same at BadRule line r = (any_same IsPlural plural_blind xs ys same r.0, r.1)
rule_same Broken xs ys same at _ line r = absurd r
rule_same (Given n tree) xs ys same at FormCount line r =
    first_same (HasOtherCount n) (count_blind n) xs ys same line r
rule_same (Given n tree) xs ys same at (PluralRange m) line r = r
rule_same (Given n tree) xs ys same at _ line r = absurd r

module _ (o : Options) (xs ys : List po.Entry) (same : bares xs ≡ bares ys) where
  header_same : (kind : LoadKind) (line : ℕ) → HeaderRefuses o xs kind line → HeaderRefuses o ys kind line
  header_same kind line (rule, has, r) =
      let text : header_text_of o xs ≡ header_text_of o ys = sym (text_bare o xs) ∙ ap (header_text_of o) same
      ∙ text_bare o ys in
      let at : header_line_of o xs ≡ header_line_of o ys = sym (line_bare o xs) ∙ ap (header_line_of o) same
      ∙ line_bare o ys in (
        rule,
        subst (λ (t : Option (List ℕ)). HasRuleIn t rule) text has,
        subst (λ (n : ℕ). RuleRefuses rule (kept_entries o ys) n kind line) at
            (rule_same rule (kept_entries o xs) (kept_entries o ys) (kept_same o xs ys same) (header_line_of o xs)
            kind line r),
      )

  newlines_same : (line : ℕ) → FirstAt HasOtherNewlines (kept_entries o xs) line
      → FirstAt HasOtherNewlines (kept_entries o ys) line
  newlines_same line f =
      first_same HasOtherNewlines newlines_blind (kept_entries o xs) (kept_entries o ys) (kept_same o xs ys same) line f

no_bare : (P : po.Entry → Type 0) → ((e : po.Entry) → P (bare e) → ⊥) → (o : Options) (es : List po.Entry) (line : ℕ)
    → FirstAt P (kept_entries o (bares es)) line → ⊥
no_bare P never o es line f = Rattle.po_checks.proofs.FirstLines.first_not_none P (kept_entries o (bares es)) line f
    (subst (NoneOf P) (sym (kept_bare o es)) (none_flagged P never (kept_entries o es)))

-- what refuses the bare entries refuses the entries
pub fails_back : (o : Options) (es : List po.Entry) (kind : LoadKind) (line : ℕ) → FailsFrom 11 o (bares es) kind line
    → FailsLate o es kind line
fails_back o es Duplicate line f = absurd (omega (arith, f.0))
fails_back o es Charset line f = absurd (omega (arith, f.0))
fails_back o es SystemDependent line f = absurd (no_bare HasSystemDependentText (λ e d. false≢true d.flagged) o es line
    f.1)
fails_back o es NoRule line f = (f.0, (f.1.0, header_same o (bares es) es (twice es) NoRule line f.1.1))
fails_back o es BadRule line f = (f.0, (f.1.0, header_same o (bares es) es (twice es) BadRule line f.1.1))
fails_back o es FormCount line f = (f.0, (f.1.0, header_same o (bares es) es (twice es) FormCount line f.1.1))
fails_back o es (PluralRange n) line f =
    (f.0, (f.1.0, header_same o (bares es) es (twice es) (PluralRange n) line f.1.1))
fails_back o es FormatMismatch line f = absurd (no_bare checks.HasOtherArguments (λ e d. false≢true d.flagged) o es line
    f.1.1)
fails_back o es NewlineMismatch line f = (f.0, (f.1.0, newlines_same o (bares es) es (twice es) line f.1.1))
fails_back o es _ line f = absurd f.1

-- what refuses the entries refuses the bare ones, or their formats differ
abbrev pub Either : Options → List po.Entry → LoadKind → ℕ → Type 0
Either o es kind line = FailsFrom 11 o (bares es) kind line
    ⊎ ((rank kind ≡ 16) × IsTrue o.checked × FirstAt HasOtherArguments (kept_entries o es) line)

pub fails_to : (o : Options) (es : List po.Entry) (kind : LoadKind) (line : ℕ) → FailsLate o es kind line
    → Either o es kind line
fails_to o es Duplicate line f = absurd (omega (arith, f.0))
fails_to o es Charset line f = absurd (omega (arith, f.0))
fails_to o es SystemDependent line f = absurd f.1
fails_to o es NoRule line f = inl (f.0, (f.1.0, header_same o es (bares es) (sym (twice es)) NoRule line f.1.1))
fails_to o es BadRule line f = inl (f.0, (f.1.0, header_same o es (bares es) (sym (twice es)) BadRule line f.1.1))
fails_to o es FormCount line f = inl (f.0, (f.1.0, header_same o es (bares es) (sym (twice es)) FormCount line f.1.1))
fails_to o es (PluralRange n) line f =
    inl (f.0, (f.1.0, header_same o es (bares es) (sym (twice es)) (PluralRange n) line f.1.1))
fails_to o es FormatMismatch line f = inr (refl, f.1.0, f.1.1)
fails_to o es NewlineMismatch line f = inl (f.0, (f.1.0, newlines_same o es (bares es) (sym (twice es)) line f.1.1))
fails_to o es _ line f = absurd f.1
