-- What the parser takes to the end of an entry is derived.
use Rattle.po_text.proofs.Kit.{◌≡◌, ◌≢◌, ℕ, zero, suc, ◌+◌, true, false, List, [], ◌∷◌, ◌++◌, Some, None, refl, sym, ap}
use Rattle.po_text.proofs.Kit.{◌∙◌, subst, inl, inr, append_assoc, arith, concat, flat_map, Contains, AllByRecursion}
use Rattle.po_text.proofs.Kit.{Contains-append_cases, cases_Bool, cases_eq, ne_eqb, eq-eqb, Token, Context, Id, Plural}
use Rattle.po_text.proofs.Kit.{Str, Number, Open, Close, Text, Strings, Part, PlainPart, PluralPart, Derivation, texts}
use Rattle.po_text.proofs.Kit.{form_tokens, part_tokens, tokens_of, IsOneOrMore, IsKeyText, IsLawfulPart, IsLawfulEntry}
use Rattle.po_text.proofs.Kit.{Stage, Start, ContextWord, ContextText, IdWord, IdText, FormWord, FormText, PluralWord}
use Rattle.po_text.proofs.Kit.{PluralText, IndexOpen, IndexNumber, IndexClose, IndexedWord, IndexedText, IsBoundary}
use Rattle.po_text.proofs.Kit.{has_four, key_text}
use Rattle.std.specs.Prelude.{nat_eq}
use Rattle.po_text.specs.Stages.{step}
use Rattle.po_text.proofs.Grammar.{run, run-none}

abbrev pub NoFour : Strings → Type 0
NoFour parts = ¬ Contains (concat parts) 4

abbrev pub Derived : List Token → Type 0
Derived ts = (ds : List Derivation) × AllByRecursion IsLawfulEntry ds × (ts ≡ flat_map tokens_of ds)

-- what completes a run of forms: the strings of one form, further forms, and entries
abbrev Forms : ℕ → List Token → Strings → Type 0
Forms k ts form = (forms : List Strings) × (later : List Token) × AllByRecursion IsOneOrMore forms × Derived later
    × (ts ≡ texts form ++ (form_tokens (k + 1) forms ++ later))

-- the tokens that are left at a stage
abbrev Left : Stage → List Token → Type 0
Left Start ts = Derived ts
Left ContextWord ts = (parts : Strings) × (id : Strings) × (part : Part) × (later : List Token) × IsKeyText parts
    × IsKeyText id × IsLawfulPart part × Derived later × (ts ≡ texts parts
    ++ (Id ∷ (texts id ++ (part_tokens part ++ later))))
Left ContextText ts = (parts : Strings) × (id : Strings) × (part : Part) × (later : List Token) × NoFour parts
    × IsKeyText id × IsLawfulPart part × Derived later × (ts ≡ texts parts
    ++ (Id ∷ (texts id ++ (part_tokens part ++ later))))
Left IdWord ts = (id : Strings) × (part : Part) × (later : List Token) × IsKeyText id × IsLawfulPart part
    × Derived later × (ts ≡ texts id ++ (part_tokens part ++ later))
Left IdText ts = (id : Strings) × (part : Part) × (later : List Token) × NoFour id × IsLawfulPart part × Derived later
    × (ts ≡ texts id ++ (part_tokens part ++ later))
Left FormWord ts = (form : Strings) × (later : List Token) × IsOneOrMore form × Derived later
    × (ts ≡ texts form ++ later)
Left FormText ts = (form : Strings) × (later : List Token) × Derived later × (ts ≡ texts form ++ later)
Left PluralWord ts = (plural : Strings) × (forms : List Strings) × (later : List Token) × IsOneOrMore plural
    × IsOneOrMore forms × AllByRecursion IsOneOrMore forms × Derived later
    × (ts ≡ texts plural ++ (form_tokens 0 forms ++ later))
Left PluralText ts = (plural : Strings) × (forms : List Strings) × (later : List Token) × IsOneOrMore forms
    × AllByRecursion IsOneOrMore forms × Derived later × (ts ≡ texts plural ++ (form_tokens 0 forms ++ later))
Left (IndexOpen k) ts = (form : Strings) × (more : List Token) × (ts ≡ Open ∷ Number k ∷ Close ∷ more)
    × IsOneOrMore form × Forms k more form
Left (IndexNumber k) ts = (form : Strings) × (more : List Token) × (ts ≡ Number k ∷ Close ∷ more) × IsOneOrMore form
    × Forms k more form
Left (IndexClose k) ts = (form : Strings) × (more : List Token) × (ts ≡ Close ∷ more) × IsOneOrMore form
    × Forms k more form
Left (IndexedWord k) ts = (form : Strings) × IsOneOrMore form × Forms k ts form
Left (IndexedText k) ts = (form : Strings) × Forms k ts form

cons_some : {A : Type 0} (x : A) (xs : List A) → x ∷ xs ≢ []
cons_some x xs e = absurd (cc e)

no_more : NoFour []
no_more (k, lt, is) = absurd (omega arith)

pub four_from : (b : List ℕ) → Contains b 4 → has_four b ≡ true
four_from [] (k, lt, is) = absurd (omega arith)
four_from (x ∷ xs) (zero, lt, is) = let e : nat_eq 4 x ≡ true = eq-eqb 4 x (sym is) in rw e refl
four_from (x ∷ xs) (suc k, lt, is) =
    let rest = four_from xs (k, omega arith, is) in
    elim (cases_Bool (nat_eq 4 x)) [ inl e ↦ rw e refl | inr e ↦ rw (e, rest) refl ]

no_four_cons : (b : List ℕ) (parts : Strings) → has_four b ≡ false → NoFour parts → NoFour (b ∷ parts)
no_four_cons b parts first rest m = elim (Contains-append_cases b (concat parts) 4 m) [
  | inl here ↦ let t = four_from b here in absurd (cc (first, t))
  | inr there ↦ rest there
]

dead : (ts : List Token) (q : Stage) → run None ts ≡ Some q → ⊥
dead ts q e = let f = run-none ts in absurd (cc (e, f))

-- an entry before others
plain_entry : (id : Strings) (part : Part) (later ts : List Token) → IsKeyText id → IsLawfulPart part → Derived later
    → ts ≡ texts id ++ (part_tokens part ++ later) → Derived (Id ∷ ts)
plain_entry id part later ts key lawful (ds, all, is) e = (
  record { context = None; id = id; part = part } ∷ ds,
  (record { context = tt; id = key; part = lawful }, all),
  rw (e, is) (ap (λ (x : List Token). Id ∷ x) (sym (append_assoc (texts id) (part_tokens part)
      (flat_map tokens_of ds)))),
)

context_entry : (parts id : Strings) (part : Part) (later ts : List Token) → IsKeyText parts → IsKeyText id
    → IsLawfulPart part → Derived later → ts ≡ texts parts ++ (Id ∷ (texts id ++ (part_tokens part ++ later)))
    → Derived (Context ∷ ts)
context_entry parts id part later ts context key lawful (ds, all, is) e = (
  record { context = Some parts; id = id; part = part } ∷ ds,
  (record { context = context; id = key; part = lawful }, all),
  rw (e, is) (ap (λ (x : List Token). Context ∷ x) (
      ap (λ (x : List Token). texts parts ++ (Id ∷ x)) (sym (append_assoc (texts id) (part_tokens part)
      (flat_map tokens_of ds)))
      ∙ sym (append_assoc (texts parts) (Id ∷ (texts id ++ part_tokens part)) (flat_map tokens_of ds)))),
)

left_end : (p q : Stage) → Some p ≡ Some q → IsBoundary q → Left p []
left_end p q e b = go_end p (let same : p ≡ q = cc e in subst (λ (x : Stage). IsBoundary x) (sym same) b)
  where
    go_end : (p : Stage) → IsBoundary p → Left p []
    go_end Start b = ([], tt, refl)
    go_end FormText b = ([], [], ([], tt, refl), refl)
    go_end (IndexedText k) b = ([], ([], [], tt, ([], tt, refl), refl))
    go_end _ b = absurd b

-- after a step by a string of a context or msgid, which had no byte 4
key_was : (bytes : List ℕ) (p q : Stage) (ts : List Token) → run (key_text bytes p) ts ≡ Some q
    → (has_four bytes ≡ false) × (run (Some p) ts ≡ Some q)
key_was bytes p q ts e = elim (cases_Bool (has_four bytes)) [
  | inl four ↦ let f : run (key_text bytes p) ts ≡ run None ts = rw four refl in absurd (dead ts q (sym f ∙ e))
  | inr none ↦ let f : run (key_text bytes p) ts ≡ run (Some p) ts = rw none refl in (none, sym f ∙ e)
]

index_was : (n k : ℕ) (q : Stage) (ts : List Token) → run (step (IndexNumber k) (Number n)) ts ≡ Some q → (n ≡ k)
    × (run (Some (IndexClose k)) ts ≡ Some q)
unfolding step
index_was n k q ts e = elim (cases_eq n k) [
  | inl same ↦ let f : run (step (IndexNumber k) (Number n)) ts
      ≡ run (Some (IndexClose k)) ts = rw (eq-eqb n k same) refl in (same, sym f ∙ e)
  | inr other ↦ let f : run (step (IndexNumber k) (Number n)) ts
      ≡ run None ts = rw (ne_eqb n k other) refl in absurd (dead ts q (sym f ∙ e))
]

-- opening keywords
opens_id : (ts : List Token) → Left IdWord ts → Derived (Id ∷ ts)
opens_id ts (id, part, later, key, lawful, rest, e) = plain_entry id part later ts key lawful rest e

opens_context : (ts : List Token) → Left ContextWord ts → Derived (Context ∷ ts)
opens_context ts (parts, id, part, later, context, key, lawful, rest, e) = context_entry parts id part later ts context
    key lawful rest e

put : (t : Token) {ts us : List Token} → ts ≡ us → t ∷ ts ≡ t ∷ us
put t e = ap (λ (x : List Token). t ∷ x) e

pub left : (ts : List Token) (p q : Stage) → run (Some p) ts ≡ Some q → IsBoundary q → Left p ts
unfolding step
left [] p q e b = left_end p q e b
left (Context ∷ ts) Start q e b = opens_context ts (left ts ContextWord q e b)
left (Id ∷ ts) Start q e b = opens_id ts (left ts IdWord q e b)
left (Text s ∷ ts) ContextWord q e b =
    let was = key_was s ContextText q ts e in
    let (parts, id, part, later, none, key, lawful, rest, is) = left ts ContextText q was.1 b in (
      s ∷ parts,
      id,
      part,
      later,
      (cons_some s parts, no_four_cons s parts was.0 none),
      key,
      lawful,
      rest,
      put (Text s)
          is,
    )
left (Text s ∷ ts) ContextText q e b =
    let was = key_was s ContextText q ts e in
    let (parts, id, part, later, none, key, lawful, rest, is) = left ts ContextText q was.1 b in
    (s ∷ parts, id, part, later, no_four_cons s parts was.0 none, key, lawful, rest, put (Text s) is)
left (Id ∷ ts) ContextText q e b =
    let (id, part, later, key, lawful, rest, is) = left ts IdWord q e b in
    ([], id, part, later, no_more, key, lawful, rest, put Id is)
left (Text s ∷ ts) IdWord q e b =
    let was = key_was s IdText q ts e in
    let (id, part, later, none, lawful, rest, is) = left ts IdText q was.1 b in
    (s ∷ id, part, later, (cons_some s id, no_four_cons s id was.0 none), lawful, rest, put (Text s) is)
left (Text s ∷ ts) IdText q e b =
    let was = key_was s IdText q ts e in
    let (id, part, later, none, lawful, rest, is) = left ts IdText q was.1 b in
    (s ∷ id, part, later, no_four_cons s id was.0 none, lawful, rest, put (Text s) is)
left (Str ∷ ts) IdText q e b =
    let (form, later, some, rest, is) = left ts FormWord q e b in
    ([], PlainPart form, later, no_more, some, rest, put Str is)
left (Plural ∷ ts) IdText q e b =
    let (plural, forms, later, some, forms_some, each, rest, is) = left ts PluralWord q e b in (
      [],
      PluralPart plural forms,
      later,
      no_more,
      (some, forms_some, each),
      rest,
      put Plural
          (is ∙ sym (append_assoc (texts plural) (form_tokens 0 forms) later)),
    )
left (Text s ∷ ts) FormWord q e b =
    let (form, later, rest, is) = left ts FormText q e b in
    (s ∷ form, later, cons_some s form, rest, put (Text s) is)
left (Text s ∷ ts) FormText q e b =
    let (form, later, rest, is) = left ts FormText q e b in
    (s ∷ form, later, rest, put (Text s) is)
left (Context ∷ ts) FormText q e b = ([], Context ∷ ts, opens_context ts (left ts ContextWord q e b), refl)
left (Id ∷ ts) FormText q e b = ([], Id ∷ ts, opens_id ts (left ts IdWord q e b), refl)
left (Text s ∷ ts) PluralWord q e b =
    let (plural, forms, later, some, each, rest, is) = left ts PluralText q e b in
    (s ∷ plural, forms, later, cons_some s plural, some, each, rest, put (Text s) is)
left (Text s ∷ ts) PluralText q e b =
    let (plural, forms, later, some, each, rest, is) = left ts PluralText q e b in
    (s ∷ plural, forms, later, some, each, rest, put (Text s) is)
left (Str ∷ ts) PluralText q e b =
    let (form, more, is, some, (forms, later, each, rest, cut)) = left ts (IndexOpen 0) q e b in (
      [],
      form ∷ forms,
      later,
      cons_some form forms,
      (some, each),
      rest,
      put Str (is ∙ ap (λ (x : List Token). Open ∷ Number 0 ∷ Close ∷ x)
          (cut ∙ sym (append_assoc (texts form) (form_tokens (0 + 1) forms) later))),
    )
left (Open ∷ ts) (IndexOpen k) q e b =
    let (form, more, is, some, forms) = left ts (IndexNumber k) q e b in
    (form, more, put Open is, some, forms)
left (Number n ∷ ts) (IndexNumber k) q e b =
    let was = index_was n k q ts e in
    let (form, more, is, some, forms) = left ts (IndexClose k) q was.1 b in
    (form, more, ap (λ (m : ℕ). Number m ∷ ts) was.0 ∙ put (Number k) is, some, forms)
left (Close ∷ ts) (IndexClose k) q e b =
    let (form, some, forms) = left ts (IndexedWord k) q e b in
    (form, ts, refl, some, forms)
left (Text s ∷ ts) (IndexedWord k) q e b =
    let (form, (forms, later, each, rest, is)) = left ts (IndexedText k) q e b in
    (s ∷ form, cons_some s form, (forms, later, each, rest, put (Text s) is))
left (Text s ∷ ts) (IndexedText k) q e b =
    let (form, (forms, later, each, rest, is)) = left ts (IndexedText k) q e b in
    (s ∷ form, (forms, later, each, rest, put (Text s) is))
left (Str ∷ ts) (IndexedText k) q e b =
    let (form, more, is, some, (forms, later, each, rest, cut)) = left ts (IndexOpen (k + 1)) q e b in (
      [],
      (
        form ∷ forms,
        later,
        (some, each),
        rest,
        put Str (is ∙ ap (λ (x : List Token). Open ∷ Number (k + 1) ∷ Close ∷ x)
            (cut ∙ sym (append_assoc (texts form) (form_tokens (k + 1 + 1) forms) later))),
      ),
    )
left (Context ∷ ts) (IndexedText k) q e b = (
  [],
  (
    [],
    Context
        ∷ ts,
    tt,
    opens_context ts (left ts ContextWord q e b),
    refl,
  ),
)
left (Id ∷ ts) (IndexedText k) q e b = ([], ([], Id ∷ ts, tt, opens_id ts (left ts IdWord q e b), refl))
left (t ∷ ts) p q e b = absurd (dead ts q e)

-- a list that the parser takes to the end of an entry consists of entries
pub derived : (ts : List Token) (q : Stage) → run (Some Start) ts ≡ Some q → IsBoundary q → Derived ts
derived ts q e b = left ts Start q e b
