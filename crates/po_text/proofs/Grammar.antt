-- The stages of a reader in the grammar. Where a list of tokens is open, the reader is at a stage.
use Rattle.po_text.proofs.Kit.{◌≡◌, ℕ, ◌+◌, false, List, [], ◌∷◌, ◌++◌, Option, Some, None, refl, sym, ap, ◌∙◌, inl}
use Rattle.po_text.proofs.Kit.{inr, concat, flat_map, Contains, AllByRecursion, Contains-append_left}
use Rattle.po_text.proofs.Kit.{Contains-append_right, cases_Bool, eqb-true, eq-eqb, Token, Context, Id, Number, Open}
use Rattle.po_text.proofs.Kit.{Close, Text, Stage, Start, ContextWord, ContextText, IdWord, IdText, FormWord, FormText}
use Rattle.po_text.proofs.Kit.{PluralWord, PluralText, IndexOpen, IndexNumber, IndexClose, IndexedWord, IndexedText}
use Rattle.po_text.proofs.Kit.{has_four, key_text, IsBoundary, Strings, Part, PlainPart, PluralPart, Derivation, texts}
use Rattle.po_text.proofs.Kit.{context_tokens, form_tokens, part_tokens, tokens_of, IsOneOrMore, IsKeyText}
use Rattle.po_text.proofs.Kit.{IsLawfulPart, IsLawfulEntry, IsOpenList}
use Rattle.std.proofs.lemmas.Map.Views.{Contains-from_any}
use Rattle.po_text.specs.Stages.{step}
use Rattle.po_text.specs.Entries.{IsLawfulContext}

abbrev pub go : Option Stage → Token → Option Stage
go None t = None
go (Some p) t = step p t

abbrev pub run : Option Stage → List Token → Option Stage
run p [] = p
run p (t ∷ ts) = run (go p t) ts

pub run-append : (p : Option Stage) (xs ys : List Token) → run p (xs ++ ys) ≡ run (run p xs) ys
run-append p [] ys = refl
run-append p (x ∷ xs) ys = run-append (go p x) xs ys

pub run-from : (o r q : Option Stage) (ts : List Token) → o ≡ r → run r ts ≡ q → run o ts ≡ q
run-from o r q ts e f = ap (λ (x : Option Stage). run x ts) e ∙ f

pub run-over : (p r q : Option Stage) (xs ys : List Token) → run p xs ≡ r → run r ys ≡ q → run p (xs ++ ys) ≡ q
run-over p r q xs ys e f = run-append p xs ys ∙ run-from (run p xs) r q ys e f

pub run-none : (xs : List Token) → run None xs ≡ None
run-none [] = refl
run-none (x ∷ xs) = run-none xs

-- the front of a list that the parser takes is also taken
pub live_front : (p q : Stage) (xs ys : List Token) → run (Some p) (xs ++ ys) ≡ Some q → (r : Stage)
    × (run (Some p) xs ≡ Some r)
live_front p q xs ys e = at (run (Some p) xs) refl
  where
    at : (r : Option Stage) → run (Some p) xs ≡ r → (r' : Stage) × (run (Some p) xs ≡ Some r')
    at None none = let f = run-append (Some p) xs ys in let g : run (run (Some p) xs) ys
        ≡ None = ap (λ (o : Option Stage). run o ys) none ∙ run-none ys in absurd (cc (e, f, g))
    at (Some r) is = (r, is)

-- ---- strings

pub no_four_here : (b : List ℕ) → ¬ Contains b 4 → has_four b ≡ false
no_four_here b h = elim (cases_Bool (has_four b)) [
  | inl is ↦ absurd (h (Contains-from_any (λ x y e. eqb-true x y e) 4 b is))
  | inr is ↦ is
]

-- the stages of the strings of a context or a msgid
key_texts : (p : Stage) → ((bytes : List ℕ) → step p (Text bytes) ≡ key_text bytes p) → (parts : Strings)
    → ¬ Contains (concat parts) 4 → run (Some p) (texts parts) ≡ Some p
key_texts p here [] h = refl
key_texts p here (b ∷ parts) h =
    let first : has_four b ≡ false = no_four_here b (λ (m : Contains b 4). h
    (Contains-append_left b (concat parts) 4 m)) in
    let one : step p (Text b) ≡ Some p = rw (here b, first) refl in
    run-from (step p (Text b)) (Some p) (Some p) (texts parts) one
    (key_texts p here parts (λ (m : Contains (concat parts) 4). h (Contains-append_right b (concat parts) 4 m)))

key_some : (p q : Stage) → ((bytes : List ℕ) → step p (Text bytes) ≡ key_text bytes q)
    → ((bytes : List ℕ) → step q (Text bytes) ≡ key_text bytes q) → (parts : Strings) → IsKeyText parts
    → run (Some p) (texts parts) ≡ Some q
key_some p q here there [] h = absurd (h.0 refl)
key_some p q here there (b ∷ parts) h =
    let first : has_four b ≡ false = no_four_here b (λ (m : Contains b 4). h.1
    (Contains-append_left b (concat parts) 4 m)) in
    let one : step p (Text b) ≡ Some q = rw (here b, first) refl in
    run-from (step p (Text b)) (Some q) (Some q) (texts parts) one
    (key_texts q there parts (λ (m : Contains (concat parts) 4). h.1 (Contains-append_right b (concat parts) 4 m)))

free_texts : (p : Stage) → ((bytes : List ℕ) → step p (Text bytes) ≡ Some p) → (parts : Strings)
    → run (Some p) (texts parts) ≡ Some p
free_texts p here [] = refl
free_texts p here (b ∷ parts) = run-from (step p (Text b)) (Some p) (Some p) (texts parts) (here b)
    (free_texts p here parts)

free_some : (p q : Stage) → ((bytes : List ℕ) → step p (Text bytes) ≡ Some q)
    → ((bytes : List ℕ) → step q (Text bytes) ≡ Some q) → (parts : Strings) → IsOneOrMore parts
    → run (Some p) (texts parts) ≡ Some q
free_some p q here there [] h = absurd (h refl)
free_some p q here there (b ∷ parts) h = run-from (step p (Text b)) (Some q) (Some q) (texts parts) (here b)
    (free_texts q there parts)

key_id : (parts : Strings) → IsKeyText parts → run (Some IdWord) (texts parts) ≡ Some IdText
unfolding step
key_id parts h = key_some IdWord IdText (λ b. refl) (λ b. refl) parts h

-- ---- an entry

boundary_context : (p : Stage) → IsBoundary p → step p Context ≡ Some ContextWord
unfolding step
boundary_context Start h = refl
boundary_context _ h = search

boundary_id : (p : Stage) → IsBoundary p → step p Id ≡ Some IdWord
unfolding step
boundary_id Start h = refl
boundary_id _ h = search

context_run : (p : Stage) (c : Option Strings) (ts : List Token) → IsBoundary p → IsLawfulContext c
    → run (Some p) (context_tokens c ++ Id ∷ ts) ≡ run (Some IdWord) ts
unfolding step
context_run p None ts h lawful = run-from (step p Id) (Some IdWord) _ ts (boundary_id p h) refl
context_run p (Some parts) ts h lawful =
    run-from (step p Context) (Some ContextWord) _ (texts parts ++ Id ∷ ts) (boundary_context p h)
    (run-over (Some ContextWord) (Some ContextText) _ (texts parts) (Id ∷ ts)
    (key_some ContextWord ContextText (λ b. refl) (λ b. refl) parts lawful) refl)

abbrev EndsWell : Option Stage → Type 0
EndsWell p = (r : Stage) × IsBoundary r × (p ≡ Some r)

ends_from : (o o' : Option Stage) → o ≡ o' → EndsWell o' → EndsWell o
ends_from o o' e (r, well, is) = (r, well, e ∙ is)

index_is : (k : ℕ) → step (IndexNumber k) (Number k) ≡ Some (IndexClose k)
unfolding step
index_is k = rw (eq-eqb k k refl) refl

-- msgstr [ k ] S, from the stage after an open bracket's keyword
form_run : (k : ℕ) (form : Strings) (ts : List Token) → IsOneOrMore form
    → run (Some (IndexOpen k)) (Open ∷ Number k ∷ Close ∷ texts form ++ ts) ≡ run (Some (IndexedText k)) ts
unfolding step
form_run k form ts some =
    run-from (step (IndexNumber k) (Number k)) (Some (IndexClose k)) _ (Close ∷ texts form ++ ts) (index_is k)
    (run-over (Some (IndexedWord k)) (Some (IndexedText k)) _ (texts form) ts
    (free_some (IndexedWord k) (IndexedText k) (λ b. refl) (λ b. refl) form some) refl)

forms_run : (k : ℕ) (forms : List Strings) → AllByRecursion IsOneOrMore forms
    → EndsWell (run (Some (IndexedText k)) (form_tokens (k + 1) forms))
unfolding step
forms_run k [] all = (IndexedText k, tt, refl)
forms_run k (form ∷ forms) all = ends_from _ _ (form_run (k + 1) form (form_tokens (k + 1 + 1) forms) all.0)
    (forms_run (k + 1) forms all.1)

part_run : (part : Part) → IsLawfulPart part → EndsWell (run (Some IdText) (part_tokens part))
unfolding step
part_run (PlainPart form) h = (FormText, tt, free_some FormWord FormText (λ b. refl) (λ b. refl) form h)
part_run (PluralPart plural []) h = absurd (h.1 refl)
part_run (PluralPart plural (form ∷ forms)) h =
    ends_from _ _ (run-over (Some PluralWord) (Some PluralText) _ (texts plural) (form_tokens 0 (form ∷ forms))
    (free_some PluralWord PluralText (λ b. refl) (λ b. refl) plural h.0)
    (form_run 0 form (form_tokens (0 + 1) forms) h.2.0)) (forms_run 0 forms h.2.1)

pub entry_run : (p : Stage) (d : Derivation) → IsBoundary p → IsLawfulEntry d → EndsWell (run (Some p) (tokens_of d))
entry_run p d h lawful =
    ends_from _ _ (context_run p d.context (texts d.id ++ part_tokens d.part) h lawful.context
    ∙ run-over (Some IdWord) (Some IdText) _ (texts d.id) (part_tokens d.part) (key_id d.id lawful.id) refl)
    (part_run d.part lawful.part)

pub entries_run : (p : Stage) (ds : List Derivation) → IsBoundary p → AllByRecursion IsLawfulEntry ds
    → EndsWell (run (Some p) (flat_map tokens_of ds))
entries_run p [] h all = (p, h, refl)
entries_run p (d ∷ ds) h all =
    let one = entry_run p d h all.0 in
    ends_from _ _ (run-over (Some p) (Some one.0) _ (tokens_of d) (flat_map tokens_of ds) one.2 refl)
    (entries_run one.0 ds one.1 all.1)

-- if a list is open, the parser takes it
pub open_run : (tokens : List Token) → IsOpenList tokens → (r : Stage) × (run (Some Start) tokens ≡ Some r)
open_run tokens o =
    let before = entries_run Start o.whole tt o.each in
    let entry = entry_run before.0 o.last before.1 o.lawful in
    let both : run (Some before.0) (o.front ++ o.back) ≡ Some entry.0 = ap (λ (ts : List Token). run (Some before.0) ts)
    (sym o.begins) ∙ entry.2 in
    let front = live_front before.0 entry.0 o.front o.back both in (
      front.0,
      ap (λ (ts : List Token). run (Some Start) ts) o.split
          ∙ run-over (Some Start) (Some before.0) _ (flat_map tokens_of o.whole) o.front before.2 front.1,
    )

-- a token that the parser can't take at its stage closes the list
pub closes : (tokens : List Token) (t : Token) (p : Stage) → run (Some Start) tokens ≡ Some p → step p t ≡ None
    → ¬ IsOpenList (tokens ++ t ∷ [])
closes tokens t p at refused o =
    let r = open_run (tokens ++ t ∷ []) o in
    let e : run (Some Start) (tokens ++ t ∷ []) ≡ None = run-over (Some Start) (Some p) None tokens (t ∷ []) at refused
    in
    absurd (cc (e, r.1))
