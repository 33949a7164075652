-- A text has an output or a fault: it leads to ⊥ that it has neither.
use Rattle.catserve.proofs.Common.{◌≡◌, ℕ, zero, suc, ◌+◌, ◌<◌, Bool, List, [], ◌∷◌, ◌++◌, length, Option, Some, map}
use Rattle.catserve.proofs.Common.{None, Result, Ok, Err, refl, arith, inl, inr, nat_lt, AllByRecursion, AllZip, filter}
use Rattle.catserve.proofs.Common.{filter_map, flat_map, last_or, cases_Bool, cases_lt, ltb-true, Entry, key_bytes}
use Rattle.catserve.proofs.Common.{LoadValue, map_of, map_or_empty, is_for, AskValue, Plain, Context, Number}
use Rattle.catserve.proofs.Common.{ContextNumber, QueryValue, HasValue, IsAnswer, answering_map, first_with, has_key}
use Rattle.catserve.proofs.Common.{key_of, QuestionValue, RoundValue, ScriptValue, queries_for, script, answer_line}
use Rattle.catserve.proofs.Common.{version_line, IsReadable, most_script, Accepted, Refused, RefusedMo, Unnamed}
use Rattle.catserve.proofs.Common.{IsOutcome, outcome_line, accepted_load, Answers, AnswersInTurn, Plays, PlaysAll}
use Rattle.catserve.proofs.Common.{HasSomeOutput}
use Rattle.po_header.specs.Rule.{Rule, Absent, form_index}
use Rattle.po_header.proofs.RuleLemmas.{HasRule-some}
use Rattle.catalogue.specs.Map.{header_text, entry_at}
use Rattle.catalogue.specs.Value.{IsFirstForm, IsCounted, HasRuleIn, form_or_first, text_by}
use Rattle.catalogue_drafts.proofs.Members.{from_find}
use Rattle.entry_search.proofs.Searching.{some_at}
use Rattle.catalogue.proofs.SomeMeaning.{IsFormed}
use Rattle.live_set.specs.LanguageList.{named_locales}
use Rattle.script_text.specs.ScriptLoads.{JobValue}
use Rattle.catserve.specs.Rounds.{Outcome}
use Rattle.catserve.proofs.Sources.{brings_some, brings_formed}

-- where each item has a match, all of them have matches
zip_some : {A B : Type 0} (R : A → B → Type 0) → ((x : A) → ((y : B) → R x y → ⊥) → ⊥) → (xs : List A)
    → ((ys : List B) → AllZip R xs ys → ⊥) → ⊥
zip_some R one [] none = none [] tt
zip_some R one (x ∷ xs) none = one x (λ y r. zip_some R one xs (λ ys all. none (y ∷ ys) (r, all)))

-- ---- maps whose entries have forms

abbrev AreFormed : List LoadValue → Type 0
AreFormed loads = AllByRecursion (λ (l : LoadValue). IsFormed l.map) loads

formed_append : (xs ys : List LoadValue) → AreFormed xs → AreFormed ys → AreFormed (xs ++ ys)
formed_append [] ys h k = k
formed_append (x ∷ xs) ys h k = (h.0, formed_append xs ys h.1 k)

last_formed : (o : Option LoadValue) (p : LoadValue → Bool) (loads : List LoadValue) → IsFormed (map_or_empty o)
    → AreFormed loads → IsFormed (map_or_empty (last_or o (filter p loads)))
last_formed o p [] h all = h
last_formed o p (l ∷ loads) h all = elim (cases_Bool (p l)) [
  | inl with ↦ rw with (last_formed (Some l) p loads all.0 all.1)
  | inr without ↦ rw without (last_formed o p loads h all.1)
]

map_formed : (loads : List LoadValue) (domain locale : List ℕ) → AreFormed loads → IsFormed (map_of loads domain locale)
map_formed loads domain locale all = last_formed None (is_for domain locale) loads
    (λ e has. absurd (omega (arith, has.1))) all

first_formed : (key : List ℕ) (maps : List ℕ → List Entry) (locales : List (List ℕ))
    → ((locale : List ℕ) → IsFormed (maps locale)) → IsFormed (first_with key (map maps locales))
first_formed key maps [] each = λ e has. absurd (omega (arith, has.1))
first_formed key maps (l ∷ ls) each = elim (cases_Bool (has_key key (maps l))) [
  | inl has ↦ rw has (each l)
  | inr lacks ↦ rw lacks (first_formed key maps ls each)
]

-- ---- answers

form_some : (forms : List (List ℕ)) (k : ℕ) → 0 < length forms → (text : List ℕ) × (form_or_first forms k ≡ Some text)
form_some forms k some = elim (cases_Bool (nat_lt k (length forms))) [
  | inl less ↦ rw less (some_at forms k (ltb-true k (length forms) less))
  | inr more ↦ rw more (some_at forms 0 some)
]

rule_some : (o : Option (List ℕ)) → ((rule : Rule) × HasRuleIn o rule → ⊥) → ⊥
rule_some None none = none (Absent, refl)
rule_some (Some text) none = HasRule-some text none

first_some : (m : List Entry) (k id : List ℕ) → IsFormed m → ((text : List ℕ) → IsFirstForm (entry_at m k) id text → ⊥)
    → ⊥
first_some m k id formed none = go (entry_at m k) refl none
  where
    go : (o : Option Entry) → entry_at m k ≡ o → ((text : List ℕ) → IsFirstForm o id text → ⊥) → ⊥
    go None e none = none id refl
    go (Some x) e none = let (text, is) = some_at x.forms 0 (formed x (from_find _ m x e).0) in none text is

counted_some : (m : List Entry) (k : List ℕ) (n : ℕ) (other : List ℕ) → IsFormed m
    → ((text : List ℕ) → IsCounted m (entry_at m k) n other text → ⊥) → ⊥
counted_some m k n other formed none = go (entry_at m k) refl none
  where
    go : (o : Option Entry) → entry_at m k ≡ o → ((text : List ℕ) → IsCounted m o n other text → ⊥) → ⊥
    go None e none = none other refl
    go (Some x) e none = rule_some (header_text m) (λ (rule, has). let (text, is) = form_some x.forms
        (form_index rule n) (formed x (from_find _ m x e).0) in none text (rule, has, is))

value_some : (m : List Entry) (a : AskValue) → IsFormed m → ((text : List ℕ) → HasValue m a text → ⊥) → ⊥
value_some m (Plain id) formed none = first_some m (key_bytes None id) id formed none
value_some m (Context context id) formed none = first_some m (key_bytes (Some context) id) id formed none
value_some m (Number id plural n) formed none = counted_some m (key_bytes None id) n (text_by n id plural) formed none
value_some m (ContextNumber context id plural n) formed none = counted_some m (key_bytes (Some context) id) n
    (text_by n id plural) formed none

answers_some : (loads : List LoadValue) (worker : ℕ) (queries : List QueryValue) → AreFormed loads
    → ((output : List ℕ) → Answers loads worker queries output → ⊥) → ⊥
answers_some loads worker queries formed none =
    zip_some (IsAnswer loads) (λ q. value_some (answering_map (map_of loads) q) q.ask
    (first_formed (key_of q.ask) (map_of loads q.domain) (named_locales q.languages)
    (λ locale. map_formed loads q.domain locale formed))) queries
    (λ texts each. none (flat_map (answer_line worker (length loads)) texts) (texts, each, refl))

turn_some : (loads : List LoadValue) (questions : List QuestionValue) (worker count : ℕ) → AreFormed loads
    → ((output : List ℕ) → AnswersInTurn loads questions worker count output → ⊥) → ⊥
turn_some loads questions worker zero formed none = none [] refl
turn_some loads questions worker (suc count) formed none =
    answers_some loads worker (queries_for worker questions) formed
    (λ front one. turn_some loads questions (worker + 1) count formed
    (λ back all. none (front ++ back) (front, back, one, all, refl)))

-- ---- loads

outcome_some : (l : JobValue) → ((o : Outcome) → IsOutcome l o → ⊥) → ⊥
outcome_some l none =
    none Unnamed (λ names.
    brings_some l.source
    (λ answer map brings. none (Accepted (record { domain = l.domain; locale = l.locale; map = map }) answer)
    (names, brings, refl, refl))
    (λ fault refused. none (Refused fault) (names, refused))
    (λ fault refused. none (RefusedMo fault) (names, refused)))

-- what was accepted is formed
accepted_formed : (ls : List JobValue) (os : List Outcome) → AllZip IsOutcome ls os
    → AreFormed (filter_map accepted_load os)
accepted_formed [] [] all = tt
accepted_formed (l ∷ ls) (Accepted load answer ∷ os) (is, all) =
    (brings_formed l.source answer load.map is.1, accepted_formed ls os all)
accepted_formed (l ∷ ls) (_ ∷ os) all = accepted_formed ls os all.1
accepted_formed _ _ all = absurd all

-- ---- rounds

plays_some : (workers : ℕ) (before : List LoadValue) (round : RoundValue) → AreFormed before
    → ((after : List LoadValue) (output : List ℕ) → AreFormed after → Plays workers before round after output → ⊥) → ⊥
plays_some workers before round formed none =
    zip_some IsOutcome outcome_some round.loads
    (λ outcomes loaded.
    let after = before ++ filter_map accepted_load outcomes in
    let well = formed_append before (filter_map accepted_load outcomes) formed
    (accepted_formed round.loads outcomes loaded) in
    turn_some after round.questions 0 workers well
    (λ answers answered.
    none after (flat_map outcome_line outcomes ++ version_line (length after) ++ answers) well (record {
      outcomes = outcomes;
      loaded = loaded;
      after_is = refl;
      answers = answers;
      answered = answered;
      output_is = refl;
    })))

rounds_some : (workers : ℕ) (before : List LoadValue) (rounds : List RoundValue) → AreFormed before
    → ((output : List ℕ) → PlaysAll workers before rounds output → ⊥) → ⊥
rounds_some workers before [] formed none = none [] refl
rounds_some workers before (round ∷ rounds) formed none =
    plays_some workers before round formed
    (λ after front well plays. rounds_some workers after rounds well
    (λ back all. none (front ++ back) (after, front, back, plays, all, refl)))

-- ---- scripts

pub output_some : HasSomeOutput
output_some text no_output no_fault = elim (cases_lt most_script (length text)) [
  | inl large ↦ no_fault (inl large)
  | inr small ↦ no_fault (inr (inl (record {
    size = small;
    undecodable = λ utf8. go (record { size = small; utf8 = utf8 }) (script text) refl;
  })))
]
  where
    go : IsReadable text → (r : Result ScriptValue ℕ) → script text ≡ r → ⊥
    go readable (Ok value) says = rounds_some value.workers [] value.rounds tt (λ output all. no_output output
        (value, record { readable = readable; says = says }, all))
    go readable (Err line) says = no_fault (inr (inr (line, record { readable = readable; bad = says })))
