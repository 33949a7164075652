-- A text has one output.
use Rattle.catserve.proofs.Common.{◌≡◌, ◌∙◌, refl, sym, ap, ℕ, zero, suc, ◌+◌, List, [], ◌∷◌, ◌++◌, length, Option}
use Rattle.catserve.proofs.Common.{Some, None, AllZip, filter_map, flat_map, Entry, key_bytes, LoadValue, map_of}
use Rattle.catserve.proofs.Common.{AskValue, Plain, Context, Number, ContextNumber, QueryValue, HasValue, IsAnswer}
use Rattle.catserve.proofs.Common.{answering_map, QuestionValue, RoundValue, queries_for, script, answer_line}
use Rattle.catserve.proofs.Common.{version_line, Accepted, Refused, RefusedMo, Unnamed, IsOutcome, outcome_line}
use Rattle.catserve.proofs.Common.{accepted_load, Answers, AnswersInTurn, Plays, PlaysAll, HasOneOutput}
use Rattle.po_header.specs.Rule.{Rule}
use Rattle.po_header.proofs.RuleLemmas.{HasRule-one}
use Rattle.catalogue.specs.Map.{header_text, entry_at}
use Rattle.catalogue.specs.Value.{IsFirstForm, IsCounted, HasRuleIn, text_by}
use Rattle.script_text.specs.ScriptLoads.{JobValue}
use Rattle.catserve.specs.Rounds.{Outcome}
use Rattle.catserve.proofs.Sources.{brings_one, fault_one, no_fault}

zip_one : {A B : Type 0} (R : A → B → Type 0) → ((x : A) (y z : B) → R x y → R x z → y ≡ z)
    → (xs : List A) (ys zs : List B) → AllZip R xs ys → AllZip R xs zs → ys ≡ zs
zip_one R one [] [] [] h k = refl
zip_one R one (x ∷ xs) (y ∷ ys) (z ∷ zs) h k = ap (λ v. v ∷ ys) (one x y z h.0 k.0)
    ∙ ap (λ vs. z ∷ vs) (zip_one R one xs ys zs h.1 k.1)
zip_one R one _ _ _ h k = absurd (search)

-- ---- answers

first_one : (e : Option Entry) (id t u : List ℕ) → IsFirstForm e id t → IsFirstForm e id u → t ≡ u
first_one None id t u h k = h ∙ sym k
first_one (Some e) id t u h k = cc

rule_in_one : (o : Option (List ℕ)) (r s : Rule) → HasRuleIn o r → HasRuleIn o s → r ≡ s
rule_in_one None r s h k = h ∙ sym k
rule_in_one (Some text) r s h k = HasRule-one text r s h k

counted_one : (m : List Entry) (e : Option Entry) (n : ℕ) (other t u : List ℕ) → IsCounted m e n other t
    → IsCounted m e n other u → t ≡ u
counted_one m None n other t u h k = h ∙ sym k
counted_one m (Some e) n other t u (r, has, form) (s, has', form') =
    let same : r ≡ s = rule_in_one (header_text m) r s has has' in
    cc (form, form', same)

value_one : (m : List Entry) (a : AskValue) (t u : List ℕ) → HasValue m a t → HasValue m a u → t ≡ u
value_one m (Plain id) t u h k = first_one (entry_at m (key_bytes None id)) id t u h k
value_one m (Context context id) t u h k = first_one (entry_at m (key_bytes (Some context) id)) id t u h k
value_one m (Number id plural n) t u h k = counted_one m (entry_at m (key_bytes None id)) n (text_by n id plural) t u h
    k
value_one m (ContextNumber context id plural n) t u h k = counted_one m (entry_at m (key_bytes (Some context) id)) n
    (text_by n id plural) t u h k

answer_one : (loads : List LoadValue) (q : QueryValue) (t u : List ℕ) → IsAnswer loads q t → IsAnswer loads q u → t ≡ u
answer_one loads q t u h k = value_one (answering_map (map_of loads) q) q.ask t u h k

answers_one : (loads : List LoadValue) (worker : ℕ) (queries : List QueryValue) (output other : List ℕ)
    → Answers loads worker queries output → Answers loads worker queries other → output ≡ other
answers_one loads worker queries output other (texts, each, is) (texts', each', is') =
    is ∙ ap (λ ts. flat_map (answer_line worker (length loads)) ts)
    (zip_one (IsAnswer loads) (answer_one loads) queries texts texts' each each') ∙ sym is'

turn_one : (loads : List LoadValue) (questions : List QuestionValue) (worker count : ℕ) (output other : List ℕ)
    → AnswersInTurn loads questions worker count output → AnswersInTurn loads questions worker count other
    → output ≡ other
turn_one loads questions worker zero output other h k = h ∙ sym k
turn_one loads questions worker (suc count) output other (front, back, one, all, is) (front', back', one', all', is') =
    is ∙ ap (λ xs. xs ++ back) (answers_one loads worker (queries_for worker questions) front front' one one')
    ∙ ap (λ xs. front' ++ xs) (turn_one loads questions (worker + 1) count back back' all all') ∙ sym is'

-- ---- loads

same_load : (a b : LoadValue) → a.domain ≡ b.domain → a.locale ≡ b.locale → a.map ≡ b.map → a ≡ b
same_load a b domain locale map =
    let of : List ℕ → List ℕ → List Entry → LoadValue = λ d l m. record { domain = d; locale = l; map = m } in
    ap (λ d. of d a.locale a.map) domain ∙ ap (λ l. of b.domain l a.map) locale ∙ ap (of b.domain b.locale) map

outcome_one : (l : JobValue) (o p : Outcome) → IsOutcome l o → IsOutcome l p → o ≡ p
outcome_one l (Accepted load answer) (Accepted load' answer') h k =
    let same = brings_one l.source answer answer' load.map load'.map h.1 k.1 in
    ap (λ x. Accepted x answer) (same_load load load' (h.2 ∙ sym k.2) (h.3 ∙ sym k.3) same.1)
    ∙ ap (λ x. Accepted load' x) same.0
outcome_one l (Refused fault) (Refused fault') h k = cc (fault_one l.source _ _ h.1 k.1)
outcome_one l (RefusedMo fault) (RefusedMo fault') h k = cc (fault_one l.source _ _ h.1 k.1)
outcome_one l (Refused fault) (RefusedMo fault') h k = absurd (cc (fault_one l.source _ _ h.1 k.1))
outcome_one l (RefusedMo fault) (Refused fault') h k = absurd (cc (fault_one l.source _ _ h.1 k.1))
outcome_one l Unnamed Unnamed h k = refl
outcome_one l Unnamed _ h k = absurd (h k.0)
outcome_one l _ Unnamed h k = absurd (k h.0)
outcome_one l (Accepted load answer) _ h k = absurd (no_fault l.source answer load.map _ h.1 k.1)
outcome_one l _ (Accepted load answer) h k = absurd (no_fault l.source answer load.map _ k.1 h.1)

-- ---- rounds

pub after_one : {workers : ℕ} {before : List LoadValue} {round : RoundValue} {after after' : List LoadValue}
    {output other : List ℕ} → Plays workers before round after output → Plays workers before round after' other → after
    ≡ after'
after_one {before} {round} p q = p.after_is ∙ ap (λ os. before ++ filter_map accepted_load os)
    (zip_one IsOutcome outcome_one round.loads p.outcomes q.outcomes p.loaded q.loaded) ∙ sym q.after_is

pub round_one : {workers : ℕ} {before : List LoadValue} {round : RoundValue} {after : List LoadValue}
    {output other : List ℕ}
    → Plays workers before round after output → Plays workers before round after other → output ≡ other
round_one {workers} {round} {after} p q =
    let loads = zip_one IsOutcome outcome_one round.loads p.outcomes q.outcomes p.loaded q.loaded in
    let answers = turn_one after round.questions 0 workers p.answers q.answers p.answered q.answered in
    p.output_is ∙ ap (λ os. flat_map outcome_line os ++ version_line (length after) ++ p.answers) loads
    ∙ ap (λ xs. flat_map outcome_line q.outcomes ++ version_line (length after) ++ xs) answers ∙ sym q.output_is

rounds_one : (workers : ℕ) (before : List LoadValue) (rounds : List RoundValue) (output other : List ℕ)
    → PlaysAll workers before rounds output → PlaysAll workers before rounds other → output ≡ other
rounds_one workers before [] output other h k = h ∙ sym k
rounds_one workers before (round ∷ rounds) output other (after, front, back, p, all, is)
    (after', front', back', q, all', is') =
    let same : after ≡ after' = after_one p q in
    is ∙ ap (λ xs. xs ++ back) (round_one p (rw (← same) at q))
    ∙ ap (λ xs. front' ++ xs) (rounds_one workers after rounds back back' all (rw (← same) at all')) ∙ sym is'

-- ---- scripts

pub output_one : HasOneOutput
output_one text output other (value, script, all) (value', script', all') =
    let same : value ≡ value' = cc (script.says, script'.says) in
    rounds_one value.workers [] value.rounds output other all (rw (← same) at all')
