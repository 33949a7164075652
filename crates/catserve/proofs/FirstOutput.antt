-- The output of a text's first rounds is a front of the output of the text.
use Rattle.catserve.proofs.Common.{◌≡◌, ◌∙◌, refl, sym, ap, ℕ, List, [], ◌∷◌, ◌++◌, append_assoc, LoadValue, RoundValue}
use Rattle.catserve.proofs.Common.{ScriptValue, IsScript, HasOutput, PlaysAll, HaveFirstOutput, IsInFront}
use Rattle.catserve.proofs.OneOutput.{after_one, round_one}

some_first : (workers : ℕ) (before : List LoadValue) (rounds more : List RoundValue) (output : List ℕ)
    → PlaysAll workers before (rounds ++ more) output → (first : List ℕ) × PlaysAll workers before rounds first
some_first workers before [] more output all = ([], refl)
some_first workers before (round ∷ rounds) more output (after, front, back, p, all, is) =
    let found = some_first workers after rounds more back all in
    let plays : PlaysAll workers before (round ∷ rounds) (front ++ found.0) =
    (after, front, found.0, p, found.1, refl) in
    (front ++ found.0, plays)

in_front : (workers : ℕ) (before : List LoadValue) (rounds more : List RoundValue) (output first : List ℕ)
    → PlaysAll workers before (rounds ++ more) output → PlaysAll workers before rounds first
    → (rest : List ℕ) × (output ≡ first ++ rest)
in_front workers before [] more output first all none = (output, sym (ap (λ xs. xs ++ output) none))
in_front workers before (round ∷ rounds) more output first (after, front, back, p, all, is)
    (after', front', back', q, all', is') =
    let same : after ≡ after' = after_one p q in
    let fronts : front ≡ front' = round_one p (rw (← same) at q) in
    let found = in_front workers after rounds more back back' all (rw (← same) at all') in (
      found.0,
      is ∙ ap (λ xs. xs ++ back) fronts ∙ ap (λ xs. front' ++ xs) found.1
          ∙ sym (append_assoc front' back' found.0) ∙ ap (λ xs. xs ++ found.0) (sym is'),
    )

-- the rounds of a text that has an output, cut in two
plays_both : {text : List ℕ} (output : List ℕ) {value : ScriptValue} (rounds more : List RoundValue)
    → HasOutput text output
    → IsScript text value → value.rounds ≡ rounds ++ more → PlaysAll value.workers [] (rounds ++ more) output
plays_both output {value} rounds more (value', script', all) script cut =
    let same : value' ≡ value = cc (script'.says, script.says) in
    rw cut at (rw same at all)

pub first_some : HaveFirstOutput
first_some text output value rounds more has script cut =
    some_first value.workers [] rounds more output (plays_both output rounds more has script cut)

pub first_front : IsInFront
first_front text output value rounds more first has script cut plays =
    in_front value.workers [] rounds more output first (plays_both output rounds more has script cut) plays
