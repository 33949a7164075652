-- A call that passes as many arguments as a format needs passes each that the format asks for.
use Rattle.std.proofs.Common.{◌≡◌, ℕ, ◌+◌, ◌<◌, ◌≤◌, ◌^◌, true, List, [], ◌∷◌, refl, arith, inl, inr, ltb-false}
use Rattle.std.specs.Prelude.{◌%◌, nat_lt}
use Rattle.std.specs.List.{fold, list_all}
use Rattle.std.proofs.lemmas.Bool.{cases_Bool, cases_lt, and_parts, eqb-true, lt-ltb, ltb-true, false≢true}
use Rattle.format_arguments.specs.declared.Strictness.{Strictness}
use Rattle.format_arguments.specs.declared.Strictness.TheVariants.{Same, Lenient}
use Rattle.numbered_arguments.specs.declared.Numbered.{Numbered}
use Rattle.csharp_format.specs.CSharpAgreement.{argument_count, passed_with, agree, is_counted, is_passed}

-- after an argument the count is larger than its number, and no smaller than before
counted : (count : ℕ) (a : Numbered) → is_counted a ≡ true
    → (count ≤ passed_with count a) × (a.number < passed_with count a)
counted count a small = elim (cases_Bool (nat_lt a.number count)) [
  | inl less ↦
      let below : a.number < count = ltb-true a.number count less in
      rw less (omega arith, below)
  | inr more ↦
      let bound : a.number < 4294967295 = ltb-true a.number 4294967295 small in
      let same : (a.number + 1) % 2 ^ 32 ≡ a.number + 1 = omega (arith, bound) in
      let le : count ≤ a.number = omega (arith, ltb-false a.number count more) in
      rw (more, same) (omega (arith, le), omega arith)
]

all_passed : (count most : ℕ) (asked : List Numbered) → list_all is_counted asked ≡ true
    → fold passed_with count asked ≤ most → (count ≤ most) × (list_all (is_passed most) asked ≡ true)
all_passed count most [] h le = (le, refl)
all_passed count most (a ∷ more) h le =
    let both = and_parts (is_counted a) (list_all is_counted more) h in
    let here = counted count a both.0 in
    let others = all_passed (passed_with count a) most more both.1 le in
    let below : a.number < most = omega (arith, here.1, others.0) in
    (omega (arith, here.0, others.0), rw (lt-ltb a.number most below, others.1) refl)

enough : (original translation : List Numbered) (rule : Strictness) → agree original translation rule ≡ true
    → argument_count translation ≤ argument_count original
enough original translation Same h =
    let same : argument_count original ≡ argument_count translation =
    eqb-true (argument_count original) (argument_count translation) h in
    omega (arith, same)
enough original translation Lenient h = elim (cases_lt (argument_count original) (argument_count translation)) [
  | inl less ↦ absurd (false≢true (rw (lt-ltb (argument_count original) (argument_count translation) less) at h))
  | inr le ↦ omega (arith, le)
]

pub each_passed : (original translation : List Numbered) (rule : Strictness)
    → agree original translation rule ≡ true → list_all is_counted translation ≡ true
    → list_all (is_passed (argument_count original)) translation ≡ true
each_passed original translation rule h small =
    (all_passed 0 (argument_count original) translation small (enough original translation rule h)).1
