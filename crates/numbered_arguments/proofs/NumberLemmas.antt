-- Numbers of digits, modulo 2^32.
use Rattle.std.proofs.Common.{◌≡◌, ℕ, suc, ◌+◌, ◌*◌, Bool, true, List, [], ◌∷◌, refl, sym, ap, subst, ◌∙◌, arith, inl}
use Rattle.std.proofs.Common.{inr}
use Rattle.std.specs.Prelude.{◌%◌, take}
use Rattle.std.specs.List.{list_all, prefix_len}
use Rattle.std.proofs.Math.Nat.{mod-add-mod}
use Rattle.std.proofs.lemmas.Nat.{mul-mod_first}
use Rattle.std.proofs.lemmas.Bool.{cases_Bool}
use Rattle.format_arguments.specs.Bytes.{run}

pub one_digit : (v d m : ℕ) → ((v % m * 10) % m + d) % m ≡ (10 * v + d) % m
one_digit v d m =
    let swap : v * 10 ≡ 10 * v = omega arith in
    ap (λ (x : ℕ). (x + d) % m) (mul-mod_first v 10 m) ∙ mod-add-mod (v * 10) m d
    ∙ ap (λ (x : ℕ). (x + d) % m) swap

-- a run passes its test
pub run_passes : (test : ℕ → Bool) (text : List ℕ) → list_all test (run test text) ≡ true
run_passes test [] = refl
run_passes test (b ∷ more) = elim (cases_Bool (test b)) [
  | inl e ↦
      let long : prefix_len test (b ∷ more) ≡ suc (prefix_len test more) = rw e (omega arith) in
      let cut : run test (b ∷ more) ≡ b ∷ run test more = ap (λ (n : ℕ). take n (b ∷ more)) long in
      subst (λ (t : List ℕ). list_all test t ≡ true) (sym cut) (rw e (run_passes test more))
  | inr e ↦ rw e refl
]
