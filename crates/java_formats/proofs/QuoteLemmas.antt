-- Parts of a text are no longer than the text.
use Rattle.std.proofs.Common.{ℕ, ◌≤◌, Bool, true, false, List, [], ◌∷◌, length, arith, inl, inr, ◌==◌}
use Rattle.std.specs.Prelude.{◌&&◌, not}
use Rattle.std.proofs.lemmas.Bool.{cases_Bool}
use Rattle.java_formats.specs.declared.Sort.{Sort}
use Rattle.java_formats.specs.JavaQuotes.{quote, close_brace, backslash, is_mark, len_before, depth_behind, inner_len}
use Rattle.java_formats.specs.JavaQuotes.{ends_number, number_len}

pub before_within : (sort : Sort) (quoted : Bool) (text : List ℕ) → len_before sort quoted text ≤ length text
before_within sort quoted [] = omega arith
before_within sort quoted (b ∷ more) = elim (cases_Bool (b == quote)) [
  | inl e ↦ rw e (omega (arith, before_within sort (not quoted) more))
  | inr f ↦ elim (cases_Bool (not quoted && is_mark sort b)) [
    | inl e ↦ rw (f, e) (omega arith)
    | inr e ↦ rw (f, e) (omega (arith, before_within sort quoted more))
  ]
]

pub inner_within : (depth : ℕ) (text : List ℕ) → inner_len depth text ≤ length text
inner_within depth [] = omega arith
inner_within depth (b ∷ more) = elim (cases_Bool (b == close_brace && depth == 0)) [
  | inl e ↦ rw e (omega arith)
  | inr e ↦ rw e (omega (arith, inner_within (depth_behind b depth) more))
]

pub number_within : (quoted escaped : Bool) (text : List ℕ) → number_len quoted escaped text ≤ length text
number_within quoted escaped [] = omega arith
number_within quoted true (b ∷ more) = omega (arith, number_within quoted false more)
number_within quoted false (b ∷ more) = elim (cases_Bool (b == quote)) [
  | inl e ↦ rw e (omega (arith, number_within (not quoted) false more))
  | inr f ↦ elim (cases_Bool (not quoted && ends_number (b ∷ more))) [
    | inl e ↦ rw (f, e) (omega arith)
    | inr e ↦ rw (f, e) (omega (arith, number_within quoted (b == backslash) more))
  ]
]
