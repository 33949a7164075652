-- The arguments of a brace format are consistent: each has a name and is any object.
use Rattle.std.proofs.Common.{◌≡◌, ℕ, Bool, true, List, [], ◌∷◌, Option, None, Some, refl, sym, subst, inl, inr}
use Rattle.std.specs.Prelude.{◌&&◌, ◌||◌}
use Rattle.std.specs.List.{list_all, flat_map}
use Rattle.std.proofs.lemmas.Bool.{cases_Bool}
use Rattle.format_arguments.specs.declared.Kind.TheVariants.{Any}
use Rattle.format_arguments.specs.Arguments.{Argument, same_name, are_compatible, all_compatible, is_named}
use Rattle.format_arguments.specs.Arguments.{is_consistent}
use Rattle.python_brace_format.specs.BraceDirectives.{asks}

all_named : (directives : List (Option (List ℕ))) → list_all is_named (flat_map asks directives) ≡ true
all_named [] = refl
all_named (None ∷ more) = all_named more
all_named (Some name ∷ more) = all_named more

abbrev any : List ℕ → Argument
any name = record { name = Some name; kind = Any }

and_true : (a b : Bool) → a ≡ true → b ≡ true → (a && b) ≡ true
and_true a b e f = rw (e, f) refl

or_true : (a b : Bool) → a ≡ true → (a || b) ≡ true
or_true a b e = rw e refl

any_compatible : (name : List ℕ) (others : List Argument)
    → list_all (λ other. are_compatible (any name) other) others ≡ true
any_compatible name [] = refl
any_compatible name (other ∷ others) = elim (cases_Bool (same_name (any name) other)) [
  | inl e ↦ rw e (any_compatible name others)
  | inr e ↦ rw e (any_compatible name others)
]

asked_compatible : (directives : List (Option (List ℕ))) (others : List Argument)
    → all_compatible (flat_map asks directives) others ≡ true
asked_compatible [] others = refl
asked_compatible (None ∷ more) others = asked_compatible more others
asked_compatible (Some name ∷ more) others = and_true _ _ (any_compatible name others) (asked_compatible more others)

pub are_consistent : (asked : List Argument) (directives : List (Option (List ℕ))) → asked ≡ flat_map asks directives
    → is_consistent asked ≡ true
are_consistent asked directives e = subst (λ (a : List Argument). is_consistent a ≡ true) (sym e)
    (and_true _ _ (or_true _ _ (all_named directives)) (asked_compatible directives (flat_map asks directives)))
