-- Arguments that agree have one kind by each number.
use Rattle.std.proofs.Common.{◌≡◌, ℕ, ◌==◌, true, List, [], ◌∷◌, Option, None, Some, refl, sym, ap, inl, inr}
use Rattle.std.specs.Prelude.{◌⊎◌, Contains, if◌then◌else◌}
use Rattle.std.specs.List.{fold}
use Rattle.std.proofs.lemmas.Bool.{cases_Bool, and_parts, eqb-true}
use Rattle.std.proofs.lemmas.List.Elements.{Contains-append_left, Contains-append_right, Contains-push}
use Rattle.numbered_arguments.specs.declared.Kind.{Kind}
use Rattle.format_arguments.specs.declared.Strictness.TheVariants.{Same, Lenient}
use Rattle.format_arguments.proofs.AgreementLemmas.{all_at}
use Rattle.numbered_arguments.specs.declared.Numbered.{Numbered}
use Rattle.numbered_arguments.specs.NumberedArguments.{kind_at, is_kind, is_fit, has, has_fit, are_covered, agree}
use Rattle.numbered_arguments.specs.NumberedKinds.{same_size, same_kind, kinds_fit}
use Rattle.numbered_arguments.specs.declared.Size.{Size}
use Rattle.numbered_arguments.specs.declared.Size.TheVariants.{Plain, Short, Long, LongLong, Native}
use Rattle.numbered_arguments.specs.declared.Kind.TheVariants.{Any, Character, Text, Integer, Unsigned, Float, Vector}
use Rattle.numbered_arguments.specs.declared.Kind.TheVariants.{Pointer, Count, Object, Number, Date}

size_is : (a b : Size) → same_size a b ≡ true → a ≡ b
size_is Plain Plain h = refl
size_is Short Short h = refl
size_is Long Long h = refl
size_is LongLong LongLong h = refl
size_is Native Native h = refl
size_is _ _ h = absurd (cc h)

kind_is : (a b : Kind) → same_kind a b ≡ true → a ≡ b
kind_is Any Any h = refl
kind_is Character Character h = refl
kind_is Text Text h = refl
kind_is (Integer a) (Integer b) h = ap (λ (s : Size). Integer s) (size_is a b h)
kind_is (Unsigned a) (Unsigned b) h = ap (λ (s : Size). Unsigned s) (size_is a b h)
kind_is (Float a) (Float b) h = ap (λ (s : Size). Float s) (size_is a b h)
kind_is Vector Vector h = refl
kind_is Pointer Pointer h = refl
kind_is (Count a) (Count b) h = ap (λ (s : Size). Count s) (size_is a b h)
kind_is Object Object h = refl
kind_is Number Number h = refl
kind_is Date Date h = refl
kind_is _ _ h = absurd (cc h)

abbrev argument : ℕ → Kind → Numbered
argument number kind = record { number = number; kind = kind }

is_it : (a : Numbered) (number : ℕ) (kind : Kind) → a.number ≡ number → Some a.kind ≡ Some kind
    → a ≡ argument number kind
is_it a number kind e f =
    let kinds : a.kind ≡ kind = cc f in
    rw (← e, ← kinds) refl

found_at : (number : ℕ) (kind : Kind) (so_far : Option Kind) (asked : List Numbered)
    → fold (λ found a. if a.number == number then Some a.kind else found) so_far asked ≡ Some kind
    → (so_far ≡ Some kind) ⊎ Contains asked (argument number kind)
found_at number kind so_far [] e = inl e
found_at number kind so_far (a ∷ more) e =
    elim (found_at number kind (if a.number == number then Some a.kind else so_far) more e) [
      | inl here ↦ elim (cases_Bool (a.number == number)) [
        | inl same ↦
            let it : a ≡ argument number kind = is_it a number kind (eqb-true _ _ same) (rw same at here) in
            inr (rw (← it) (Contains-append_left (a ∷ []) more a (Contains-push [] a)))
        | inr other ↦ inl (rw other at here)
      ]
      | inr later ↦ inr (Contains-append_right (a ∷ []) more (argument number kind) later)
    ]

is_some_kind : (found : Option Kind) (kind : Kind) → is_kind found kind ≡ true → found ≡ Some kind
is_some_kind None kind h = absurd (cc h)
is_some_kind (Some other) kind h = ap (λ (k : Kind). Some k) (kind_is other kind h)

kept : (ones others : List Numbered) → are_covered ones others ≡ true → (number : ℕ) (kind : Kind)
    → kind_at number ones ≡ Some kind → kind_at number others ≡ Some kind
kept ones others h number kind e = elim (found_at number kind None ones e) [
  | inl none ↦ absurd (cc none)
  | inr there ↦ is_some_kind (kind_at number others) kind
      (all_at (λ (a : Numbered). has others a) ones (argument number kind) h there)
]

same_at : (a b : Option Kind) → ((kind : Kind) → a ≡ Some kind → b ≡ Some kind)
    → ((kind : Kind) → b ≡ Some kind → a ≡ Some kind) → a ≡ b
same_at None None f g = refl
same_at None (Some kind) f g = g kind refl
same_at (Some kind) b f g = sym (f kind refl)

pub same_strictly : (original translation : List Numbered) → agree original translation Same ≡ true → (number : ℕ)
    → kind_at number original ≡ kind_at number translation
same_strictly original translation h number =
    let both = and_parts (are_covered original translation) (are_covered translation original) h in
    same_at (kind_at number original) (kind_at number translation) (kept original translation both.0 number)
    (kept translation original both.1 number)

fitting : (found : Option Kind) (kind : Kind) → is_fit found kind ≡ true
    → (other : Kind) × (found ≡ Some other) × (kinds_fit other kind ≡ true)
fitting None kind h = absurd (cc h)
fitting (Some other) kind h = (other, refl, h)

pub same_leniently : (original translation : List Numbered) → agree original translation Lenient ≡ true
    → (number : ℕ) (kind : Kind) → kind_at number translation ≡ Some kind
    → (other : Kind) × (kind_at number original ≡ Some other) × (kinds_fit other kind ≡ true)
same_leniently original translation h number kind e = elim (found_at number kind None translation e) [
  | inl none ↦ absurd (cc none)
  | inr there ↦ fitting (kind_at number original) kind
      (all_at (λ (a : Numbered). has_fit original a) translation (argument number kind) h there)
]
