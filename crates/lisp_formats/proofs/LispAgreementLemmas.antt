-- Arguments agree strictly exactly if they are the same.
use Rattle.std.proofs.Common.{◌≡◌, ℕ, true, List, [], ◌∷◌, length, refl, ap, subst, ◌∙◌, arith}
use Rattle.std.specs.Prelude.{◌↔◌, ◌==◌, zip}
use Rattle.std.specs.List.{list_all}
use Rattle.std.proofs.lemmas.Bool.{and_parts, eqb-true, eq-eqb}
use Rattle.format_arguments.specs.declared.Strictness.TheVariants.{Same}
use Rattle.lisp_formats.specs.declared.Kind.{Kind}
use Rattle.lisp_formats.specs.declared.Kind.TheVariants.{Any, Character, OptionalCharacter, Integer, OptionalInteger}
use Rattle.lisp_formats.specs.declared.Kind.TheVariants.{Real, Complex, Nil}
use Rattle.lisp_formats.specs.LispAgreement.{same_kind, agree}

same_kind_is : (one other : Kind) → same_kind one other ≡ true → one ≡ other
same_kind_is Any Any e = refl
same_kind_is Character Character e = refl
same_kind_is OptionalCharacter OptionalCharacter e = refl
same_kind_is Integer Integer e = refl
same_kind_is OptionalInteger OptionalInteger e = refl
same_kind_is Real Real e = refl
same_kind_is Complex Complex e = refl
same_kind_is Nil Nil e = refl
same_kind_is _ _ e = absurd (cc e)

same_itself : (kind : Kind) → same_kind kind kind ≡ true
same_itself Any = refl
same_itself Character = refl
same_itself OptionalCharacter = refl
same_itself Integer = refl
same_itself OptionalInteger = refl
same_itself Real = refl
same_itself Complex = refl
same_itself Nil = refl

pairs_same : (xs ys : List Kind) → length xs ≡ length ys
    → list_all (λ pair. same_kind pair.0 pair.1) (zip xs ys) ≡ true → xs ≡ ys
pairs_same [] [] n e = refl
pairs_same [] (b ∷ ys) n e = absurd (omega (arith, n))
pairs_same (a ∷ xs) [] n e = absurd (omega (arith, n))
pairs_same (a ∷ xs) (b ∷ ys) n e =
    let both = and_parts (same_kind a b) (list_all (λ pair. same_kind pair.0 pair.1) (zip xs ys)) e in
    ap (λ (x : Kind). x ∷ xs) (same_kind_is a b both.0)
    ∙ ap (λ (more : List Kind). b ∷ more) (pairs_same xs ys (omega (arith, n)) both.1)

all_itself : (xs : List Kind) → list_all (λ pair. same_kind pair.0 pair.1) (zip xs xs) ≡ true
all_itself [] = refl
all_itself (a ∷ xs) = rw (same_itself a, all_itself xs) refl

agrees_itself : (xs : List Kind) → agree xs xs Same ≡ true
agrees_itself xs = rw (eq-eqb (length xs) (length xs) refl, all_itself xs) refl

strictly_same : (xs ys : List Kind) → agree xs ys Same ≡ true → xs ≡ ys
strictly_same xs ys e =
    let both = and_parts (length xs == length ys) (list_all (λ pair. same_kind pair.0 pair.1) (zip xs ys)) e in
    pairs_same xs ys (eqb-true (length xs) (length ys) both.0) both.1

pub same_exactly : (xs ys : List Kind) → (agree xs ys Same ≡ true) ↔ (xs ≡ ys)
same_exactly xs ys = (
  strictly_same xs ys,
  λ e. subst (λ (zs : List Kind). agree xs zs Same ≡ true) e (agrees_itself xs),
)
