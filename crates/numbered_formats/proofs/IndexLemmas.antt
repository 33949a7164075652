-- What is found in an index is found among the arguments.
use Rattle.std.proofs.Common.{◌≡◌, ℕ, zero, suc, ◌+◌, ◌≤◌, ◌<◌, Bool, false, List, [], ◌∷◌, Option, None, Some, refl}
use Rattle.std.proofs.Common.{ap, ◌∙◌, subst, arith, inl, inr}
use Rattle.std.specs.Prelude.{◌||◌, not, ◌==◌}
use Rattle.std.specs.List.{list_all, find}
use Rattle.std.proofs.Math.Nat.{eq-or-lt_of_le}
use Rattle.numbered_arguments.specs.declared.Kind.{Kind}
use Rattle.numbered_arguments.specs.declared.Numbered.{Numbered}
use Rattle.numbered_arguments.specs.declared.index.Index.{Index}
use Rattle.numbered_arguments.specs.NumberedArguments.{has, are_covered, is_kind}
use Rattle.numbered_arguments.specs.NumberedIndex.{IsIndexOf, has_in}
use Rattle.numbered_formats.specs.NumberGaps.{any, left_out, leaves_out_one, leaves_out_one_in, largest_number}
use Rattle.numbered_formats.specs.NumberAgreement.{one_missing, misses_one, misses_one_in, kde_leniently, qt, kde_by}
use Rattle.numbered_formats.specs.NumberAgreement.{qt_by, of_kind, is_number_there, numbers_covered, numbers_in, all_in}
use Rattle.numbered_arguments.specs.declared.Kind.TheVariants.{Any, Text}

same_in : (index : Index) (asked : List Numbered) → IsIndexOf index asked → (a : Numbered)
    → has_in index a ≡ has asked a
same_in index asked is a = ap (λ (found : Option Kind). is_kind found a.kind) (is a.number)

all_same : (p q : Numbered → Bool) → ((a : Numbered) → p a ≡ q a) → (xs : List Numbered) → list_all p xs ≡ list_all q xs
all_same p q same [] = refl
all_same p q same (x ∷ xs) = rw (same x, all_same p q same xs) refl

left_out_same : (p q : Numbered → Bool) → ((a : Numbered) → p a ≡ q a) → (n : ℕ) → left_out p n ≡ left_out q n
left_out_same p q same zero = refl
left_out_same p q same (suc n) = rw (same (any (suc n)), left_out_same p q same n) refl

pub gaps_are : (index : Index) (asked : List Numbered) (last : ℕ) → IsIndexOf index asked → last ≡ largest_number asked
    → leaves_out_one_in index last ≡ leaves_out_one asked
gaps_are index asked last is e =
    let counts = left_out_same (has_in index) (has asked) (same_in index asked is) last in
    rw (counts, e) refl

pub all_in_is : (index : Index) (ones asked : List Numbered) → IsIndexOf index asked
    → all_in index ones ≡ are_covered ones asked
all_in_is index ones asked is = all_same (has_in index) (has asked) (same_in index asked is) ones

pub numbers_in_is : (index : Index) (ones asked : List Numbered) → IsIndexOf index asked
    → numbers_in index ones ≡ numbers_covered ones asked
numbers_in_is index ones asked is = all_same (is_number_there (has_in index)) (is_number_there (has asked)) each ones
  where
    each : (a : Numbered) → is_number_there (has_in index) a ≡ is_number_there (has asked) a
    each a = rw (same_in index asked is (of_kind Text a), same_in index asked is (of_kind Any a)) refl

find_same : (p q : Numbered → Bool) → ((a : Numbered) → p a ≡ q a) → (xs : List Numbered)
    → find (λ x. not (p x)) xs ≡ find (λ x. not (q x)) xs
find_same p q same [] = refl
find_same p q same (x ∷ xs) = rw (same x, find_same p q same xs) refl

one_missing_same : (p q : Numbered → Bool) → ((a : Numbered) → p a ≡ q a) → (xs : List Numbered)
    (found : Option Numbered) → one_missing p xs found ≡ one_missing q xs found
one_missing_same p q same xs None = refl
one_missing_same p q same xs (Some first) = all_same (λ one. p one || one.number == first.number)
    (λ one. q one || one.number == first.number) (λ one. rw (same one) refl) xs

pub misses_one_is : (index : Index) (ones asked : List Numbered) → IsIndexOf index asked
    → misses_one_in index ones ≡ misses_one (has asked) ones
misses_one_is index ones asked is =
    let same = same_in index asked is in
    one_missing_same (has_in index) (has asked) same ones (find (λ one. not (has_in index one)) ones)
    ∙ ap (one_missing (has asked) ones) (find_same (has_in index) (has asked) same ones)

pub kde_is : (there back : Index) (original translation : List Numbered) → IsIndexOf there original
    → IsIndexOf back translation → kde_by there back original translation ≡ kde_leniently original translation
kde_is there back original translation is also =
    rw (all_in_is there translation original is, misses_one_is back original translation also) refl

pub qt_is : (there back : Index) (original translation : List Numbered) → IsIndexOf there original
    → IsIndexOf back translation → qt_by there back original translation ≡ qt original translation
qt_is there back original translation is also =
    rw (numbers_in_is back original translation also, numbers_in_is there translation original is) refl

-- the more numbers, the more of them are left out
pub grows : (p : Numbered → Bool) (n m : ℕ) → n ≤ m → left_out p n ≤ left_out p m
grows p n zero le =
    let none : n ≡ zero = omega (arith, le) in
    rw none (omega arith)
grows p n (suc m) le = elim (eq-or-lt_of_le le) [
  | inl e ↦ rw e (omega arith)
  | inr lt ↦ omega (arith, grows p n m (omega (arith, lt)))
]

pub at_least_two : (p : Numbered → Bool) (number last : ℕ) → number < last → p (any (number + 1)) ≡ false
    → left_out p number ≡ 1 → 2 ≤ left_out p last
at_least_two p number last lt none one =
    let after : number + 1 ≡ suc number = omega arith in
    let there : p (any (suc number)) ≡ false = subst (λ (n : ℕ). p (any n) ≡ false) after none in
    let here : left_out p (suc number) ≡ 2 = rw (there, one) refl in
    omega (arith, here, grows p (suc number) last (omega (arith, lt)))
