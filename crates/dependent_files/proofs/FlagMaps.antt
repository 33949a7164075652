-- Where no `%` in the translations of a map leads to the flag `I`, none of them has a directive with the flag.
use Rattle.std.proofs.Common.{◌≡◌, ℕ, ◌+◌, ◌≤◌, Bool, true, false, List, [], ◌∷◌, map, take, length, Some}
use Rattle.std.proofs.Common.{refl, sym, subst, ◌∙◌, inl, inr}
use Rattle.std.specs.Prelude.{◌↔◌, IsTrue, not, slice_get}
use Rattle.std.specs.List.{Any, join_with_byte, list_all}
use Rattle.std.proofs.lemmas.Bool.{false≢true}
use Rattle.std.proofs.lemmas.List.{take_all}
use Rattle.std.proofs.lemmas.Option.{get_or_from_slice_get, slice_get_cases}
use Rattle.mo_image.specs.Entry.{Entry, translation}
use Rattle.mo_image.specs.MoFile.{pool, with_nul}
use Rattle.po_checks.proofs.Checking.{none_take}
use Rattle.po_checks.proofs.FirstLines.{any_cases, any_none}
use Rattle.c_macros.specs.MacroSplits.{is_macro, IsSplitAt}
use Rattle.c_macros.specs.declared.Side.TheVariants.{Translation}
use Rattle.c_macros.specs.declared.Split.{Split}
use Rattle.c_macros.proofs.SplitLemmas.{one_parts}
use Rattle.dependent_files.specs.DigitsFlag.{FormHasFlag, HasFlag, SomeHasFlag}
use Rattle.dependent_files.specs.FlagScanning.{may_have_flag}
use Rattle.dependent_files.proofs.FlagBytes.{later, sooner}
use Rattle.dependent_files.proofs.FlagDirectives.{lacks_flag}

-- ---- a form

pub form_is : (text : List ℕ) (parts : List Split) (all : Bool) → IsSplitAt Translation text parts
    → all ≡ list_all is_macro parts → IsTrue (not all) ↔ HasFlag text
form_is text parts true (inl splits) e = (
  (λ t. absurd (cc t)),
  (λ has. absurd (cc (
    e,
    subst (λ (t : List Split). list_all is_macro t ≡ false)
        (one_parts text has.parts parts has.splits.has splits.has) has.some,
  ))),
)
form_is text parts false (inl splits) e =
    ((λ t. record { parts = parts; splits = splits; some = sym e }), (λ has. refl))
form_is text parts all (inr (none, refused)) e = (
  (λ t. absurd (cc (rw (e, none) at t))),
  (λ has. absurd (refused has.parts has.splits)),
)

-- ---- an entry

pub forms_lack : (forms : List (List ℕ)) → may_have_flag (join_with_byte 0 forms) ≡ false → Any HasFlag forms → ⊥
forms_lack [] none a = any_none HasFlag a
forms_lack (f ∷ []) none a = elim (any_cases HasFlag f [] a) [
  | inl has ↦ lacks_flag f none has
  | inr b ↦ any_none HasFlag b
]
forms_lack (f ∷ g ∷ fs) none a = elim (any_cases HasFlag f (g ∷ fs) a) [
  | inl has ↦ lacks_flag f (sooner f (0 ∷ join_with_byte 0 (g ∷ fs)) none) has
  | inr b ↦ forms_lack (g ∷ fs)
      (later (0 ∷ []) (join_with_byte 0 (g ∷ fs)) (later f (0 ∷ join_with_byte 0 (g ∷ fs)) none)) b
]

-- ---- all entries

pub translations_lack : (m : List Entry) → may_have_flag (pool (map translation m)) ≡ false → SomeHasFlag m → ⊥
translations_lack [] none a = any_none FormHasFlag a
translations_lack (e ∷ m) none a =
    let rest = pool (map translation m) in
    elim (any_cases FormHasFlag e m a) [
      | inl has ↦ forms_lack e.forms (sooner (translation e) (0 ∷ []) (sooner (with_nul (translation e)) rest none)) has
      | inr b ↦ translations_lack m (later (with_nul (translation e)) rest none) b
    ]

-- ---- one after another

any_at : {X : Type 0} (P : X → Type 0) (xs : List X) (k : ℕ) (x : X) → slice_get xs k ≡ Some x → P x → Any P xs
any_at P xs k x at p = elim ((slice_get_cases xs k).1) [
  | inl (y, lt, is, there) ↦ (k, x, lt, get_or_from_slice_get xs k x x at, p)
  | inr (le, none) ↦ absurd (cc (sym none ∙ at))
]

pub one_more : {X : Type 0} (P : X → Type 0) (xs : List X) (k : ℕ) (x : X) (has : Bool) → slice_get xs k ≡ Some x
    → (IsTrue has ↔ P x) → has ≡ false → ¬ Any P (take k xs) → ¬ Any P (take (k + 1) xs)
one_more P xs k x has at is lacks none = none_take P xs k x at (λ p. absurd (false≢true (sym lacks ∙ is.1 p))) none

pub found_is : {X : Type 0} (P : X → Type 0) (xs : List X) (k : ℕ) (x : X) (has : Bool) → slice_get xs k ≡ Some x
    → (IsTrue has ↔ P x) → has ≡ true → IsTrue true ↔ Any P xs
found_is P xs k x has at is found = ((λ t. any_at P xs k x at (is.0 found)), (λ a. refl))

pub none_is : (P : Type 0) → ¬ P → IsTrue false ↔ P
none_is P none = ((λ t. absurd (false≢true t)), (λ p. absurd (none p)))

pub none_at_all : {X : Type 0} (P : X → Type 0) (xs : List X) (k : ℕ) → length xs ≤ k → ¬ Any P (take k xs)
    → IsTrue false ↔ Any P xs
none_at_all P xs k le none = none_is (Any P xs) (subst (λ ys. ¬ Any P ys) (take_all k xs le) none)
