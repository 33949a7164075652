-- A text is read in one way, units and pieces alike, up to where none begins.
use Rattle.po_text.proofs.Kit.{◌≡◌, ◌≢◌, ℕ, ◌≤◌, true, false, List, [], ◌∷◌, ◌++◌, map, Some, None, refl, sym, ap, ◌∙◌}
use Rattle.po_text.proofs.Kit.{subst, arith, inl, inr, ne_eqb, cases_Bool, Chain, StringUnit, Plain, Escape, Octal}
use Rattle.po_text.proofs.Kit.{UnitAt, UnitsAt, unit_value, is_plain, is_octal, escaped_byte}
use Rattle.std.proofs.lemmas.List.{append_cancel_left}
use Rattle.std.proofs.lemmas.Bool.Decides.{nat_tests}
use Rattle.po_text.specs.Spelling.{octal_run}

-- no step can be made from s
abbrev pub Stops : {A S : Type 0} → (A → S → S → Type 0) → S → Type 0
Stops {A} {S} Step s = (a : A) (m : S) → ¬ Step a s m

abbrev pub IsOneWay : {A S : Type 0} → (A → S → S → Type 0) → Type 0
IsOneWay {A} {S} Step = (a b : A) (s m n : S) → Step a s m → Step b s n → (a ≡ b) × (m ≡ n)

-- if each step is the only one from its state, a chain that can't continue is the only one
pub Chain-one : {A S : Type 0} (Step : A → S → S → Type 0) → IsOneWay Step → (xs ys : List A) (s t u : S)
    → Chain Step xs s t → Chain Step ys s u → Stops Step t → Stops Step u → (xs ≡ ys) × (t ≡ u)
Chain-one Step one [] [] s t u e f stop stop' = (refl, sym e ∙ f)
Chain-one Step one [] (y ∷ ys) s t u e (n, step, more) stop stop' = absurd (stop y n (subst (λ z. Step y z n) e step))
Chain-one Step one (x ∷ xs) [] s t u (m, step, more) f stop stop' = absurd (stop' x m (subst (λ z. Step x z m) f step))
Chain-one {A} {S} Step one (x ∷ xs) (y ∷ ys) s t u (m, step, more) (n, step', more') stop stop' =
    let same = one x y s m n step step' in
    let rest = Chain-one Step one xs ys m t u more (subst (λ (z : S). Chain Step ys z u) (sym same.1) more') stop stop'
    in
    (cc (same.0, rest.0), rest.1)

-- ---- units of a string

pub head_is : (a b : ℕ) (s t : List ℕ) → a ∷ s ≡ b ∷ t → a ≡ b
head_is a b s t e = cc

octal_low : (c : ℕ) → is_octal c ≡ true → 48 ≤ c
octal_low c e = grind (arith, nat_tests)

octal_high : (c : ℕ) → is_octal c ≡ true → c ≤ 55
octal_high c e = grind (arith, nat_tests)

pub plain_no_slash : (b : ℕ) (s m t : List ℕ) → s ≡ b ∷ m → is_plain b ≡ true → s ≡ 92 ∷ t → ⊥
plain_no_slash b s m t e plain f =
    let g : b ≡ 92 = cc in
    let h : is_plain 92 ≡ true = rw g at plain in
    absurd (cc h)

pub octal_no_escape : (c : ℕ) → is_octal c ≡ true → escaped_byte c ≡ None
octal_no_escape c e =
    let low : 48 ≤ c = omega (arith, octal_low c e) in
    let high : c ≤ 55 = omega (arith, octal_high c e) in
    rw (
      ne_eqb c 110 (λ h. omega arith),
      ne_eqb c 116 (λ h. omega arith),
      ne_eqb c 98 (λ h. omega arith),
      ne_eqb c 114
          (λ h. omega arith),
      ne_eqb c 102 (λ h. omega arith),
      ne_eqb c 118 (λ h. omega arith),
      ne_eqb c 97
          (λ h. omega arith),
      ne_eqb c 92 (λ h. omega arith),
      ne_eqb c 34 (λ h. omega arith),
    ) refl

pub octal_run-none : (c : ℕ) (m : List ℕ) → is_octal c ≡ false → octal_run (c ∷ m) ≡ []
unfolding octal_run
octal_run-none c m e = rw e refl

escape_no_octal : (c v : ℕ) (m digits n : List ℕ) → escaped_byte c ≡ Some v → c ∷ m ≡ digits ++ n
    → octal_run (digits ++ n)
    ≡ digits → digits ≢ [] → ⊥
escape_no_octal c v m digits n e split run some = elim (cases_Bool (is_octal c)) [
  | inl is ↦ let none = octal_no_escape c is in absurd (cc (e, none))
  | inr not_octal ↦ some (sym run ∙ sym (ap octal_run split) ∙ octal_run-none c m not_octal)
]

octal_one : (digits m digits' n : List ℕ) → digits ++ m ≡ digits' ++ n → octal_run (digits ++ m) ≡ digits
    → octal_run (digits' ++ n) ≡ digits' → (digits ≡ digits') × (m ≡ n)
octal_one digits m digits' n e run run' =
    let same : digits ≡ digits' = sym run ∙ ap octal_run e ∙ run' in
    (same, append_cancel_left digits m n (e ∙ ap (λ (d : List ℕ). d ++ n) (sym same)))

pub Unit-one : IsOneWay UnitAt
Unit-one (Plain b) (Plain b') s m n p q = let e = p.0 in let f = q.0 in (cc (e, f), cc (e, f))
Unit-one (Plain b) (Escape c v) s m n p q = absurd (plain_no_slash b s m (c ∷ n) p.0 p.1 q.0)
Unit-one (Plain b) (Octal digits) s m n p q = absurd (plain_no_slash b s m (digits ++ n) p.0 p.1 q.0)
Unit-one (Escape c v) (Plain b) s m n p q = absurd (plain_no_slash b s n (c ∷ m) q.0 q.1 p.0)
Unit-one (Escape c v) (Escape c' v') s m n p q =
    let e = p.0 in let f = q.0 in let same : c ≡ c' = cc (e, f) in
    let value : v ≡ v' = let g = p.1 in let h = q.1 in let k = ap escaped_byte same in cc (g, h, k) in
    (cc (same, value), cc (e, f))
Unit-one (Escape c v) (Octal digits) s m n p q = let e = p.0 in let f = q.0 in absurd
    (escape_no_octal c v m digits n p.1 (cc (e, f)) q.1 q.2)
Unit-one (Octal digits) (Plain b) s m n p q = absurd (plain_no_slash b s n (digits ++ m) q.0 q.1 p.0)
Unit-one (Octal digits) (Escape c v) s m n p q = let e = p.0 in let f = q.0 in absurd
    (escape_no_octal c v n digits m q.1 (cc (e, f)) p.1 p.2)
Unit-one (Octal digits) (Octal digits') s m n p q =
    let e = p.0 in let f = q.0 in
    let same = octal_one digits m digits' n (cc (e, f)) p.1 q.1 in
    (ap Octal same.0, same.1)

-- ---- where no unit begins

pub quote_stops : (m : List ℕ) → Stops UnitAt (34 ∷ m)
quote_stops m (Plain b) n p = let e = p.0 in let same : 34 ≡ b = cc e in let plain : is_plain 34
    ≡ true = ap is_plain same ∙ p.1 in absurd (cc plain)
quote_stops m (Escape c v) n p = let e = p.0 in absurd (omega (arith, head_is 34 92 m (c ∷ n) e))
quote_stops m (Octal digits) n p = let e = p.0 in absurd (omega (arith, head_is 34 92 m (digits ++ n) e))

pub UnitsAt-one : (values values' s t u : List ℕ) → UnitsAt values s t → UnitsAt values' s u → Stops UnitAt t
    → Stops UnitAt u → (values ≡ values') × (t ≡ u)
UnitsAt-one values values' s t u p q stop stop' =
    let same = Chain-one UnitAt Unit-one p.units q.units s t u p.each q.each stop stop' in
    (p.values_are ∙ ap (λ (us : List StringUnit). map unit_value us) same.0 ∙ sym q.values_are, same.1)
