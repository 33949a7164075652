-- What a call does to the handle of one number.
use Rattle.c_handles.proofs.Common.{◌≡◌, ℕ, ◌==◌, Bool, true, false, sym, subst, arith, by_test, Handle, Unused, Open}
use Rattle.c_handles.proofs.Common.{Closed, IsOpen, IsClosed, IsUnused, OthersStay, Makes, Turns, Closes}
use Rattle.std.proofs.lemmas.Bool.Decides.{nat_tests}

pub equal : (k n : ℕ) → (k == n) ≡ true → k ≡ n
equal k n yes_ = grind (arith, nat_tests, yes_)

-- handle k after a change of handle n: what is true of it depends on whether it is that one
pub changed : {V : Type 0} (k n : ℕ) (before after : ℕ → Handle V) (P : Bool → Handle V → Type 0)
    → OthersStay n before after → P false (before k) → (k ≡ n → P true (after k)) → P (k == n) (after k)
changed {V} k n before after P others old new =
    by_test (k == n)
    (λ yes_. subst (λ (b : Bool). P b (after k)) (sym yes_) (new (equal k n yes_)))
    (λ no_. subst (λ (b : Bool). P b (after k)) (sym no_)
    (subst (λ (x : Handle V). P false x) (sym (others k no_)) old))

-- what is true of handle n before and after is true of handle k, which is the same
pub here : {V : Type 0} (k n : ℕ) (before after : ℕ → Handle V) (R : Handle V → Handle V → Type 0) → k ≡ n
    → R (before n) (after n) → R (before k) (after k)
here k n before after R same is = subst (λ (j : ℕ). R (before j) (after j)) (sym same) is

-- the value of an open handle
pub opened_with : {V : Type 0} (P : V → Type 0) (x : Handle V) → IsOpen P x → (v : V) × P v
opened_with P (Open v) is = (v, is)
opened_with P _ is = absurd is

-- ---- what a call leaves of handle k, by what it did to handle n

both_open : {V : Type 0} (Turn : V → V → Type 0) (R : Handle V → Handle V → Type 0) (x y : Handle V)
    → ((v w : V) → Turn v w → R (Open v) (Open w)) → IsOpen (λ old. IsOpen (Turn old) y) x → R x y
both_open Turn R (Open v) (Open w) gives is = gives v w is
both_open Turn R _ _ gives is = absurd is

newly_open : {V : Type 0} (New : V → Type 0) (R : Handle V → Handle V → Type 0) (x y : Handle V)
    → ((v : V) → New v → R Unused (Open v)) → IsUnused x → IsOpen New y → R x y
newly_open New R Unused (Open v) gives unused is = gives v is
newly_open New R Unused _ gives unused is = absurd is
newly_open New R _ y gives unused is = absurd unused

just_closed : {V : Type 0} (R : Handle V → Handle V → Type 0) (x y : Handle V) → ((v : V) → R (Open v) (Closed v))
    → IsOpen (λ old. IsClosed (λ last. last ≡ old) y) x → R x y
just_closed {V} R (Open v) (Closed w) gives is = subst (λ (u : V). R (Open v) (Closed u)) (sym is) (gives v)
just_closed R _ _ gives is = absurd is

pub made_at : {V : Type 0} (New : V → Type 0) (k n : ℕ) (before after : ℕ → Handle V)
    (R : Bool → Handle V → Handle V → Type 0) → Makes New n before after → R false (before k) (before k)
    → ((v : V) → New v → R true Unused (Open v)) → R (k == n) (before k) (after k)
made_at New k n before after R is old new =
    changed k n before after (λ b y. R b (before k) y) is.others old
    (λ same. newly_open New (R true) (before k) (after k) new
    (here k n before after (λ x y. IsUnused x) same is.unused)
    (here k n before after (λ x y. IsOpen New y) same is.made))

pub turned_at : {V : Type 0} (Turn : V → V → Type 0) (k n : ℕ) (before after : ℕ → Handle V)
    (R : Bool → Handle V → Handle V → Type 0) → Turns Turn n before after → R false (before k) (before k)
    → ((v w : V) → Turn v w → R true (Open v) (Open w)) → R (k == n) (before k) (after k)
turned_at Turn k n before after R is old new =
    changed k n before after (λ b y. R b (before k) y) is.others old
    (λ same. both_open Turn (R true) (before k) (after k) new
    (here k n before after (λ x y. IsOpen (λ old. IsOpen (Turn old) y) x) same is.turned))

pub closed_at : {V : Type 0} (k n : ℕ) (before after : ℕ → Handle V) (R : Bool → Handle V → Handle V → Type 0)
    → Closes n before after → R false (before k) (before k) → ((v : V) → R true (Open v) (Closed v))
    → R (k == n) (before k) (after k)
closed_at k n before after R is old new =
    changed k n before after (λ b y. R b (before k) y) is.others old
    (λ same. just_closed (R true) (before k) (after k) new
    (here k n before after (λ x y. IsOpen (λ old. IsClosed (λ last. last ≡ old) y) x) same is.closed))
