-- The order of loads by domain and locale, and which loads are for a domain and a locale.
use Rattle.live_set.proofs.Kit.{◌≡◌, ℕ, ◌≤◌, true, false, List, Ordering, Less, Equal, Greater, refl, sym, ap, ◌∙◌}
use Rattle.live_set.proofs.Kit.{subst, arith, alike_right, LoadValue, is_for, order_of, probe}
use Rattle.std.proofs.Common.{◌&&◌}
use Rattle.std.specs.Ordering.{nat_cmp, ordering_then, ordering_reverse, ordering_index}
use Rattle.std.specs.Cmp.Lexicographic.{slice_cmp}
use Rattle.std.specs.Cmp.{IsTotalOrder, first_so, second_so}
use Rattle.std.specs.Str.{bytes_eq}
use Rattle.std.proofs.lemmas.Cmp.{nat_list_cmp_total, tied_itself, on_total, then_total}
use Rattle.std.proofs.lemmas.Slice.Eq.{bytes_eq-Decides}
use Rattle.std.specs.FinMap.{slice_cmp-IsAntisymmetric, nat_cmp-IsAntisymmetric}

pub total : IsTotalOrder order_of
total =
    let both = then_total (on_total (λ (l : LoadValue). l.locale) nat_list_cmp_total)
    (on_total (λ (l : LoadValue). l.domain) nat_list_cmp_total) in
    record { antisymm = λ x y. both.antisymm x y; trans = λ x y z. both.trans x y z; congr = λ x y z. both.congr x y z }

-- the other way round
pub flipped : (a b : LoadValue) (o : Ordering) → order_of a b ≡ o → order_of b a ≡ ordering_reverse o
flipped a b o h = total.antisymm b a ∙ ap ordering_reverse h

pub less_ne : Less ≡ Equal → ⊥
less_ne e = cc

pub greater_ne : Greater ≡ Equal → ⊥
greater_ne e = cc

equal_parts : (a b : Ordering) → ordering_then a b ≡ Equal → (a ≡ Equal) × (b ≡ Equal)
equal_parts Less b h = absurd (less_ne h)
equal_parts Equal b h = (refl, h)
equal_parts Greater b h = absurd (greater_ne h)

-- a load that ties with the pair is for it, and no other is
pub tied_for : (domain locale : List ℕ) (l : LoadValue) → order_of l (probe domain locale) ≡ Equal
    → is_for domain locale l ≡ true
tied_for domain locale l h =
    let parts = equal_parts (slice_cmp nat_cmp l.locale locale) (slice_cmp nat_cmp l.domain domain) h in
    let d : bytes_eq l.domain domain ≡ true = (bytes_eq-Decides l.domain domain).1
    (slice_cmp-IsAntisymmetric nat_cmp-IsAntisymmetric l.domain domain parts.1) in
    let e : bytes_eq l.locale locale ≡ true = (bytes_eq-Decides l.locale locale).1
    (slice_cmp-IsAntisymmetric nat_cmp-IsAntisymmetric l.locale locale parts.0) in
    λ i. d i && e i

pub same_locale : (domain locale : List ℕ) (l : LoadValue) → order_of l (probe domain locale) ≡ Equal
    → l.locale ≡ locale
same_locale domain locale l h = slice_cmp-IsAntisymmetric nat_cmp-IsAntisymmetric l.locale locale
    (equal_parts (slice_cmp nat_cmp l.locale locale) (slice_cmp nat_cmp l.domain domain) h).0

same_domain : (domain locale : List ℕ) (l : LoadValue) → order_of l (probe domain locale) ≡ Equal
    → l.domain ≡ domain
same_domain domain locale l h = slice_cmp-IsAntisymmetric nat_cmp-IsAntisymmetric l.domain domain
    (equal_parts (slice_cmp nat_cmp l.locale locale) (slice_cmp nat_cmp l.domain domain) h).1

-- with the map of another load for its domain and locale it is that load
pub with_map : (l other : LoadValue) → order_of l (probe other.domain other.locale) ≡ Equal
    → record { domain = l.domain; locale = l.locale; map = other.map } ≡ other
with_map l other h =
    let d = same_domain other.domain other.locale l h in
    let e = same_locale other.domain other.locale l h in
    λ i. record { domain = d i; locale = e i; map = other.map }

pub for_tied : (domain locale : List ℕ) (l : LoadValue) → is_for domain locale l ≡ true
    → order_of l (probe domain locale) ≡ Equal
for_tied domain locale l h =
    let d : l.domain ≡ domain = (bytes_eq-Decides l.domain domain).0
    (first_so (bytes_eq l.domain domain) (bytes_eq l.locale locale) h) in
    let e : l.locale ≡ locale = (bytes_eq-Decides l.locale locale).0
    (second_so (bytes_eq l.domain domain) (bytes_eq l.locale locale) h) in
    let same : order_of l (probe domain locale) ≡ order_of (probe domain locale) (probe domain locale) = λ i.
    ordering_then (slice_cmp nat_cmp (e i) locale) (slice_cmp nat_cmp (d i) domain) in
    same ∙ tied_itself total (probe domain locale)

pub not_for : (domain locale : List ℕ) (l : LoadValue) (o : Ordering) → order_of l (probe domain locale) ≡ o
    → (o ≡ Equal → ⊥) → is_for domain locale l ≡ false
not_for domain locale l o h ne =
    elim (is_for domain locale l) as (λ r. is_for domain locale l ≡ r → r ≡ false) [
      | true ↦ λ e. absurd (ne (sym h ∙ for_tied domain locale l e))
      | false ↦ λ e. refl
    ] refl

-- a load for the pair compares with others as the pair does
pub beside : (domain locale : List ℕ) (x z : LoadValue) → is_for domain locale z ≡ true → order_of x z
    ≡ order_of x (probe domain locale)
beside domain locale x z h = alike_right total z (probe domain locale) x (for_tied domain locale z h)

-- ---- comparisons with one load are sorted along ascending loads

index_max : (o : Ordering) → ordering_index o ≤ 2
index_max Less = omega arith
index_max Equal = omega arith
index_max Greater = omega arith

pub rises_with : (u v a : LoadValue) → order_of u v ≡ Less → ordering_index (order_of u a) ≤ ordering_index
    (order_of v a)
rises_with u v a lt =
    elim (order_of v a) as (λ o. order_of v a ≡ o → ordering_index (order_of u a) ≤ ordering_index o) [
      | Less ↦ λ e. let least : order_of u a ≡ Less = total.trans u v a lt e in subst (λ o. ordering_index o ≤ 0)
          (sym least) (omega arith)
      | Equal ↦ λ e. let least : order_of u a ≡ Less = sym (alike_right total v a u e)
          ∙ lt in subst (λ o. ordering_index o ≤ 1) (sym least) (omega arith)
      | Greater ↦ λ e. index_max (order_of u a)
    ] refl
