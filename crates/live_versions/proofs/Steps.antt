-- The steps of readers keep the rule.
use Rattle.std.proofs.Common.{◌≡◌, ◌≢◌, ℕ, ◌^◌, ◌<◌, List, [], ◌∷◌, ◌++◌, length, fold, set, sym, refl, ap, ◌∙◌, subst}
use Rattle.std.proofs.Common.{⊎_elim, arith}
use mathlib.Core.Option.{some, some-ne-none}
use Rattle.std.proofs.lemmas.List.{append-nil}
use lib.ListN.{get_elem?}
use Rattle.left_right.specs.Register.{Admits, TurnsAt, Forks, Merges}
use Rattle.atomic_table.proofs.Lists.{at_set, at_snoc}
use Rattle.logbook.specs.Pages.{Book}
use Rattle.live_versions.specs.declared.rule.Shown.{Shown}
use Rattle.live_set.specs.Loads.{LoadValue}
use Rattle.live_set.specs.Sets.{with_load, no_loads, fold as fold_of}
use Rattle.live_loads.specs.Seen.{SeenValue}
use Rattle.live_versions.specs.SeatViews.{ViewValue, fresh_view}
use Rattle.live_loads.specs.Batches.{joined_loads, version_of, StartsWith, NoneEmpty}
use Rattle.live_versions.specs.StoreRule.{Keeps, Sees, Only}
use Rattle.live_loads.proofs.Joining.{full_add, joined-append, begins_refl, begins_trans, begins_nil, fold-append_of}

abbrev holds : Shown → List ViewValue → Type 0
holds x views = Keeps x.set x.seen views

abbrev Fits : SeenValue → ViewValue → Type 0
Fits f v = Only f.book v.books × StartsWith f.batches v.batches

-- a seat's view may become any that fits
fits_set : (f : SeenValue) (views : List ViewValue) (seat : ℕ) (w : ViewValue) → Fits f w
    → ((j : ℕ) (u : ViewValue) → get_elem? views j ≡ some u → Fits f u)
    → (j : ℕ) (u : ViewValue) → get_elem? (set views seat w) j ≡ some u → Fits f u
fits_set f views seat w ok all j u at = ⊎_elim (λ (t : (j ≡ seat) × (w ≡ u)). subst (λ (z : ViewValue). Fits f z) t.1
    ok) (λ (t : (j ≢ seat) × (get_elem? views j ≡ some u)). all j u t.1) (at_set views seat j w u at)

fits_snoc : (f : SeenValue) (views : List ViewValue) (w : ViewValue) → Fits f w
    → ((j : ℕ) (u : ViewValue) → get_elem? views j ≡ some u → Fits f u)
    → (j : ℕ) (u : ViewValue) → get_elem? (views ++ w ∷ []) j ≡ some u → Fits f u
fits_snoc f views w ok all j u at = ⊎_elim (all j u) (λ (e : w ≡ u). subst (λ (z : ViewValue). Fits f z) e ok)
    (at_snoc views w u j at)

all_fit : (x : Shown) (views : List ViewValue) → holds x views → (j : ℕ) (u : ViewValue) → get_elem? views j ≡ some u
    → Fits x.seen u
all_fit x views h j u at = (h.one_book j u at, h.begun j u at)

kept : (x : Shown) (old new : List ViewValue) → holds x old →
    ((j : ℕ) (u : ViewValue) → get_elem? new j ≡ some u → Fits x.seen u) → holds x new
kept x old new h all = record {
  folded = h.folded;
  full = h.full;
  fits = h.fits;
  one_book = λ j u at. (all j u at).0;
  begun = λ j u at. (all j u at).1;
}

fresh_fits : (f : SeenValue) → Fits f fresh_view
fresh_fits f = (tt, begins_nil f.batches)

-- a new reader knows nothing
pub admits : Admits holds fresh_view
admits x views h = kept x views (views ++ fresh_view ∷ []) h (fits_snoc x.seen views fresh_view (fresh_fits x.seen)
    (all_fit x views h))

-- an entry takes in what is published
pub enters : (seat : ℕ) (v : ViewValue) (x : Shown) → TurnsAt holds seat v x x (λ v x y w. Sees v y.set y.seen w)
enters seat v x views h at =
    let w : ViewValue = record { books = x.seen.book ∷ []; batches = x.seen.batches } in (
      w,
      kept x views (set views seat w) h (fits_set x.seen views seat w ((refl, tt), begins_refl x.seen.batches)
          (all_fit x views h)),
      record {
        folded = h.folded;
        full = h.full;
        fits = h.fits;
        later = h.begun seat v at;
        book = h.one_book seat v at;
        known = refl;
      },
    )

-- the view is cut in two
pub forks : (seat : ℕ) (v : ViewValue) → Forks holds seat v v v
forks seat v x views h at = let ok = all_fit x views h seat v at in
    kept x views (set views seat v ++ v ∷ []) h (fits_snoc x.seen (set views seat v) v ok
    (fits_set x.seen views seat v ok (all_fit x views h)))

-- a seat takes in what another knows
pub merges : (seat : ℕ) (v : ViewValue) (other : ℕ) (w : ViewValue) → Merges holds seat v other w w fresh_view
merges seat v other w x views h at apart there =
    let ok : Fits x.seen w = ⊎_elim (λ (t : (other ≡ seat) × (w ≡ w)). absurd (apart t.0))
    (λ (t : (other ≢ seat) × (get_elem? views other ≡ some w)). all_fit x views h other w t.1)
    (at_set views seat other w w there) in
    kept x views (set (set views seat w) other fresh_view) h (fits_set x.seen (set views seat w) other fresh_view
    (fresh_fits x.seen) (fits_set x.seen views seat w ok (all_fit x views h)))

-- a publish adds a batch
pub publishes : (seat : ℕ) (v : ViewValue) (x y : Shown) (loads : List LoadValue)
    → y.set ≡ fold with_load x.set loads
    → y.seen ≡ record { book = x.seen.book; batches = x.seen.batches ++ loads ∷ [] }
    → 0 < length loads → version_of y.seen.batches < 2 ^ 64
    → TurnsAt holds seat v x y (λ v x y w. w ≡ record { books = y.seen.book ∷ []; batches = y.seen.batches })
publishes seat v x y loads set_is seen_is any room views h at =
    let w : ViewValue = record { books = y.seen.book ∷ []; batches = y.seen.batches } in
    let book : x.seen.book ≡ y.seen.book = sym (ap (λ f. f.book) seen_is) in
    let grown : y.seen.batches ≡ x.seen.batches ++ loads ∷ [] = ap (λ f. f.batches) seen_is in
    let longer : StartsWith y.seen.batches x.seen.batches = (loads ∷ [], grown) in
    let others : (j : ℕ) (u : ViewValue) → get_elem? views j ≡ some u
    → Fits y.seen u = λ j u e. (
      subst (λ (b : Book). Only b u.books) book (h.one_book j u e),
      begins_trans
          y.seen.batches x.seen.batches u.batches longer (h.begun j u e),
    ) in
    let ok = fits_set y.seen views seat w ((refl, tt), begins_refl y.seen.batches) others in
    let all : joined_loads y.seen.batches ≡ joined_loads x.seen.batches ++ loads = ap joined_loads grown
    ∙ (joined-append x.seen.batches (loads ∷ []) ∙ ap (λ l. joined_loads x.seen.batches ++ l) (append-nil loads)) in
    let full : NoneEmpty y.seen.batches = subst NoneEmpty (sym grown) (full_add x.seen.batches loads h.full any) in
    let folded : y.set ≡ fold_of (joined_loads y.seen.batches) = set_is
    ∙ (ap (λ s. fold with_load s loads) h.folded ∙ (sym (fold-append_of (joined_loads x.seen.batches) loads)
    ∙ ap fold_of (sym all))) in (
      w,
      record {
        folded = folded;
        full = full;
        fits = room;
        one_book = λ j u e. (ok j u e).0;
        begun = λ j u e.
            (ok j u e).1;
      },
      refl,
    )

-- nothing is published at first
pub opens : (x : Shown) → x.set ≡ no_loads → x.seen.batches ≡ [] → holds x (fresh_view ∷ [])
opens x is none = record {
  folded = is ∙ ap (λ l. fold_of (joined_loads l)) (sym none);
  full = subst NoneEmpty (sym none) tt;
  fits = subst (λ (l : List (List LoadValue)). version_of l < 2 ^ 64) (sym none) (omega arith);
  one_book = λ seat v at. (fits_snoc x.seen [] fresh_view (fresh_fits x.seen)
      (λ j u e. absurd (some-ne-none u (sym e))) seat
      v at).0;
  begun = λ seat v at. (fits_snoc x.seen [] fresh_view (fresh_fits x.seen) (λ j u e. absurd (some-ne-none u (sym e)))
      seat v
      at).1;
}

-- a publish with nothing pending adds the book to the publisher's view
pub names_book : (seat : ℕ) (v : ViewValue) (x y : Shown) → y.set ≡ x.set → y.seen ≡ x.seen
    → TurnsAt holds seat v x y (λ v x y w. w ≡ record { books = y.seen.book ∷ []; batches = y.seen.batches })
names_book seat v x y set_is seen_is views h at =
    let w : ViewValue = record { books = y.seen.book ∷ []; batches = y.seen.batches } in
    let others : (j : ℕ) (u : ViewValue) → get_elem? views j ≡ some u
    → Fits y.seen u = λ j u e. subst (λ (f : SeenValue). Fits f u) (sym seen_is) (all_fit x views h j u e) in
    let ok = fits_set y.seen views seat w ((refl, tt), begins_refl y.seen.batches) others in (
      w,
      record {
        folded = set_is ∙ (h.folded ∙ ap (λ f. fold_of (joined_loads f.batches)) (sym seen_is));
        full = subst (λ (f : SeenValue). NoneEmpty f.batches) (sym seen_is) h.full;
        fits = subst (λ (f : SeenValue). version_of f.batches < 2 ^ 64) (sym seen_is) h.fits;
        one_book = λ j u e. (ok j u e).0;
        begun = λ j u e. (ok j u e).1;
      },
      refl,
    )
