-- The kept entries of the sorted outlines are the map of the text.
use Rattle.catalogue.proofs.Kit.{◌≡◌, ℕ, suc, ◌+◌, ◌<◌, Bool, true, false, cond, List, [], ◌∷◌, length, map, get_or}
use Rattle.catalogue.proofs.Kit.{Option, Some, None, Ordering, refl, sym, ap, ◌∙◌, subst, arith, Contains, option_map}
use Rattle.catalogue.proofs.Kit.{AllByRecursion, filter_map, nat_cmp, is_lt, Less, Equal, Greater, slice_cmp}
use Rattle.catalogue.proofs.Kit.{slice_cmp-IsAntisymmetric, nat_cmp-IsAntisymmetric, false≢true, nat_list_cmp_total}
use Rattle.catalogue.proofs.Kit.{Entry, key, IsLawfulEntry, Rises, message_of, is_kept, kept_entries, IsMapOf, Kept}
use Rattle.catalogue.proofs.Kit.{Outline, outline_of, kept_entry, IsRepeat, Options}
use Rattle.std.proofs.Common.{◌≢◌}
use Rattle.std.specs.List.{cons_option}
use Rattle.std.specs.Ordering.{ordering_then}
use Rattle.std.proofs.lemmas.List.Elements.{All-from_recursion, All-get_or, Contains-get_or}
use Rattle.po_text.specs.Entries as po
use Rattle.mo_image.specs.Parts.{entry_from}
use Rattle.mo_image.proofs.EntryParts.{entry_again}
use Rattle.mo_image.proofs.KeyParts.{rejoined}
use Rattle.catalogue_drafts.proofs.InOrder.{AreOrdered, Comes, comes, stands, outline_lt}
use Rattle.catalogue_drafts.proofs.Members.{has_head, has_tail, has_map, has_filter, has_filter_map}

abbrev pub Lawful : po.Entry → Type 0
Lawful e = IsLawfulEntry (message_of e)

-- ---- one outline

-- a kept outline is the entry of the text
pub kept_is : (o : Options) (n : ℕ) (e : po.Entry) → Lawful e → is_kept o e ≡ true → kept_entry (outline_of o n e)
    ≡ Some (message_of e)
kept_is o n e lawful yes_kept = rw yes_kept (ap (λ (m : Entry). Some m) (entry_again (message_of e) lawful))

pub left_out : (o : Options) (n : ℕ) (e : po.Entry) → is_kept o e ≡ false → kept_entry (outline_of o n e) ≡ None
left_out o n e not_kept = rw not_kept refl

-- the entry of an outline has the outline's key
kept_key : (r : Outline) (m : Entry) → kept_entry r ≡ Some m → key m ≡ r.key
kept_key r m e = of r.texts refl
  where
    of : (t : Option Kept) → r.texts ≡ t → key m ≡ r.key
    of None is = absurd (cc (ap (λ (x : Option Kept). option_map (λ (k : Kept). entry_from r.key k.0 k.1) x) is))
    of (Some k) is =
        let same : Some (entry_from r.key k.0 k.1) ≡ Some m = sym
        (ap (λ (x : Option Kept). option_map (λ (k : Kept). entry_from r.key k.0 k.1) x) is) ∙ e in
        let entry : entry_from r.key k.0 k.1 ≡ m = cc in
        sym (ap key entry) ∙ rejoined r.key

-- ---- keys rise

-- the first key is below the second
above : List ℕ → List ℕ → Type 0
above a b = slice_cmp nat_cmp a b ≡ Less

rises_on : (k : List ℕ) (ks : List (List ℕ)) → Rises (k ∷ ks) → Rises ks
rises_on k [] rises = tt
rises_on k (l ∷ ks) rises = rises.1

-- keys still rise if a lower key replaces the first
rises_under : (j k : List ℕ) (ks : List (List ℕ)) → slice_cmp nat_cmp j k ≡ Less → Rises (k ∷ ks) → Rises (j ∷ ks)
rises_under j k [] less rises = tt
rises_under j k (l ∷ ks) less rises = (nat_list_cmp_total.trans j k l less rises.0, rises.1)

abbrev row_keys : List Outline → List (List ℕ)
row_keys rs = map (λ (r : Outline). r.key) rs

kept_rise : (k : List ℕ) (rs : List Outline) → Rises (k ∷ row_keys rs) → Rises (k ∷ map key (filter_map kept_entry rs))
kept_rise k [] rises = tt
kept_rise k (r ∷ rs) rises = of (λ j h. kept_rise j rs h) (kept_entry r) refl
  where
    of : ((j : List ℕ) → Rises (j ∷ row_keys rs) → Rises (j ∷ map key (filter_map kept_entry rs))) → (o : Option Entry)
        → kept_entry r ≡ o → Rises (k ∷ map key (cons_option (kept_entry r) (filter_map kept_entry rs)))
    of rest None is = rw is (rest k (rises_under k r.key (row_keys rs) rises.0 rises.1))
    of rest (Some m) is =
        let P : List ℕ → Type 0 = λ l. (slice_cmp nat_cmp k l ≡ Less)
        × Rises (l ∷ map key (filter_map kept_entry rs)) in
        rw is (subst P (sym (kept_key r m is)) (rises.0, rest r.key rises.1))

kept_all_rise : (rs : List Outline) → Rises (row_keys rs) → Rises (map key (filter_map kept_entry rs))
kept_all_rise [] rises = tt
kept_all_rise (r ∷ rs) rises = of (kept_all_rise rs (rises_on r.key (row_keys rs) rises)) (kept_entry r) refl
  where
    of : Rises (map key (filter_map kept_entry rs)) → (o : Option Entry) → kept_entry r ≡ o
        → Rises (map key (cons_option (kept_entry r) (filter_map kept_entry rs)))
    of rest None is = rw is rest
    of rest (Some m) is = rw is (subst (λ l. Rises (l ∷ map key (filter_map kept_entry rs))) (sym (kept_key r m is))
        (kept_rise r.key rs rises))

-- sorted neighbours with different keys rise
by_less : (o : Ordering) (m n : ℕ) → is_lt (ordering_then (Rattle.std.specs.Ordering.ordering_reverse o) (nat_cmp n m))
    ≡ false → (o ≡ Equal → ⊥) → o ≡ Less
by_less Less m n later differ = refl
by_less Equal m n later differ = absurd (differ refl)
by_less Greater m n later differ = absurd (false≢true (sym later))

neighbour : (a b : Outline) → outline_lt b a ≡ false → a.key ≢ b.key → slice_cmp nat_cmp a.key b.key ≡ Less
neighbour a b later differ =
    by_less (slice_cmp nat_cmp a.key b.key) a.number b.number
    (sym (ap (λ (o : Ordering). is_lt (ordering_then o (nat_cmp b.number a.number)))
    (nat_list_cmp_total.antisymm b.key a.key)) ∙ later)
    (λ e. differ (slice_cmp-IsAntisymmetric nat_cmp-IsAntisymmetric a.key b.key e))

from_neighbours : (rs : List Outline) → ((i : ℕ) (d : Outline) → i + 1 < length rs
    → slice_cmp nat_cmp (get_or rs i d).key (get_or rs (i + 1) d).key ≡ Less) → Rises (row_keys rs)
from_neighbours (r ∷ s ∷ rs) h = (
  h 0 r (omega arith),
  from_neighbours (s ∷ rs) (λ i d lt.
      let next : suc i + 1 ≡ suc (i + 1) = omega arith in
      subst (λ k. slice_cmp nat_cmp (get_or (s ∷ rs) i d).key (get_or (r ∷ s ∷ rs) k d).key ≡ Less) next
      (h (suc i) d (omega arith))),
)
from_neighbours _ h = tt

rows_rise : (o : Options) (entries : List po.Entry) (rs : List Outline) → AreOrdered o entries rs
    → ((j : ℕ) → ¬ IsRepeat rs j) → Rises (row_keys rs)
rows_rise o entries rs ordered none = from_neighbours rs (λ i d lt. neighbour (get_or rs i d) (get_or rs (i + 1) d)
    (ordered.sorted i d (omega arith) lt)
    (λ same. none i (record {
      within = lt;
      same = λ e. ap (λ (r : Outline). r.key) (first i e d (omega arith)) ∙ same
          ∙ ap (λ (r : Outline). r.key) (first (i + 1) d e lt);
    })))
  where
    first : (i : ℕ) (d e : Outline) → i < length rs → get_or rs i d ≡ get_or rs i e
    first i d e lt = Rattle.std.proofs.lemmas.List.get_or_default rs i d e lt

-- ---- the members

each_given : (P : Entry → Type 0) (rs : List Outline) → ((r : Outline) → Contains rs r → (m : Entry) → kept_entry r
    ≡ Some m → P m) → AllByRecursion P (filter_map kept_entry rs)
each_given P [] h = tt
each_given P (r ∷ rs) h = of (each_given P rs (λ s has m is. h s (has_tail s r rs has) m is)) (kept_entry r) refl
  where
    of : AllByRecursion P (filter_map kept_entry rs) → (o : Option Entry) → kept_entry r ≡ o
        → AllByRecursion P (cons_option (kept_entry r) (filter_map kept_entry rs))
    of rest None is = rw is rest
    of rest (Some m) is = rw is (h r (has_head r r rs refl) m is, rest)

-- an entry of the catalogue is the message of a kept entry of the text
pub record Was (o : Options) (entries : List po.Entry) (m : Entry) : Type 0 where
  pub entry : po.Entry
  pub has : Contains entries entry
  pub is_kept : is_kept o entry ≡ true
  pub is : m ≡ message_of entry
  pub lawful : Lawful entry

some_is : (a b : Entry) → Some a ≡ Some b → a ≡ b
some_is a b e = cc

was : (o : Options) (entries : List po.Entry) → AllByRecursion Lawful entries → (r : Outline) → Comes o entries r
    → (m : Entry) → kept_entry r ≡ Some m → Was o entries m
was o [] lawful r comes m is = absurd (omega (arith, comes.within))
was o (x ∷ es) lawful r comes m is = of (is_kept o e) refl
  where
    e : po.Entry
    e = get_or (x ∷ es) comes.number x

    fine : Lawful e
    fine = All-get_or Lawful (x ∷ es) comes.number x comes.within (All-from_recursion Lawful (x ∷ es) lawful)

    row_is : r ≡ outline_of o comes.number e
    row_is = comes.is x

    of : (b : Bool) → is_kept o e ≡ b → Was o (x ∷ es) m
    of true yes_kept = record {
      entry = e;
      has = Contains-get_or (x ∷ es) comes.number x comes.within;
      is_kept = yes_kept;
      is = some_is m (message_of e) (sym is ∙ ap kept_entry row_is ∙ kept_is o comes.number e fine yes_kept);
      lawful = fine;
    }
    of false not_kept = absurd (cc (sym is ∙ ap kept_entry row_is ∙ left_out o comes.number e not_kept))

each_listed : (o : Options) (m : List Entry) (es : List po.Entry)
    → ((i : ℕ) (d : po.Entry) → i < length es → is_kept o (get_or es i d) ≡ true
    → Contains m (message_of (get_or es i d))) → AllByRecursion (Contains m) (map message_of (kept_entries o es))
each_listed o m [] h = tt
each_listed o m (e ∷ es) h = of (each_listed o m es (λ i d lt is. h (suc i) d (omega arith) is)) (is_kept o e) refl
  where
    of : AllByRecursion (Contains m) (map message_of (kept_entries o es)) → (b : Bool) → is_kept o e ≡ b
        → AllByRecursion (Contains m) (map message_of (cond (is_kept o e) (e ∷ kept_entries o es) (kept_entries o es)))
    of rest true is = rw is (h 0 e (omega arith) is, rest)
    of rest false is = rw is rest

abbrev pub map_of : List Outline → List Entry
map_of rs = filter_map kept_entry rs

pub is_map : (o : Options) (entries : List po.Entry) (rs : List Outline) → AreOrdered o entries rs
    → AllByRecursion Lawful entries → ((j : ℕ) → ¬ IsRepeat rs j) → IsMapOf (kept_entries o entries) (map_of rs)
is_map o entries rs ordered lawful none = record {
  rises = kept_all_rise rs (rows_rise o entries rs ordered none);
  listed = All-from_recursion (Contains (map_of rs)) (map message_of (kept_entries o entries))
      (each_listed o (map_of rs) entries (λ i d lt is.
      let e = get_or entries i d in
      let p = stands o entries rs ordered i d lt in
      let has : Contains rs (outline_of o i e) = (p.index, p.within, p.is (outline_of o i e)) in
      has_filter_map kept_entry rs (outline_of o i e) (message_of e) has
      (kept_is o i e (All-get_or Lawful entries i d lt (All-from_recursion Lawful entries lawful)) is)));
  nothing_else = All-from_recursion (Contains (map message_of (kept_entries o entries))) (map_of rs)
      (each_given (Contains (map message_of (kept_entries o entries))) rs (λ r has m is.
      let w = was o entries lawful r (comes o entries rs ordered r has) m is in
      subst (λ (x : Entry). Contains (map message_of (kept_entries o entries)) x) (sym w.is)
      (has_map message_of (kept_entries o entries) w.entry (has_filter (is_kept o) entries w.entry w.has w.is_kept))));
}

pub each_lawful : (o : Options) (entries : List po.Entry) (rs : List Outline) → AreOrdered o entries rs
    → AllByRecursion Lawful entries → AllByRecursion IsLawfulEntry (map_of rs)
each_lawful o entries rs ordered lawful = each_given IsLawfulEntry rs (λ r has m is.
    let w = was o entries lawful r (comes o entries rs ordered r has) m is in
    subst IsLawfulEntry (sym w.is) w.lawful)
