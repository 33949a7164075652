-- A text has a meaning or a refusal: assuming neither leads to ⊥.
use Rattle.catalogue.proofs.Kit.{◌≡◌, ℕ, zero, suc, ◌+◌, ◌<◌, Bool, true, false, cond, List, [], ◌∷◌, ◌++◌, map, length}
use Rattle.catalogue.proofs.Kit.{Ordering, refl, sym, ap, ◌∙◌, subst, arith, inl, inr, append_assoc, ◌⊎◌, Contains}
use Rattle.catalogue.proofs.Kit.{filter, nat_cmp, Less, Equal, Greater, IsTotalOrder, slice_cmp}
use Rattle.catalogue.proofs.Kit.{slice_cmp-IsAntisymmetric, nat_cmp-IsAntisymmetric, nat_list_cmp_total, append-nil}
use Rattle.catalogue.proofs.Kit.{map-append, get_or_default, All-contains, Entry, key, Rises, message_of, key_of}
use Rattle.catalogue.proofs.Kit.{is_kept, kept_entries, header_line_of, IsMapOf, Means, Refuses, HasDistinctKeys}
use Rattle.catalogue.proofs.Kit.{IsDuplicateAt, Fails, IsFirst, kind_of, Options, Compiled, LoadKind}
use Rattle.std.specs.Prelude.{◌≢◌, All}
use Rattle.std.specs.Ordering.{ordering_reverse}
use Rattle.std.proofs.lemmas.List.Elements.{All-nil, All-cons, filter_passes, filter-append}
use Rattle.std.proofs.lemmas.List.Elements.{Contains-append_left, Contains-append_right, Contains-push_cases}
use Rattle.std.proofs.lemmas.List.Quantifiers.{all_pairs_push}
use Rattle.po_text.specs.Entries as po
use Rattle.po_text.proofs.SomeOutcome.{some_outcome}
use Rattle.catalogue.specs.Meaning.{stats_of, missing_of}
use Rattle.po_checks.specs.Fails.{rank}
use Rattle.po_checks.specs.declared.fault.LoadKind.TheVariants.{Duplicate}
use Rattle.catalogue_drafts.proofs.Collecting.{text_refuses}
use Rattle.catalogue.proofs.Compiling.{as_refusal}
use Rattle.catalogue.proofs.OneMeaning.{rises_behind, below_members}
use Rattle.catalogue_drafts.proofs.Members.{has_head, has_tail, has_cases, has_map, from_map, from_filter}

all_from : {X : Type 0} (P : X → Type 0) (xs : List X) → ((x : X) → Contains xs x → P x) → All P xs
all_from P [] h = All-nil P
all_from P (x ∷ xs) h = All-cons P x xs (h x (has_head x x xs refl))
    (all_from P xs (λ y has. h y (has_tail y x xs has)))

-- ---- one more entry in a map

abbrev total : IsTotalOrder (slice_cmp nat_cmp)
total = nat_list_cmp_total

-- the entries of m, and x
record Inserts (x : Entry) (m : List Entry) : Type 0 where
  made : List Entry
  rises : Rises (map key made)
  has_new : Contains made x
  has_old : (y : Entry) → Contains m y → Contains made y
  only : (y : Entry) → Contains made y → (x ≡ y) ⊎ Contains m y

-- below each member of a list that rises
rises_in_front : (d : Entry) (m : List Entry) → Rises (map key m)
    → ((y : Entry) → Contains m y → slice_cmp nat_cmp (key d) (key y) ≡ Less) → Rises (key d ∷ map key m)
rises_in_front d [] rises below = tt
rises_in_front d (y ∷ m) rises below = (below y (has_head y y m refl), rises)

inserts : (x : Entry) (m : List Entry) → Rises (map key m) → ((y : Entry) → Contains m y → key y ≡ key x → ⊥)
    → Inserts x m
inserts x [] rises new = record {
  made = x ∷ [];
  rises = tt;
  has_new = has_head x x [] refl;
  has_old = λ y has. has_tail
      y x [] has;
  only = λ y has. has_cases y x [] has;
}
inserts x (d ∷ m) rises new =
    by (inserts x m (rises_behind (key d) (map key m) rises) (λ y has. new y (has_tail y d m has)))
    (slice_cmp nat_cmp (key x) (key d)) refl
  where
    by : Inserts x m → (o : Ordering) → slice_cmp nat_cmp (key x) (key d) ≡ o → Inserts x (d ∷ m)
    by rest Less e = record {
      made = x ∷ d ∷ m;
      rises = (e, rises);
      has_new = has_head x x (d ∷ m) refl;
      has_old = λ y
          has. has_tail y x (d ∷ m) has;
      only = λ y has. has_cases y x (d ∷ m) has;
    }
    by rest Equal e = absurd (new d (has_head d d m refl) (sym
        (slice_cmp-IsAntisymmetric nat_cmp-IsAntisymmetric (key x) (key d) e)))
    by rest Greater e =
        let less : slice_cmp nat_cmp (key d) (key x) ≡ Less = total.antisymm (key d) (key x) ∙ ap ordering_reverse e in
        record {
          made = d ∷ rest.made;
          rises = rises_in_front d rest.made rest.rises (λ y has. elim (rest.only y has) [
            | inl same ↦ subst (λ (z : Entry). slice_cmp nat_cmp (key d) (key z) ≡ Less) same less
            | inr old ↦ below_members (key d) m y rises old
          ]);
          has_new = has_tail x d rest.made rest.has_new;
          has_old = λ y has. elim (has_cases y d m has) [
            | inl same ↦ has_head y d rest.made same
            | inr old ↦ has_tail y d rest.made (rest.has_old y old)
          ];
          only = λ y has. elim (has_cases y d rest.made has) [
            | inl same ↦ inr (has_head y d m same)
            | inr in_rest ↦ elim (rest.only y in_rest) [
              | inl new_one ↦ inl new_one
              | inr old ↦ inr (has_tail y d m old)
            ]
          ];
        }

-- ---- the map of entries without duplicates

-- the map of these messages
record MapOf (messages m : List Entry) : Type 0 where
  rises : Rises (map key m)
  has : (y : Entry) → Contains messages y → Contains m y
  only : (y : Entry) → Contains m y → Contains messages y

map_with : (x : Entry) (messages m : List Entry) → MapOf messages m → (i : Inserts x m)
    → MapOf (messages ++ x ∷ []) i.made
map_with x messages m is i = record {
  rises = i.rises;
  has = λ y has. elim (Contains-push_cases messages x y has) [
    | inl old ↦ i.has_old y (is.has y old)
    | inr same ↦ subst (λ (z : Entry). Contains i.made z) same i.has_new
  ];
  only = λ y has. elim (i.only y has) [
    | inl same ↦ Contains-append_right messages (x ∷ []) y (has_head y x [] same)
    | inr old ↦ Contains-append_left messages (x ∷ []) y (is.only y old)
  ];
}

abbrev messages_of : Options → List po.Entry → List Entry
messages_of o es = map message_of (kept_entries o es)

-- one more entry
messages_push : (o : Options) (es : List po.Entry) (e : po.Entry) (b : Bool) → is_kept o e ≡ b
    → messages_of o (es ++ e ∷ []) ≡ messages_of o es ++ cond b (message_of e ∷ []) []
messages_push o es e b is =
    let one : filter (is_kept o) (e ∷ []) ≡ cond b (e ∷ []) [] = rw is refl in
    ap (map message_of) (filter-append (is_kept o) es (e ∷ []) ∙ ap (λ (t : List po.Entry). kept_entries o es ++ t) one)
    ∙ map-append message_of (kept_entries o es) (cond b (e ∷ []) [])
    ∙ ap (λ (t : List Entry). messages_of o es ++ t) (image b)
  where
    image : (b : Bool) → map message_of (cond b (e ∷ []) []) ≡ cond b (message_of e ∷ []) []
    image true = refl
    image false = refl

distinct_push : (es : List po.Entry) (e : po.Entry) → HasDistinctKeys es → (Contains (map key_of es) (key_of e) → ⊥)
    → HasDistinctKeys (es ++ e ∷ [])
distinct_push es e distinct new =
    subst (Rattle.std.specs.List.AllPairs (λ k l. k ≢ l)) (sym (map-append key_of es (e ∷ [])))
    (all_pairs_push (λ k l. k ≢ l) (map key_of es) (key_of e) distinct
    (λ k d lt same. new (k, lt, get_or_default (map key_of es) k (key_of e) d lt ∙ same)))

-- the map of the entries up to here, and then one of all
maps_from : (o : Options) (entries before after : List po.Entry) (m : List Entry) → entries ≡ before ++ after
    → HasDistinctKeys before → MapOf (messages_of o before) m → ((line : ℕ) → IsDuplicateAt entries line → ⊥)
    → ((m : List Entry) → MapOf (messages_of o entries) m → ⊥) → ⊥
maps_from o entries before [] m split distinct is no_repeat no_map =
    no_map m (subst (λ (es : List po.Entry). MapOf (messages_of o es) m) (sym (split ∙ append-nil before)) is)
maps_from o entries before (e ∷ after) m split distinct is no_repeat no_map =
    next (λ n is_next. maps_from o entries (before ++ e ∷ []) after n (split ∙ sym (append_assoc before (e ∷ []) after))
    (distinct_push before e distinct new) is_next no_repeat no_map) (is_kept o e) refl
  where
    new : Contains (map key_of before) (key_of e) → ⊥
    new again = no_repeat e.line (record {
      before = before;
      e = e;
      after = after;
      split = split;
      distinct_before =
          distinct;
      again = again;
      line_is = refl;
    })

    new_key : (y : Entry) → Contains m y → key y ≡ key (message_of e) → ⊥
    new_key y has same =
        let (d, kept_one, is_y) = from_map message_of (kept_entries o before) y (is.only y has) in
        let there : Contains (map key_of before) (key_of d) = has_map key_of before d
        (from_filter (is_kept o) before d kept_one) in
        new (subst (λ (k : List ℕ). Contains (map key_of before) k) (ap key is_y ∙ same) there)

    next : ((n : List Entry) → MapOf (messages_of o (before ++ e ∷ [])) n → ⊥) → (b : Bool) → is_kept o e ≡ b → ⊥
    next go true keeps = let i = inserts (message_of e) m is.rises new_key in go i.made
        (subst (λ (ms : List Entry). MapOf ms i.made) (sym (messages_push o before e true keeps))
        (map_with (message_of e) (messages_of o before) m is i))
    next go false keeps = go m (subst (λ (ms : List Entry). MapOf ms m)
        (sym (messages_push o before e false keeps ∙ append-nil (messages_of o before))) is)

some_map : (o : Options) (entries : List po.Entry) → ((line : ℕ) → IsDuplicateAt entries line → ⊥)
    → ((m : List Entry) → IsMapOf (kept_entries o entries) m → ⊥) → ⊥
some_map o entries no_repeat no_map =
    maps_from o entries [] entries [] refl (λ i j d less within. absurd (omega (arith, within)))
    (record { rises = tt; has = λ y has. has; only = λ y has. has }) no_repeat
    (λ m is. no_map m (record {
      rises = is.rises;
      listed = all_from (Contains m) (messages_of o entries) is.has;
      nothing_else = all_from (Contains (messages_of o entries)) m is.only;
    }))

-- ---- the first refusal

-- if something fails, something is the first to fail
some_first : (n : ℕ) (Failing : LoadKind → ℕ → Type 0) → ((kind : LoadKind) (line : ℕ) → IsFirst Failing kind line → ⊥)
    → (kind : LoadKind) (line : ℕ) → rank kind < n → Failing kind line → ⊥
some_first zero Failing none kind line lt fails = absurd (omega arith)
some_first (suc n) Failing none kind line lt fails = none kind line
    (record { holds = fails; first = λ other at less also. some_first n Failing none other at (omega arith) also })

-- ---- a text

pub some_meaning : (text : List ℕ) (o : Options) → ((compiled : Compiled) → Means text o compiled → ⊥)
    → ((kind : LoadKind) × (line : ℕ) × Refuses text o kind line → ⊥) → ⊥
some_meaning text o no_meaning no_refusal =
    some_outcome text
    (λ entries gives.
    let passes : (kind : LoadKind) (line : ℕ) → Fails o entries kind line → ⊥ = λ kind line fails.
    some_first (rank kind + 1) (Fails o entries) (λ k l first. no_refusal
    (k, l, as_refusal text o entries k l gives first)) kind line (omega arith) fails in
    some_map o entries (passes Duplicate)
    (λ m is. no_meaning (record {
      catalogue = m;
      stats = stats_of entries;
      missing = missing_of o entries;
      header_line =
          header_line_of o entries;
    }) (record {
      entries = entries;
      gives = gives;
      passes = passes;
      map_is = is;
      stats_are = refl;
      header_line_is = refl;
      missing_is = refl;
    })))
    (λ (fault, line, refused). no_refusal (kind_of fault, line, text_refuses text o fault line refused))

-- ---- the entries of a map have forms

abbrev pub HasForm : Entry → Type 0
HasForm e = 0 < length e.forms

abbrev pub IsFormed : List Entry → Type 0
IsFormed m = (e : Entry) → Contains m e → HasForm e

-- an entry without a form is untranslated, and isn't kept
kept_form : (o : Options) (e : po.Entry) → is_kept o e ≡ true → 0 < length e.forms
kept_form o e keeps = go e.forms refl
  where
    go : (forms : List (List ℕ)) → e.forms ≡ forms → 0 < length e.forms
    go [] none = let no : is_kept o e ≡ false = rw none refl in absurd (cc (keeps, no))
    go (form ∷ forms) some = rw some (omega arith)

pub means_formed : (text : List ℕ) (o : Options) (c : Compiled) → Means text o c → IsFormed c.catalogue
means_formed text o c means e has =
    let there = All-contains (Contains (map message_of (kept_entries o means.entries))) c.catalogue e
    means.map_is.nothing_else
    has in
    let (d, kept_one, is) = from_map message_of (kept_entries o means.entries) e there in
    subst HasForm is (kept_form o d (All-contains (λ (x : po.Entry). is_kept o x ≡ true)
    (kept_entries o means.entries) d
    (filter_passes (is_kept o) means.entries) kept_one))
