-- The slots of an index: listed, sorted and spread out.
use Rattle.entry_search.proofs.Kit.{◌≡◌, ℕ, ◌+◌, ◌<◌, ◌≤◌, List, [], ◌∷◌, ◌++◌, length, ◌-◌, get_or, Some, slice_get}
use Rattle.entry_search.proofs.Kit.{sym, ap, ◌∙◌, subst, arith, inl, inr, Contains, get_or_default, cases_lt, Entry}
use Rattle.entry_search.proofs.Kit.{key, key_bytes, Slot, hash_alone, hash_within, Climbs, HasNoSlot, IsIndex}
use Rattle.std.proofs.Common.{length-append}
use Rattle.std.specs.Prelude.{Option, None, ◌⊎◌}
use Rattle.std.specs.List.Sorted.{IsPermutation}
use Rattle.std.proofs.Math.Seq.{get_or-append_seam}
use Rattle.std.proofs.lemmas.List.{get_or_append_left}
use Rattle.std.proofs.lemmas.Option.{slice_get_within}
use Rattle.std.proofs.lemmas.List.Sorted.{IsPermutation-sym, Contains-permutation}
use Rattle.mo_image.specs.Map.{IsLawful}
use Rattle.mo_image.specs.MoFile.{spelling}
use Rattle.mo_image.specs.Extents.{AreExtents, AreExtentsOf}
use Rattle.entry_search.specs.Index.{asked_hash, AddsSlotsOf, HasHash, HasSlotOf, NamesEntries, OneForEachHash}
use Rattle.entry_search.proofs.Searching.{some_is}

-- ---- slots for each entry

-- slots for the first n entries
pub record Listed (m : List Entry) (slots : List Slot) (n : ℕ) : Type 0 where
  pub each : (i : ℕ) (e : Entry) → i < n → slice_get m i ≡ Some e → (h : ℕ) → HasHash e h → HasSlotOf m slots i h
  pub only : (slot : Slot) → Contains slots slot → AreExtents (spelling m) (length m) slot.extents

pub listed_none : (m : List Entry) → Listed m [] 0
listed_none m = record {
  each = λ i e lt here h has. absurd (omega (arith, lt));
  only = λ slot among. absurd (omega (arith, among.1));
}

pub listed_more : (m : List Entry) (slots more : List Slot) (n : ℕ) → Listed m slots n → AddsSlotsOf m n slots more
    → Listed m more (n + 1)
listed_more m slots more n l adds = record {
  each = λ i e lt here h has. elim (cases_lt i n) [
    | inl before ↦
        let slot = l.each i e before here h has in
        (slot.0, adds.kept slot.0 slot.1, slot.2, slot.3)
    | inr from ↦
        let at : n ≡ i = omega (arith, from, lt) in
        subst (λ (k : ℕ). HasSlotOf m more k h) at
        (adds.each e (subst (λ (k : ℕ). slice_get m k ≡ Some e) (sym at) here) h has)
  ];
  only = λ slot among. elim (adds.only slot among) [
    | inl old ↦ l.only slot old
    | inr new ↦ (n, new)
  ];
}

pub named : (m : List Entry) (slots : List Slot) → Listed m slots (length m) → NamesEntries m slots
named m slots l = record {
  each = λ i e here h has. l.each i e (slice_get_within m i e here) here h has;
  only = l.only;
}

-- ---- a slot appended to others

pub among_more : (slots more : List Slot) (slot : Slot) → more ≡ slots ++ (slot ∷ []) → (x : Slot)
    → Contains slots x → Contains more x
among_more slots more slot is x h = (
  h.0,
  omega (arith, h.1, ap length is, length-append slots (slot ∷ [])),
  ap (λ (xs : List Slot). get_or xs h.0 x) is ∙ get_or_append_left slots (slot ∷ []) x h.0 h.1 ∙ h.2,
)

at_end_of : (slots more : List Slot) (slot d : Slot) → more ≡ slots ++ (slot ∷ [])
    → get_or more (length slots) d ≡ slot
at_end_of slots more slot d is = ap (λ (xs : List Slot). get_or xs (length slots) d) is
    ∙ get_or-append_seam slots slot [] d

pub among_pushed : (slots more : List Slot) (slot : Slot) → more ≡ slots ++ (slot ∷ []) → Contains more slot
among_pushed slots more slot is = (
  length slots,
  omega (arith, ap length is, length-append slots (slot ∷ [])),
  at_end_of slots more slot slot is,
)

pub pushed_or_before : (slots more : List Slot) (slot : Slot) → more ≡ slots ++ (slot ∷ []) → (x : Slot)
    → Contains more x → Contains slots x ⊎ (slot ≡ x)
pushed_or_before slots more slot is x h = elim (cases_lt h.0 (length slots)) [
  | inl lt ↦ inl (
    h.0,
    lt,
    sym (ap (λ (xs : List Slot). get_or xs h.0 x) is ∙ get_or_append_left slots (slot ∷ []) x h.0 lt) ∙ h.2,
  )
  | inr from ↦
      let last : length slots ≡ h.0 = omega (arith, from, h.1, ap length is, length-append slots (slot ∷ [])) in
      inr (sym (at_end_of slots more slot x is) ∙ ap (λ (k : ℕ). get_or more k x) last ∙ h.2)
]

-- the extents of the i-th entry, by a slot that is appended to others
of_pushed : (m : List Entry) (i : ℕ) (slots more : List Slot) (slot : Slot) → more ≡ slots ++ (slot ∷ [])
    → AreExtentsOf (spelling m) (length m) i slot.extents → (x : Slot) → Contains more x
    → Contains slots x ⊎ AreExtentsOf (spelling m) (length m) i x.extents
of_pushed m i slots more slot is at x among = elim (pushed_or_before slots more slot is x among) [
  | inl old ↦ inl old
  | inr new ↦ inr (subst (λ (r : Slot). AreExtentsOf (spelling m) (length m) i r.extents) new at)
]

entry_is : (m : List Entry) (i : ℕ) (e d : Entry) → slice_get m i ≡ Some e → slice_get m i ≡ Some d → e ≡ d
entry_is m i e d here there = some_is e d (sym here ∙ there)

-- an entry without a context has one hash
one_hash : (e : Entry) (h : ℕ) → e.context ≡ None → HasHash e h → hash_alone (key e) ≡ h
one_hash e h none (inl is) = sym is
one_hash e h none (inr is) = ap (λ (c : Option (List ℕ)). hash_alone (key_bytes c e.id)) none
    ∙ sym (is ∙ ap (λ (c : Option (List ℕ)). asked_hash c e.id) none)

pub adds_one : (m : List Entry) (i : ℕ) (e : Entry) (slots more : List Slot) (slot : Slot) → slice_get m i ≡ Some e
    → AreExtentsOf (spelling m) (length m) i slot.extents → slot.hash ≡ hash_alone (key e) → e.context ≡ None
    → more ≡ slots ++ (slot ∷ []) → AddsSlotsOf m i slots more
adds_one m i e slots more slot here at hashed none is = record {
  kept = among_more slots more slot is;
  only = of_pushed m i slots more slot is at;
  each = λ d there h has.
      let same = entry_is m i d e there here in
      let one = one_hash e h none (subst (λ (x : Entry). HasHash x h) same has) in
      (slot, among_pushed slots more slot is, at, hashed ∙ one);
}

-- an entry with a context has two hashes
pub adds_two : (m : List Entry) (i : ℕ) (e : Entry) (context : List ℕ) (slots more most : List Slot) (a b : Slot)
    → slice_get m i ≡ Some e → AreExtentsOf (spelling m) (length m) i a.extents
    → AreExtentsOf (spelling m) (length m) i b.extents → a.hash ≡ hash_alone (key e)
    → b.hash ≡ hash_within context e.id → e.context ≡ Some context
    → more ≡ slots ++ (a ∷ []) → most ≡ more ++ (b ∷ []) → AddsSlotsOf m i slots most
adds_two m i e context slots more most a b here at_a at_b hash_a hash_b some is_a is_b = record {
  kept = λ x old. among_more more most b is_b x (among_more slots more a is_a x old);
  only = λ x among. elim (of_pushed m i more most b is_b at_b x among) [
    | inl old ↦ of_pushed m i slots more a is_a at_a x old
    | inr new ↦ inr new
  ];
  each = λ d there h has.
      let same = entry_is m i d e there here in
      elim (subst (λ (x : Entry). HasHash x h) same has) [
        | inl alone ↦ (a, among_more more most b is_b a (among_pushed slots more a is_a), at_a, hash_a ∙ sym alone)
        | inr asked ↦ (
          b,
          among_pushed more most b is_b,
          at_b,
          hash_b ∙ sym (asked ∙ ap (λ (c : Option (List ℕ)). asked_hash c e.id) some),
        )
      ];
}

pub named_in_order : (m : List Entry) (slots sorted : List Slot) → IsPermutation slots sorted → NamesEntries m slots
    → NamesEntries m sorted
named_in_order m slots sorted moves n = record {
  each = λ i e here h has. let there = n.each i e here h has in (
    there.0,
    Contains-permutation slots sorted there.0 moves there.1,
    there.2,
    there.3,
  );
  only = λ x h. n.only x (Contains-permutation sorted slots x (IsPermutation-sym slots sorted moves) h);
}

-- ---- rising hashes

-- each of the first n slots has a greater hash than those before it, or a shared hash
abbrev pub HashesRise : List Slot → List Slot → ℕ → Type 0
HashesRise slots shared n = (p q : ℕ) (d : Slot) → p < q → q < n → HasNoSlot shared (get_or slots q d).hash
    → (get_or slots p d).hash < (get_or slots q d).hash

pub record Shared (slots : List Slot) (n : ℕ) (shared : List Slot) : Type 0 where
  pub climbs : Climbs shared
  pub within : (p : ℕ) (d : Slot) → p < length shared → (get_or shared p d).hash ≤ (get_or slots (n - 1) d).hash
  pub rise : HashesRise slots shared n

one_higher : (slots : List Slot) (n : ℕ) (d : Slot) → Climbs slots → 1 ≤ n → n < length slots
    → (get_or slots (n - 1) d).hash ≤ (get_or slots n d).hash
one_higher slots n d climbs some lt = climbs (n - 1) n d (omega arith) lt

at_last : (n : ℕ) → n + 1 - 1 ≡ n
at_last n = omega arith

-- the next slot has another hash
pub shared_same : (slots shared : List Slot) (n : ℕ) (first : Slot) → Climbs slots → Shared slots n shared → 1 ≤ n
    → n < length slots → ((get_or slots (n - 1) first).hash ≡ (get_or slots n first).hash → ⊥)
    → Shared slots (n + 1) shared
shared_same slots shared n first climbs s some lt other = record {
  climbs = s.climbs;
  within = λ p d p_lt. rw (at_last n) (omega (arith, s.within p d p_lt, one_higher slots n d climbs some lt));
  rise = λ p q d pq q_lt none. elim (cases_lt q n) [
    | inl before ↦ s.rise p q d pq before none
    | inr from ↦
        let same : q ≡ n = omega (arith, from, q_lt) in
        let a : (get_or slots p d).hash ≤ (get_or slots (n - 1) d).hash = climbs p (n - 1) d (omega (arith, pq, same))
        (omega (arith, lt)) in
        let before_last = ap (λ (r : Slot). r.hash) (get_or_default slots (n - 1) first d (omega (arith, lt))) in
        let last = ap (λ (r : Slot). r.hash) (get_or_default slots n first d lt) in
        rw same (omega (arith, a, one_higher slots n d climbs some lt, before_last, last, other))
  ];
}

-- the next slot has the hash of the one before it
pub shared_more : (slots shared more : List Slot) (n : ℕ) (slot : Slot) → Climbs slots → Shared slots n shared → 1 ≤ n
    → n < length slots → more ≡ shared ++ (slot ∷ []) → ((d : Slot) → slot ≡ get_or slots n d)
    → Shared slots (n + 1) more
shared_more slots shared more n slot climbs s some lt is at =
    let long : length more ≡ length shared + 1 = omega (arith, ap length is, length-append shared (slot ∷ [])) in
    let old : (p : ℕ) (d : Slot) → p < length shared → get_or more p d ≡ get_or shared p d = λ p d p_lt.
    ap (λ (xs : List Slot). get_or xs p d) is ∙ get_or_append_left shared (slot ∷ []) d p p_lt in
    let new : (p : ℕ) (d : Slot) → p ≡ length shared → get_or more p d ≡ get_or slots n d = λ p d p_is.
    ap (λ (k : ℕ). get_or more k d) p_is ∙ at_end_of shared more slot d is ∙ at d in
    let within : (p : ℕ) (d : Slot) → p < length more → (get_or more p d).hash ≤ (get_or slots n d).hash = λ p d p_lt.
    elim (cases_lt p (length shared)) [
      | inl before ↦ rw (old p d before) (omega (arith, s.within p d before, one_higher slots n d climbs some lt))
      | inr from ↦ rw (new p d (omega (arith, from, p_lt, long))) (omega arith)
    ] in
    record {
      climbs = λ i j d le j_lt. elim (cases_lt j (length shared)) [
        | inl before ↦ rw (old i d (omega (arith, le, before)), old j d before) (s.climbs i j d le before)
        | inr from ↦ rw (new j d (omega (arith, from, j_lt, long))) (within i d (omega (arith, le, j_lt)))
      ];
      within = λ p d p_lt. rw (at_last n) (within p d p_lt);
      rise = λ p q d pq q_lt none. elim (cases_lt q n) [
        | inl before ↦ s.rise p q d pq before (λ x h e. none x (among_more shared more slot is x h) e)
        | inr from ↦
            let same : q ≡ n = omega (arith, from, q_lt) in
            let last : get_or more (length shared) slot ≡ slot = at_end_of shared more slot slot is in
            absurd (none slot (length shared, omega (arith, long), last)
            (ap (λ (r : Slot). r.hash) (at d) ∙ ap (λ (k : ℕ). (get_or slots k d).hash) (sym same)))
      ];
    }

below_apart : (slots shared : List Slot) (n : ℕ) → length slots ≤ n → HashesRise slots shared n
    → (x y : Slot) (h : Contains slots x) (k : Contains slots y) → h.0 < k.0 → HasNoSlot shared y.hash → x.hash < y.hash
below_apart slots shared n all rise x y h k lt none =
    let first : get_or slots h.0 x ≡ x = h.2 in
    let second : get_or slots k.0 x ≡ y = get_or_default slots k.0 x y k.1 ∙ k.2 in
    let up = rise h.0 k.0 x lt (omega (arith, k.1, all))
    (subst (λ (r : Slot). HasNoSlot shared r.hash) (sym second) none) in
    subst (λ (r : Slot). x.hash < r.hash) second (subst (λ (r : Slot). r.hash < (get_or slots k.0 x).hash) first up)

pub own_hashes : (slots shared : List Slot) (n : ℕ) → length slots ≤ n → Shared slots n shared
    → OneForEachHash slots shared
own_hashes slots shared n all s x y h k same none = elim (cases_lt h.0 k.0) [
  | inl lt ↦ absurd (omega
      (arith, same, below_apart slots shared n all s.rise x y h k lt (λ z among e. none z among (e ∙ sym same))))
  | inr ge ↦ elim (cases_lt k.0 h.0) [
    | inl gt ↦ absurd (omega (arith, same, below_apart slots shared n all s.rise y x k h gt none))
    | inr le ↦
        let at : h.0 ≡ k.0 = omega (arith, ge, le) in
        sym h.2 ∙ ap (λ (i : ℕ). get_or slots i x) at ∙ get_or_default slots k.0 x y k.1 ∙ k.2
  ]
]

-- ---- slots spread out

pub record Spread (slots : List Slot) (n : ℕ) (placed : List Slot) : Type 0 where
  pub climbs : Climbs placed
  pub each : (j : ℕ) (d : Slot) → j < n → (p : ℕ) × (p < length placed) × (get_or placed p d ≡ get_or slots j d)
  pub only : (p : ℕ) (d : Slot) → p < length placed → (j : ℕ) × (j < n) × (get_or placed p d ≡ get_or slots j d)

pub spread_more : (slots placed more : List Slot) (k n : ℕ) (slot : Slot) → Climbs slots → k < length slots
    → ((d : Slot) → slot ≡ get_or slots k d)
    → Spread slots k placed → length placed < n → length more ≡ n
    → ((j : ℕ) (d : Slot) → j < n → j < length placed → get_or more j d ≡ get_or placed j d)
    → ((j : ℕ) (d : Slot) → length placed ≤ j → j < n → get_or more j d ≡ slot)
    → Spread slots (k + 1) more
spread_more slots placed more k n slot climb lt is s longer long kept filled = record {
  climbs = λ i j d le j_lt. elim (cases_lt j (length placed)) [
    | inl old ↦ rw (
      kept i d (omega (arith, le, old, longer)) (omega (arith, le, old)),
      kept j d
          (omega (arith, old, longer)) old,
    ) (s.climbs i j d le old)
    | inr new ↦ elim (cases_lt i (length placed)) [
      | inl old ↦
          let there = s.only i d old in
          rw (kept i d (omega (arith, old, longer)) old, there.2, filled j d new (omega (arith, j_lt, long)), is d)
          (climb there.0 k d (omega (arith, there.1)) lt)
      | inr newer ↦ rw (filled i d newer (omega (arith, le, j_lt, long)), filled j d new (omega (arith, j_lt, long)))
          (omega arith)
    ]
  ];
  each = λ j d j_lt. elim (cases_lt j k) [
    | inl before ↦
        let there = s.each j d before in (
          there.0,
          omega (arith, there.1, longer, long),
          kept there.0 d (omega (arith, there.1, longer)) there.1
              ∙ there.2,
        )
    | inr from ↦
        let same : j ≡ k = omega (arith, from, j_lt) in
        (length placed, omega (arith, longer, long), rw same (filled (length placed) d (omega arith) longer ∙ is d))
  ];
  only = λ p d p_lt. elim (cases_lt p (length placed)) [
    | inl old ↦
        let there = s.only p d old in
        (there.0, omega (arith, there.1), kept p d (omega (arith, old, longer)) old ∙ there.2)
    | inr new ↦ (k, omega arith, filled p d new (omega (arith, p_lt, long)) ∙ is d)
  ];
}

pub spread_same : (slots placed : List Slot) (n : ℕ) → Spread slots n placed → n ≡ length slots
    → (x : Slot) → (Contains slots x → Contains placed x) × (Contains placed x → Contains slots x)
spread_same slots placed n s all x = (
  (λ h. let there = s.each h.0 x (omega (arith, h.1, all)) in (there.0, there.1, there.2 ∙ h.2)),
  (λ h. let there = s.only h.0 x h.1 in (there.0, omega (arith, there.1, all), sym there.2 ∙ h.2)),
)

pub indexed : (m : List Entry) (slots placed shared : List Slot) → IsLawful m → NamesEntries m slots
    → OneForEachHash slots shared
    → ((x : Slot) → (Contains slots x → Contains placed x) × (Contains placed x → Contains slots x))
    → IsIndex m (record { slots = placed; shared = shared })
indexed m slots placed shared lawful n one same = record {
  lawful = lawful;
  names = record {
    each = λ i e here h has. let there = n.each i e here h has in (there.0, (same there.0).0 there.1, there.2, there.3);
    only = λ x h. n.only x ((same x).1 h);
  };
  one = λ x y h k. one x y ((same x).1 h) ((same y).1 k);
}
