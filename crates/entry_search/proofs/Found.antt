-- The entry of a key, found by a slot.
use Rattle.entry_search.proofs.Kit.{◌≡◌, ℕ, length, ◌+◌, ◌<◌, true, false, List, ◌∷◌, ◌++◌, ◌-◌, Some, None, slice_get}
use Rattle.entry_search.proofs.Kit.{refl, sym, ap, ◌∙◌, subst, arith, inl, inr, [], Contains, IfSome, nat_cmp, Less}
use Rattle.entry_search.proofs.Kit.{Equal, slice_cmp, bytes_eq, false≢true, bytes_eq-Decides, Entry, key, key_bytes}
use Rattle.entry_search.proofs.Kit.{hash_alone, hash_within, HasNoSlot, IndexValue, IsIndex, Slot}
use Rattle.std.specs.Prelude.{Option}
use Rattle.std.specs.Ordering.{is_eq}
use Rattle.std.specs.declared.cmp.Ordering.TheVariants.{Greater}
use Rattle.std.specs.FinMap.{slice_cmp-IsAntisymmetric, nat_cmp-IsAntisymmetric}
use Rattle.mo_image.specs.Entry.{IsKeyText, IsLawfulEntry, LacksByte}
use Rattle.mo_image.specs.Map.{IsLawful, entry_at}
use Rattle.entry_search.specs.Search.{AtMostDigits}
use Rattle.entry_search.specs.Index.{asked_hash, FindsBy, HasSlotOf}
use Rattle.mo_image.specs.MoFile.{spelling}
use Rattle.mo_image.specs.Extents.{AreExtentsOf}
use Rattle.entry_search.proofs.Searching.{apart, few_steps, find_none, find_some, greater_ne, less_ne, some_is}
use Rattle.mo_image.proofs.Lists.{at_index}

pub differs_unless : (k asked : List ℕ) → (bytes_eq k asked ≡ true → ⊥) → bytes_eq k asked ≡ false
differs_unless k asked never = elim (bytes_eq k asked) as (λ r. bytes_eq k asked ≡ r → r ≡ false) [
  | true ↦ λ e. absurd (never e)
  | false ↦ λ e. refl
] refl

-- an entry with this key has a slot of the hash by which the key is looked up
slot_of_key : (m : List Entry) (index : IndexValue) (asked : List ℕ) (h : ℕ) (j : ℕ) (d : Entry) → IsIndex m index
    → FindsBy asked h → slice_get m j ≡ Some d → bytes_eq (key d) asked ≡ true → HasSlotOf m index.slots j h
slot_of_key m index asked h j d is finds here same =
    is.names.each j d here h (finds d (at_index IsLawfulEntry m j d is.lawful.each here)
    ((bytes_eq-Decides (key d) asked).0 same))

pub absent_without_slot : (m : List Entry) (value : IndexValue) (asked : List ℕ) (h : ℕ) → IsIndex m value
    → FindsBy asked h → HasNoSlot value.slots h → entry_at m asked ≡ None
absent_without_slot m value asked h index finds none = find_none m asked (λ j d here.
    differs_unless (key d) asked (λ same.
    let slot = slot_of_key m value asked h j d index finds here same in
    none slot.0 slot.1 slot.3))

abbrev pub LeadsTo : List Entry → Slot → Entry → Type 0
LeadsTo m slot e = (i : ℕ) → AreExtentsOf (spelling m) (length m) i slot.extents → slice_get m i ≡ Some e

-- the only slot of this hash belongs to another key
pub absent_by_slot : (m : List Entry) (value : IndexValue) (asked : List ℕ) (h : ℕ) (slot : Slot) (e : Entry)
    → IsIndex m value → FindsBy asked h → HasNoSlot value.shared h → Contains value.slots slot → slot.hash ≡ h
    → LeadsTo m slot e → bytes_eq (key e) asked ≡ false → entry_at m asked ≡ None
absent_by_slot m value asked h slot e index finds alone has hashed leads other = find_none m asked
    (λ j d there. differs_unless (key d) asked (λ same.
    let mine = slot_of_key m value asked h j d index finds there same in
    let one : mine.0 ≡ slot = index.one mine.0 slot mine.1 has (mine.3 ∙ sym hashed)
    (λ other among same_hash. alone other among (same_hash ∙ mine.3)) in
    let here : slice_get m j ≡ Some e = leads j (subst (λ (r : Slot). AreExtentsOf (spelling m) (length m) j r.extents)
    one mine.2) in
    let is : e ≡ d = some_is e d (sym here ∙ there) in
    false≢true (sym (subst (λ (x : Entry). bytes_eq (key x) asked ≡ false) is other) ∙ same)))

-- the entry of a slot has the key
pub found_by_slot : (m : List Entry) (i : ℕ) (e : Entry) (asked : List ℕ) → IsLawful m → slice_get m i ≡ Some e
    → bytes_eq (key e) asked ≡ true → entry_at m asked ≡ Some e
found_by_slot m i e asked lawful here same = find_some m i e asked lawful.rises here
    ((bytes_eq-Decides (key e) asked).0 same)

-- keys are equal if they compare as equal
pub tied_same : (x y : List ℕ) → is_eq (slice_cmp nat_cmp x y) ≡ bytes_eq x y
tied_same x y = elim (slice_cmp nat_cmp x y) as (λ o. slice_cmp nat_cmp x y ≡ o → is_eq o ≡ bytes_eq x y) [
  | Less ↦ λ e. sym (apart x y Less e less_ne)
  | Equal ↦ λ e. sym ((bytes_eq-Decides x y).1 (slice_cmp-IsAntisymmetric nat_cmp-IsAntisymmetric x y e))
  | Greater ↦ λ e. sym (apart x y Greater e greater_ne)
] refl

pub one_digit : (n old new : ℕ) → new ≡ old + 1 → 0 < n → AtMostDigits n old new
one_digit n old new step some =
    let e : new - old ≡ 1 = omega (arith, step) in
    few_steps n old new (omega (arith, step)) (rw e (omega (arith, some)))

-- ---- the hashes by which a key is looked up

first_of : (x y : ℕ) (xs ys : List ℕ) → x ∷ xs ≡ y ∷ ys → x ≡ y
first_of x y xs ys same = cc

rest_of : (x y : ℕ) (xs ys : List ℕ) → x ∷ xs ≡ y ∷ ys → xs ≡ ys
rest_of x y xs ys same = cc

one_longer : (x y : ℕ) (xs ys : List ℕ) → x ≡ y → xs ≡ ys → x ∷ xs ≡ y ∷ ys
one_longer x y xs ys e f = cc

-- a key alone has the hash of its bytes
pub finds_alone : (k : List ℕ) → FindsBy k (hash_alone k)
finds_alone k e lawful same = inl (ap hash_alone (sym same))

holds_separator : (context id : List ℕ) → LacksByte 4 (context ++ (4 ∷ id)) → ⊥
holds_separator [] id lacks = lacks.0 refl
holds_separator (x ∷ context) id lacks = holds_separator context id lacks.1

-- a key can be split in only one way, if the parts hold no separator
same_parts : (c d a b : List ℕ) → LacksByte 4 c → LacksByte 4 a → c ++ (4 ∷ a) ≡ d ++ (4 ∷ b) → (c ≡ d) × (a ≡ b)
same_parts [] [] a b lc la same = (refl, cc)
same_parts [] (y ∷ d) a b lc la same = absurd (holds_separator d b
    (subst (LacksByte 4) (rest_of 4 y a (d ++ (4 ∷ b)) same) la))
same_parts (x ∷ c) [] a b lc la same = absurd (lc.0 (first_of x 4 (c ++ (4 ∷ a)) b same))
same_parts (x ∷ c) (y ∷ d) a b lc la same =
    let rest = same_parts c d a b lc.1 la (rest_of x y (c ++ (4 ∷ a)) (d ++ (4 ∷ b)) same) in
    (one_longer x y c d (first_of x y (c ++ (4 ∷ a)) (d ++ (4 ∷ b)) same) rest.0, rest.1)

hash_is_within : (own : Option (List ℕ)) (own_id context id : List ℕ) → IfSome own IsKeyText → IsKeyText own_id
    → key_bytes own own_id ≡ key_bytes (Some context) id → hash_within context id ≡ asked_hash own own_id
hash_is_within None own_id context id c i same = absurd (holds_separator context id
    (subst (LacksByte 4) same i.no_separator))
hash_is_within (Some own) own_id context id c i same =
    let parts = same_parts own context own_id id c.no_separator i.no_separator same in
    rw (parts.0, parts.1) refl

-- a key in a context has the hash of both
pub finds_within : (context id : List ℕ) → FindsBy (key_bytes (Some context) id) (hash_within context id)
finds_within context id e lawful same = inr (hash_is_within e.context e.id context id lawful.context lawful.id same)
