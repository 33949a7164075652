-- Messages that list a lawful map: texts, keys in order, the header, and the size of the file.
use Rattle.catalogue_map.proofs.Kit.{◌≡◌, ℕ, zero, suc, ◌+◌, ◌<◌, Bool, true, false, cond, List, [], ◌∷◌, length, map}
use Rattle.catalogue_map.proofs.Kit.{get_or, Some, None, Ordering, refl, sym, ap, ◌∙◌, subst, arith, option_map, IfSome}
use Rattle.catalogue_map.proofs.Kit.{AllByRecursion, find, sum_by, join_with_byte, string_bytes, is_lt, Less}
use Rattle.catalogue_map.proofs.Kit.{bytes_eq, false≢true, flat_map-cons, sum_by-cons, Entry, key, translation}
use Rattle.catalogue_map.proofs.Kit.{Rises, HasAcceptedCharset, pool, message_entry, capped_number, length-with_nul}
use Rattle.std.proofs.Common.{◌↔◌, min, max, String, Global, add-one, length-append}
use Rattle.std.specs.Prelude.{IsTrue}
use Rattle.std.specs.Bool.{MatchBool}
use Rattle.std.specs.List.{AllWithin, HoldsAt, IsAllAdjacentAnswer}
use Rattle.mo_image.specs.Map.{first_form, header_text}
use Rattle.mo_image.specs.MoFile.{with_nul, spelling, entry_size}
use Rattle.catalogue_map.specs.Messages.{messages_of}
use Rattle.catalogue_map.specs.Accepted.{is_below, is_header}
use Rattle.catalogue_map.specs.declared.sorted.Message.{Message}
use Rattle.mo_image.proofs.MoLengths.{joined_with_nul}
use Rattle.mo_image.proofs.FileSizes.{file_size}

-- ---- tests of each message

each_within : {X Y : Type 0} (f : X → Y) (P : Y → Type 0) (xs : List X) → AllWithin (λ x. P (f x)) xs 0 (length xs)
    → AllByRecursion P (map f xs)
each_within f P [] all = tt
each_within f P (x ∷ xs) all = (
  all 0 x (omega arith) (omega arith),
  each_within f P xs
      (λ k d lo lt. all (suc k) d (omega arith) (omega arith)),
)

not_each : {X Y : Type 0} (f : X → Y) (P : Y → Type 0) (xs : List X) (k : ℕ) → k < length xs
    → HoldsAt (λ x. P (f x) → ⊥) xs k → AllByRecursion P (map f xs) → ⊥
not_each f P [] k lt none each = absurd (omega arith)
not_each f P (x ∷ xs) zero lt none each = none x each.0
not_each f P (x ∷ xs) (suc k) lt none each = not_each f P xs k (omega arith) none each.1

pub each_decided : {X Y : Type 0} (f : X → Y) (P : Y → Type 0) (r : Bool) (xs : List X)
    → MatchBool r (AllWithin (λ x. P (f x)) xs 0 (length xs))
    ((k : ℕ) × (k < length xs) × HoldsAt (λ x. P (f x) → ⊥) xs k) → IsTrue r ↔ AllByRecursion P (map f xs)
each_decided f P true xs all = ((λ _. each_within f P xs all), (λ _. refl))
each_decided f P false xs one = (
  (λ e. absurd (false≢true e)),
  (λ each. absurd (not_each f P xs one.0 one.1 one.2 each)),
)

-- ---- keys in order

less_if : (o : Ordering) → is_lt o ≡ true → o ≡ Less
less_if Less e = refl
less_if _ e = absurd (false≢true e)

rises_below : (ms : List Message) → ((k : ℕ) (d : Message) → suc k < length ms → true
    ≡ is_below (get_or ms k d) (get_or ms (suc k) d)) → Rises (map key (messages_of ms))
rises_below (m ∷ n ∷ ms) all = (
  less_if _ (sym (all 0 m (omega arith))),
  rises_below (n ∷ ms)
      (λ k d lt. all (suc k) d (omega arith)),
)
rises_below _ all = tt

not_rising : (ms : List Message) (k : ℕ) → suc k < length ms
    → ((d : Message) → false ≡ is_below (get_or ms k d) (get_or ms (suc k) d)) → Rises (map key (messages_of ms)) → ⊥
not_rising (m ∷ n ∷ ms) zero lt none rises = false≢true (none m ∙ ap is_lt rises.0)
not_rising (m ∷ n ∷ ms) (suc k) lt none rises = not_rising (n ∷ ms) k (omega arith) none rises.1
not_rising _ k lt none rises = absurd (omega arith)

pub rises_decided : (ms : List Message) (r : Bool) → IsAllAdjacentAnswer (λ x y b. b ≡ is_below x y) ms r → IsTrue r
    ↔ Rises (map key (messages_of ms))
rises_decided ms true all = (
  (λ _. rises_below ms (λ k d lt. subst
      (λ (n : ℕ). true ≡ is_below (get_or ms k d) (get_or ms n d)) (add-one k) (all k d (omega arith)))),
  (λ _. refl),
)
rises_decided ms false one = (
  (λ e. absurd (false≢true e)),
  (λ rises. absurd
      (not_rising ms one.0 (omega (arith, one.1)) (λ d. subst (λ (n : ℕ). false
      ≡ is_below (get_or ms one.0 d) (get_or ms n d)) (add-one one.0) (one.2 d)) rises)),
)

-- ---- the header

pub header_found : (ms : List Message) → find (λ e. bytes_eq (key e) []) (messages_of ms)
    ≡ option_map message_entry (find is_header ms)
header_found [] = refl
header_found (m ∷ ms) = elim (is_header m) as (λ b. cond b (Some (message_entry m))
    (find (λ e. bytes_eq (key e) []) (messages_of ms))
    ≡ option_map message_entry (cond b (Some m) (find is_header ms))) [
      | true ↦ refl
      | false ↦ header_found ms
    ]

pub header_some : (ms : List Message) (m : Message) (r : Bool) → Some m ≡ find is_header ms → IsTrue r
    ↔ HasAcceptedCharset (first_form (map (λ s. string_bytes s) m.forms.items)) → IsTrue r
    ↔ IfSome (header_text (messages_of ms)) HasAcceptedCharset
header_some ms m r is tells =
    let text : header_text (messages_of ms) ≡ Some (first_form (map (λ s. string_bytes s) m.forms.items)) = ap
    (option_map (λ (e : Entry). first_form e.forms)) (header_found ms ∙ ap (option_map message_entry) (sym is)) in
    rw text tells

pub header_none : (ms : List Message) → None ≡ find is_header ms → IsTrue true
    ↔ IfSome (header_text (messages_of ms)) HasAcceptedCharset
header_none ms is =
    let text : header_text (messages_of ms) ≡ None = ap (option_map (λ (e : Entry). first_form e.forms))
    (header_found ms ∙ ap (option_map message_entry) (sym is)) in
    rw text ((λ _. tt), (λ _. refl))

-- ---- sizes

abbrev pub form_size : String Global → ℕ
form_size s = length (string_bytes s) + 1

abbrev pub message_size : Message → ℕ
message_size m = entry_size (message_entry m)

pub capped_more : (a b : ℕ) → capped_number (capped_number a + b) ≡ capped_number (a + b)
capped_more a b = omega arith

pub pool_size : (forms : List (String Global)) → length (pool (map (λ s. string_bytes s) forms))
    ≡ sum_by form_size forms
pool_size [] = refl
pool_size (s ∷ forms) =
    let e = ap length (flat_map-cons with_nul (string_bytes s) (map (λ t. string_bytes t) forms))
    ∙ length-append (with_nul (string_bytes s)) (pool (map (λ t. string_bytes t) forms)) in
    omega (arith, e, pool_size forms, length-with_nul (string_bytes s), sum_by-cons form_size s forms)

-- a translation has its NUL even without a form
pub translation_size : (e : Entry) → length (with_nul (translation e)) ≡ max (length (pool e.forms)) 1
translation_size e = of e.forms
  where
    of : (forms : List (List ℕ)) → length (with_nul (join_with_byte 0 forms)) ≡ max (length (pool forms)) 1
    of [] = refl
    of (f ∷ fs) =
        let same = ap length (joined_with_nul (f ∷ fs) (omega arith)) in
        let some = ap length (flat_map-cons with_nul f fs) ∙ length-append (with_nul f) (pool fs) in
        omega (arith, same, some, length-with_nul f)

map_size : (ms : List Message) → sum_by entry_size (messages_of ms) ≡ sum_by message_size ms
map_size [] = refl
map_size (m ∷ ms) = omega (
  arith,
  sum_by-cons entry_size (message_entry m) (messages_of ms),
  sum_by-cons message_size m
      ms,
  map_size ms,
)

pub messages_size : (ms : List Message) → length (spelling (messages_of ms)) ≡ 28 + sum_by message_size ms
messages_size ms = omega (arith, file_size (messages_of ms), map_size ms)

-- numbers added one after another
pub sums_capped : (m k p t a b c d : ℕ) → a ≡ min (k + p) m → b ≡ min (a + 1) m → c ≡ min (b + min t m) m → d
    ≡ min (c + 16) m → d ≡ min (16 + (k + p + 1) + t) m
sums_capped m k p t a b c d ea eb ec ed = omega arith
