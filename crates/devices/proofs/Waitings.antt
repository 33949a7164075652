-- What several reads for a line add up to.
use Rattle.std.proofs.Common.{◌<◌, ◌≡◌, ◌∙◌, ℕ, List, [], ◌∷◌, ◌++◌, ap, sym, subst, refl, append_assoc, length, false}
use Rattle.std.proofs.Common.{inl, inr, Option, Result, Ok, Err}
use Rattle.std.proofs.lemmas.List.{append-nil}
use Rattle.devices.specs.Logs.{Came, Grows, Log, came, given_bytes}
use Rattle.devices.proofs.Logging.{answers_none, answers_read, answers_so, answers_then, came_then, given_then}
use Rattle.devices.proofs.Logging.{grows_none, grows_then}
use Rattle.devices.specs.Incoming.{EndsLines, Incoming, LacksEnd}
use Rattle.std.proofs.lemmas.Bool.{cases_Bool}
use Rattle.devices.specs.Arrivals.{AddsInput}
use Rattle.devices.proofs.Arriving.{both}
use Rattle.devices.proofs.LineCounting.{ends_grown}
use Rattle.devices.specs.Waiting.{GrowsOnce, ReadsOnce, StillCounts, StillWaits, Waits}

pub waits_none : (log : Log) (input : Incoming) (Still : List ℕ → List ℕ → Type 0)
    → Waits log log input input [] Still
waits_none log input Still = record {
  events = [];
  logged = grows_none log;
  placed = refl;
  silent = refl;
  each = answers_none Still;
}

abbrev done : (T E : Type 0) → T → Result T E
done T E result = Ok result

abbrev fails : (T E : Type 0) → E → Result T E
fails T E fault = Err fault

pub going_first : (a b : Option (List ℕ)) (x y : Incoming) → AddsInput a b x y → y.ended ≡ false → x.ended ≡ false
going_first a b x y adds going = elim (cases_Bool x.ended) [
  | inl ended ↦ both y.ended (ap (λ v. v.ended) (adds.stays ended) ∙ ended) going
  | inr goes ↦ goes
]

-- one read more
behind : (a b c : Log) (x y z : Incoming) (from : ℕ) (part lost : List ℕ) → Waits a b x y [] (StillWaits x from)
    → x.ended ≡ false → LacksEnd y.left from (length y.left) → GrowsOnce b c part
    → y.left ++ part ≡ z.left ++ lost → Waits a c x z lost (StillWaits x from)
behind a b c x y z from part lost had going lacks (inr (logged, none)) placed = record {
  events = had.events;
  logged = subst (λ es. Grows a c es) (append-nil had.events) (grows_then a b c had.events [] had.logged logged);
  placed = had.placed ∙ ap (λ xs. y.left ++ xs) (sym none) ∙ placed;
  silent = had.silent;
  each = had.each;
}
behind a b c x y z from part lost had going lacks (inl logged) placed = record {
  events = had.events ++ Came part ∷ [];
  logged = grows_then a b c had.events (Came part ∷ []) had.logged logged;
  placed = ap (λ xs. x.left ++ xs) (came_then had.events (Came part ∷ []) ∙ ap (λ xs. came had.events ++ xs)
      (append-nil part)) ∙ sym (append_assoc x.left (came had.events) part) ∙ ap (λ xs. xs ++ part) here ∙ placed;
  silent = given_then had.events (Came part ∷ []) ∙ append-nil (given_bytes had.events) ∙ had.silent;
  each = answers_then (StillWaits x from) had.events (Came part ∷ []) had.each (answers_read
      (λ c g. StillWaits x from (came had.events ++ c) (given_bytes had.events ++ g)) part
      (rw (append-nil (came had.events), append-nil (given_bytes had.events)) (record {
        going = going;
        lacks = subst (λ xs. LacksEnd xs from (length xs)) (sym here) lacks;
        silent = had.silent;
      })));
} where
  here : x.left ++ came had.events ≡ y.left
  here = had.placed ∙ append-nil y.left

pub waits_ok : {T E : Type 0} (a b c : Log) (x y z : Incoming) (from : ℕ) (result : T)
    → Waits a b x y [] (StillWaits x from)
    → x.ended ≡ false → LacksEnd y.left from (length y.left) → ReadsOnce b c y.left z.left (done T E result)
    → Waits a c x z [] (StillWaits x from)
waits_ok a b c x y z from result had going lacks read = behind a b c x y z from read.part [] had going lacks read.logged
    (sym read.placed ∙ sym (append-nil z.left))

pub waits_err : {T E : Type 0} (a b c : Log) (x y z : Incoming) (from : ℕ) (fault : E)
    → Waits a b x y [] (StillWaits x from)
    → x.ended ≡ false → LacksEnd y.left from (length y.left) → ReadsOnce b c y.left z.left (fails T E fault)
    → (lost : List ℕ) × Waits a c x z lost (StillWaits x from)
waits_err a b c x y z from fault had going lacks read = (
  read.part,
  behind a b c x y z from read.part read.part had going lacks read.logged
      (ap (λ xs. xs ++ read.part) (sym read.placed)),
)

-- one line more
pub counts_more : (r s : Option (List ℕ)) (a b c : Log) (x y z : Incoming) (from end n count : ℕ) (lost : List ℕ)
    → AddsInput r s x y → EndsLines n y from end → n < count → Waits a b x y [] (StillCounts count x from)
    → Waits b c y z lost (StillWaits y end) → Waits a c x z lost (StillCounts count x from)
counts_more r s a b c x y z from end n count lost adds ends fewer had more = record {
  events = had.events ++ more.events;
  logged = grows_then a b c had.events more.events had.logged more.logged;
  placed = ap (λ xs. x.left ++ xs) (came_then had.events more.events)
      ∙ sym (append_assoc x.left (came had.events) (came more.events))
      ∙ ap (λ xs. xs ++ came more.events) here ∙ more.placed;
  silent = given_then had.events more.events ∙ ap (λ g. g ++ given_bytes more.events) had.silent ∙ more.silent;
  each = answers_then (StillCounts count x from) had.events more.events had.each (answers_so (StillWaits y end)
      (λ t g. StillCounts count x from (came had.events ++ t) (given_bytes had.events ++ g)) more.events still
      more.each);
}
  where
    here : x.left ++ came had.events ≡ y.left
    here = had.placed ∙ append-nil y.left

    still : (t g : List ℕ) → StillWaits y end t g
        → StillCounts count x from (came had.events ++ t) (given_bytes had.events ++ g)
    still t g waits =
        let all : x.left ++ (came had.events ++ t) ≡ y.left ++ t = sym (append_assoc x.left (came had.events) t)
        ∙ ap (λ xs. xs ++ t) here in
        record {
          going = going_first r s x y adds waits.going;
          ended = n;
          fewer = fewer;
          end = end;
          ends = ends_grown n y (record { left = x.left ++ (came had.events ++ t); ended = false }) from end t
              waits.going
              all ends;
          lacks = subst (λ xs. LacksEnd xs end (length xs)) (sym all) waits.lacks;
          silent = ap (λ h. h ++ g) had.silent ∙ waits.silent;
        }
