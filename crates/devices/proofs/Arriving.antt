-- What several reads add up to.
use Rattle.std.proofs.Common.{◌≡◌, ◌∙◌, refl, sym, ap, ℕ, ◌+◌, ◌≤◌, Bool, true, false, List, [], ◌++◌, arith}
use Rattle.std.proofs.Common.{inl, inr, append_assoc, Option, Some, None, Result, Ok, Err, IsErrOf}
use Rattle.std.proofs.lemmas.List.{append-nil}
use Rattle.std.specs.Io.KnownBytes.{Consumes, IsAtEnd, Keeps}
use Rattle.devices.specs.Devices.{RisesBy}
use Rattle.devices.specs.Incoming.{Incoming}
use Rattle.devices.specs.Arrivals.{AddsInput, AddsSome, Comes}
use Rattle.devices.specs.Seeking.{AddsBytes, LosesBytes}
use Rattle.devices.specs.declared.incoming.LineInputFault.{LineInputFault}
use Rattle.devices.specs.declared.incoming.LineInputFault.TheVariants.{TooLong, Unreadable, Memory}

pub consumes_none : (known : Option (List ℕ)) → Consumes known known []
consumes_none None = tt
consumes_none (Some xs) = refl

pub consumes_kept : (old new : Option (List ℕ)) → Keeps old new → Consumes old new []
consumes_kept None new kept = tt
consumes_kept (Some xs) None kept = absurd kept
consumes_kept (Some xs) (Some ys) kept = sym kept

pub consumes_both : (a b c : Option (List ℕ)) (first second : List ℕ) → Consumes a b first → Consumes b c second
    → Consumes a c (first ++ second)
consumes_both None b c first second taken more = tt
consumes_both (Some xs) None c first second taken more = absurd taken
consumes_both (Some xs) (Some ys) None first second taken more = absurd more
consumes_both (Some xs) (Some ys) (Some zs) first second taken more =
    taken ∙ ap (λ ts. first ++ ts) more ∙ sym (append_assoc first second zs)

-- a list that grew twice
grown_twice : (xs ys zs first second : List ℕ) → ys ≡ xs ++ first → zs ≡ ys ++ second → zs ≡ xs ++ (first ++ second)
grown_twice xs ys zs first second e f = f ∙ ap (λ ts. ts ++ second) e ∙ append_assoc xs first second

pub both : (b : Bool) {X : Type 0} → b ≡ true → b ≡ false → X
both b set unset = cc

pub adds_none : (a : Option (List ℕ)) (input : Incoming) → AddsInput a a input input
adds_none a input = record {
  more = [];
  behind = sym (append-nil input.left);
  consumed = consumes_none a;
  at_end = λ before ended. before ended;
  stays = λ ended. refl;
  idle = λ ended. refl;
}

pub adds_then : (a b c : Option (List ℕ)) (x y z : Incoming) → AddsInput a b x y → AddsInput b c y z → AddsInput a c x z
adds_then a b c x y z first second = record {
  more = first.more ++ second.more;
  behind = grown_twice x.left y.left z.left first.more second.more first.behind second.behind;
  consumed = consumes_both a b c first.more second.more first.consumed second.consumed;
  at_end = λ before. second.at_end (first.at_end before);
  stays = λ ended. second.stays (ap (λ v. v.ended) (first.stays ended) ∙ ended) ∙ first.stays ended;
  idle = λ ended. second.idle (ap (λ v. v.ended) (first.stays ended) ∙ ended) ∙ first.idle ended;
}

pub adds_some_then : (a b c : Option (List ℕ)) (x y z : Incoming) → AddsInput a b x y → AddsSome b c y z
    → AddsSome a c x z
adds_some_then a b c x y z first second = record {
  more = first.more ++ second.more;
  lost = second.lost;
  behind = grown_twice x.left y.left z.left first.more second.more first.behind second.behind;
  consumed = rw (append_assoc first.more second.more second.lost)
      (consumes_both a b c first.more (second.more ++ second.lost) first.consumed second.consumed);
  at_end = λ before. second.at_end (first.at_end before);
  stays = λ ended. second.stays (ap (λ v. v.ended) (first.stays ended) ∙ ended) ∙ first.stays ended;
}

-- nothing is lost
pub adds_whole : (a b : Option (List ℕ)) (x y : Incoming) → AddsInput a b x y → AddsSome a b x y
adds_whole a b x y adds = record {
  more = adds.more;
  lost = [];
  behind = adds.behind;
  consumed = rw (append-nil adds.more) adds.consumed;
  at_end = adds.at_end;
  stays = adds.stays;
}

-- one read more
pub adds_read : (a b : Option (List ℕ)) (x y : Incoming) → x.ended ≡ false → AddsBytes a b x.left y.left
    → (y.ended ≡ true → IsAtEnd b) → AddsInput a b x y
adds_read a b x y going read end = record {
  more = read.more;
  behind = read.behind;
  consumed = read.consumed;
  at_end = λ before. end;
  stays = λ ended. both x.ended ended going;
  idle = λ ended. both x.ended ended going;
}

-- a read that is lost
pub adds_lost : (a b : Option (List ℕ)) (x y : Incoming) → x.ended ≡ false → LosesBytes a b x.left y.left
    → y.ended ≡ x.ended → AddsSome a b x y
adds_lost a b x y going read same = record {
  more = [];
  lost = read.lost;
  behind = read.same ∙ sym (append-nil x.left);
  consumed = read.consumed;
  at_end = λ before ended. both x.ended (sym same ∙ ended) going;
  stays = λ ended. both x.ended ended going;
}

pub comes_then : {T : Type 0} (a b c : Option (List ℕ)) (x y z : Incoming) (r : Result T LineInputFault)
    → AddsInput a b x y → Comes b c y z r → Comes a c x z r
comes_then a b c x y z (Ok v) first second = adds_then a b c x y z first second
comes_then a b c x y z (Err TooLong) first second = adds_then a b c x y z first second
comes_then a b c x y z (Err Unreadable) first second = adds_some_then a b c x y z first second
comes_then a b c x y z (Err Memory) first second = adds_some_then a b c x y z first second

-- a fault as an outcome
abbrev pub failed : (T : Type 0) → LineInputFault → Result T LineInputFault
failed T fault = Err fault

-- a read that fails after what came
pub comes_lost : (S T : Type 0) (a b c : Option (List ℕ)) (x y z : Incoming) (fault : LineInputFault)
    → AddsInput a b x y
    → y.ended ≡ false → LosesBytes b c y.left z.left × (z.ended ≡ y.ended)
    → (IsErrOf (failed S fault) TooLong → ⊥) → Comes a c x z (failed T fault)
comes_lost S T a b c x y z TooLong first going read short = absurd (short refl)
comes_lost S T a b c x y z Unreadable first going read short = adds_some_then a b c x y z first
    (adds_lost b c y z going read.0 read.1)
comes_lost S T a b c x y z Memory first going read short = adds_some_then a b c x y z first
    (adds_lost b c y z going read.0 read.1)

-- ---- counts

pub rises_none : (n : ℕ) → RisesBy 0 n n
rises_none n = inl (omega arith)

pub rises_both : (m n a b c : ℕ) → RisesBy m a b → RisesBy n b c → RisesBy (m + n) a c
rises_both m n a b c (inl h) (inl k) = inl (omega arith)
rises_both m n a b c (inl h) (inr k) = inr k
rises_both m n a b c (inr h) (inl k) = inr (omega arith)
rises_both m n a b c (inr h) (inr k) = inr k

pub rises_later : (n a b c : ℕ) → a ≤ b → RisesBy n b c → RisesBy n a c
rises_later n a b c le (inl k) = inl (omega arith)
rises_later n a b c le (inr k) = inr k

pub rises_less : (n a b : ℕ) → RisesBy n a b → RisesBy 0 a b
rises_less n a b (inl h) = inl (omega arith)
rises_less n a b (inr h) = inr h
