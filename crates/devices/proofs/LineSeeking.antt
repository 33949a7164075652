-- What holds after some reads while the end of a line is looked for.
use Rattle.std.proofs.Common.{◌≡◌, ap, ℕ, ◌+◌, ◌<◌, ◌≤◌, true, List, length, arith}
use Rattle.std.proofs.Common.{inl, inr, length-append, Option, subst}
use Rattle.std.proofs.lemmas.List.{get_or_append_left}
use Rattle.std.specs.List.{slice_index}
use Rattle.std.specs.Io.KnownBytes.{IsAtEnd}
use Rattle.devices.specs.Devices.{RisesBy}
use Rattle.devices.specs.Lines.{is_line_end}
use Rattle.devices.specs.Incoming.{Incoming, LacksEnd, HasEnd}
use Rattle.devices.specs.Arrivals.{AddsInput}
use Rattle.devices.specs.Seeking.{AddsBytes, HasNoEnd, IsKnownEnd}
use Rattle.devices.proofs.Arriving.{adds_none, adds_read, adds_then, both, rises_both, rises_none}

-- `turn` reads were made, and there is no LF from `from` to `searched`
pub record HasSearched (before after : Option (List ℕ)) (failed failed' reads reads' turn : ℕ) (old new : Incoming)
    (from searched : ℕ) : Type 0 where
  pub came : AddsInput before after old new
  pub low : from ≤ searched
  pub high : searched ≤ length new.left
  pub lacks : LacksEnd new.left from searched
  pub later : failed ≤ failed'
  pub counted : RisesBy turn reads reads'

pub searched_none : (a : Option (List ℕ)) (failed reads : ℕ) (input : Incoming) (from : ℕ) → from ≤ length input.left
    → HasSearched a a failed failed reads reads 0 input input from from
searched_none a failed reads input from within = record {
  came = adds_none a input;
  low = omega arith;
  high = within;
  lacks = λ k low high. absurd (omega arith);
  later = omega arith;
  counted = rises_none reads;
}

pub searched_more : (a b c : Option (List ℕ)) (f f' f'' r r' r'' turn : ℕ) (x y z : Incoming) (from searched : ℕ)
    → HasSearched a b f f' r r' turn x y from searched → HasNoEnd y from → AddsBytes b c y.left z.left
    → (z.ended ≡ true → IsAtEnd c) → f' ≤ f'' → RisesBy 1 r' r''
    → HasSearched a c f f'' r r'' (turn + 1) x z from (length y.left)
searched_more a b c f f' f'' r r' r'' turn x y z from searched had none read end later counted = record {
  came = adds_then a b c x y z had.came (adds_read b c y z none.going read end);
  low = omega (arith, had.low, had.high);
  high = omega (arith, ap length read.behind, length-append y.left read.more);
  lacks = λ k low high. rw (read.behind, get_or_append_left y.left read.more 0 k high) (none.lacks k low high);
  later = omega (arith, had.later);
  counted = rises_both turn 1 r r' r'' had.counted counted;
}

-- what is searched has no end
pub no_end : (input : Incoming) (from : ℕ) → HasNoEnd input from → HasEnd input from → ⊥
no_end input from none (inl ended) = both input.ended ended none.going
no_end input from none (inr there) = both (is_line_end (slice_index input.left there.offset)) there.ends
    (none.lacks there.offset there.low there.high)

-- no LF within the first bytes
pub lacks_known : (input : Incoming) (from end most : ℕ) → IsKnownEnd input from end → most < end
    → LacksEnd input.left from most
lacks_known input from end most known below k low high = known.lacks k low (omega arith)

pub lacks_none : (input : Incoming) (from most : ℕ) → HasNoEnd input from → most < length input.left
    → LacksEnd input.left from most
lacks_none input from most none below k low high = none.lacks k low (omega arith)

pub no_end_of : (old new : Incoming) (from : ℕ) → new ≡ old → HasNoEnd new from → HasEnd old from → ⊥
no_end_of old new from same none has = no_end old from (subst (λ v. HasNoEnd v from) same none) has
