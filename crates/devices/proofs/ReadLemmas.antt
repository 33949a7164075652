-- What reading in chunks adds up to.
use Rattle.std.proofs.Common.{◌≡◌, ◌∙◌, ◌+◌, ◌≤◌, ℕ, List, [], ◌++◌, length, take, ap, sym, refl, inl, inr, arith}
use Rattle.std.proofs.Common.{append-nil, append_assoc, Option, Some, None, IfSome}
use Rattle.std.proofs.lemmas.List.{take_all, take_at}
use Rattle.std.specs.Io.KnownBytes.{Consumes, Keeps}
use Rattle.devices.specs.Devices.{RisesBy}
use Rattle.devices.specs.Chunks.{IsWhole, ReadsMore}

pub consumes_none : (known : Option (List ℕ)) → Consumes known known []
consumes_none None = tt
consumes_none (Some xs) = refl

-- a read that gave nothing
pub reads_no_more : (old new : Option (List ℕ)) (before : List ℕ) → Keeps old new → ReadsMore old new before before
reads_no_more None new before kept = ([], sym (append-nil before), tt)
reads_no_more (Some xs) None before kept = absurd kept
reads_no_more (Some xs) (Some ys) before kept = ([], sym (append-nil before), sym kept)

pub consumes_more : (a b c : Option (List ℕ)) (before after : List ℕ) → Consumes a b before → ReadsMore b c before after
    → Consumes a c after
consumes_more None b c before after taken more = tt
consumes_more (Some xs) None c before after taken more = absurd taken
consumes_more (Some xs) (Some ys) None before after taken more = absurd more.2
consumes_more (Some xs) (Some ys) (Some zs) before after taken more =
    taken ∙ ap (λ ts. before ++ ts) more.2 ∙ sym (append_assoc before more.0 zs) ∙ ap (λ ts. ts ++ zs) (sym more.1)

-- what was taken is the front of the input, or all of it
pub is_front : (a b : Option (List ℕ)) (bytes : List ℕ) (limit : ℕ) → Consumes a b bytes → length bytes ≤ limit
    → IsWhole b limit bytes
    → IfSome a (λ xs. bytes ≡ take limit xs)
is_front None b bytes limit taken within whole = tt
is_front (Some xs) None bytes limit taken within whole = absurd taken
is_front (Some xs) (Some ys) bytes limit taken within (inl same) = sym
    (ap (take limit) taken ∙ take_at bytes ys limit same)
is_front (Some xs) (Some ys) bytes limit taken within (inr end) =
    let all : xs ≡ bytes = taken ∙ ap (λ ts. bytes ++ ts) end ∙ append-nil bytes in
    sym (ap (take limit) all ∙ take_all limit bytes within)

pub rises_none : (n : ℕ) → RisesBy 0 n n
rises_none n = inl (omega arith)

pub rises_more : (n a b c : ℕ) → RisesBy n a b → RisesBy 1 b c → b ≤ c → RisesBy (n + 1) a c
rises_more n a b c (inl h) (inl k) le = inl (omega arith)
rises_more n a b c (inl h) (inr k) le = inr k
rises_more n a b c (inr h) k le = inr (omega arith)

-- what a single read adds up to, and many of them
pub ruleset one_read = (consumes_none, reads_no_more, rises_none)

pub ruleset many_reads = (consumes_none, consumes_more, is_front, rises_none, rises_more)
