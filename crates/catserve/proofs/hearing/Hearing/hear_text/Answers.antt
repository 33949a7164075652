use Rattle.catserve.proofs.Common.{◌≡◌, ◌-◌, ◌∙◌, [], ℕ, List, refl, ap, arith, take, drop, IsUtf8, InputSeen}
use Rattle.catserve.proofs.Common.{input_seen, most_script, HearingValue}
use Rattle.devices.proofs.Arriving.{both}
use Rattle.catserve.proofs.LinesTaken.{nothing_heard, no_line, stays_whole, text_ends_within, text_within, text_taken}
use Rattle.catserve.proofs.LinesTaken.{text_undecodable}
use Rattle.catserve.proofs.SessionInTime.{text_reads}
use Rattle.catserve.proofs.SessionWaits.{reads_of as counts_of}
use Rattle.catserve.proofs.hearing.Hearing.hear_text.Goals as goal

pub returns-in-Err-clause-fault : goal.returns-in-Err-clause-fault
returns-in-Err-clause-fault g c =
    let i : InputSeen = input_seen g.R.Source.remaining g.R.Source.reads g.R.Source.failures c.args.reader.now in
    let j : InputSeen = input_seen g.R.Source.remaining g.R.Source.reads g.R.Source.failures c.lines_end.new.reader in
    let here : HearingValue = record
    { input = c.self.inside.input; number = c.self.inside.number; size = c.self.inside.size } in
    let after : HearingValue = record
    { input = c.lines_end.new.self; number = c.self.inside.number; size = c.self.inside.size } in
    rw (← c.self.view_is) (no_line _ i j here after c.fault_of.result.kind c.fault_of.result.line
    (nothing_heard here after c.in-Err.fault c.fault_of.result c.in-Err.ensures.comes
    (record { later = c.in-Err.ensures.later; reads = c.in-Err.ensures.reads }) refl refl
    (λ long. omega (arith, (c.in-Err.ensures.long long).over, c.self.invariant)) c.in-Err.ensures.cause
    c.fault_of.ensures))

pub returns-in_default-clause-fault : goal.returns-in_default-clause-fault
returns-in_default-clause-fault g c = rw (← c.self.view_is, c.fault_here.ensures) (
  record {
    stays = stays_whole c.in-Ok.ensures.comes
        (record { later = c.in-Ok.ensures.later; reads = c.in-Ok.ensures.reads }) refl refl;
    fewer = rw c.in_default.is at c.in-Ok.ensures.none;
  },
  refl,
)

pub overflow_add-count : goal.overflow_add-count
overflow_add-count g c =
    let ends = rw c.in-Some.is at c.in-Ok.ensures.lines in
    omega (arith, (text_within ends).0, c.ranges.count.fits, ends.within)

pub take-requires-clause-size : goal.take-requires-clause-size
take-requires-clause-size g c =
    let ends = rw c.in-Some.is at c.in-Ok.ensures.lines in
    let within = rw c.in-Some.is at c.in-Ok.ensures.within in
    let most : ℕ = most_script - c.self.inside.size in
    let known = ap (λ (x : HearingValue). x.size) c.self.view_is in
    let placed = text_ends_within c.args.count most ends (omega (arith, known, c.requires.size)) within in
    omega (arith, placed, c.self.invariant)

pub take-requires-clause-number : goal.take-requires-clause-number
take-requires-clause-number g c =
    let ends = rw c.in-Some.is at c.in-Ok.ensures.lines in
    let within = rw c.in-Some.is at c.in-Ok.ensures.within in
    let most : ℕ = most_script - c.self.inside.size in
    let known = ap (λ (x : HearingValue). x.size) c.self.view_is in
    let placed = text_ends_within c.args.count most ends (omega (arith, known, c.requires.size)) within in
    let few = (text_within ends).0 in
    omega (arith, placed, few, ap (λ (x : HearingValue). x.number) c.self.view_is, c.requires.few)

pub returns-then-not-is_utf8-clause-fault : goal.returns-then-not-is_utf8-clause-fault
returns-then-not-is_utf8-clause-fault g c =
    let stays = stays_whole c.in-Ok.ensures.comes
    (record { later = c.in-Ok.ensures.later; reads = c.in-Ok.ensures.reads }) refl refl in
    let ends = rw c.in-Some.is at c.in-Ok.ensures.lines in
    let line = rw (← c.self.view_is) at c.requires.line in
    let undecodable : ¬ IsUtf8 (take c.in-Some.text_end c.lines_end.new.self.left) =
    rw (← c.left-left.ensures) (λ utf8. both c.is_utf8.result (c.is_utf8.ensures.1 utf8) c.if-not-is_utf8.true) in
    rw (← c.self.view_is, c.fault_here-then-not-is_utf8.ensures) (text_undecodable stays line ends undecodable)

pub returns-in_default-to_vec-clause-fault : goal.returns-in_default-to_vec-clause-fault
returns-in_default-to_vec-clause-fault g c =
    let stays = stays_whole c.in-Ok.ensures.comes
    (record { later = c.in-Ok.ensures.later; reads = c.in-Ok.ensures.reads }) refl refl in
    rw (← c.self.view_is, c.from.ensures) (([], stays), refl)

pub returns-clause-heard : goal.returns-clause-heard
returns-clause-heard g c =
    let stays = stays_whole c.in-Ok.ensures.comes
    (record { later = c.in-Ok.ensures.later; reads = c.in-Ok.ensures.reads }) refl refl in
    let ends = rw c.in-Some.is at c.in-Ok.ensures.lines in
    let line = rw (← c.self.view_is) at c.requires.line in
    let utf8 = rw c.left-left.ensures at (c.is_utf8.ensures.0 c.if-not-is_utf8.false) in
    let bytes = rw c.left-left.ensures at (c.in-Ok-to_vec.ensures.items_if_clones_equal (λ x y e. e)) in
    rw (← c.self.view_is, c.take.ensures) (text_taken stays line ends utf8 bytes)

pub returns-in-Err-clause-waited : goal.returns-in-Err-clause-waited
returns-in-Err-clause-waited g c = rw (← c.self.view_is) (counts_of c.in-Err.ensures.waits.1)

pub returns-in_default-clause-waited : goal.returns-in_default-clause-waited
returns-in_default-clause-waited g c = rw (← c.self.view_is) (counts_of c.in-Ok.ensures.waits)

pub returns-then-not-is_utf8-clause-waited : goal.returns-then-not-is_utf8-clause-waited
returns-then-not-is_utf8-clause-waited g c = rw (← c.self.view_is) (counts_of c.in-Ok.ensures.waits)

pub returns-in_default-to_vec-clause-waited : goal.returns-in_default-to_vec-clause-waited
returns-in_default-to_vec-clause-waited g c = rw (← c.self.view_is) (counts_of c.in-Ok.ensures.waits)

pub returns-clause-waits : goal.returns-clause-waits
returns-clause-waits g c =
    let ends = rw c.in-Some.is at c.in-Ok.ensures.lines in
    let line = rw (← c.self.view_is) at c.requires.line in
    let text : List ℕ = take (c.in-Some.text_end - c.args.end) (drop c.args.end c.lines_end.new.self.left) in
    let bytes : c.in-Ok-to_vec.bytes.items ≡ text = c.in-Ok-to_vec.ensures.items_if_clones_equal (λ x y e. e)
    ∙ ap (λ left. take (c.in-Some.text_end - c.args.end) (drop c.args.end left)) c.left-left.ensures in
    rw (← c.self.view_is, c.take.ensures, bytes) (text_reads line ends c.in-Ok.ensures.waits)
