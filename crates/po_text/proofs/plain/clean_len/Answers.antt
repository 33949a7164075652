use Rattle.po_text.proofs.Kit.{◌≡◌, ◌∙◌, ◌-◌, length, drop, take, sym, ap, ℕ, arith, length-drop, prefix_len}
use Rattle.po_text.proofs.Kit.{prefix_len-le-length, chunk}
use Rattle.std.proofs.lemmas.List.{length-take}
use Rattle.byte_text.specs.Lanes.{first_set}
use Rattle.po_text.specs.Clean.{is_clean}
use Rattle.po_text.proofs.LaneLemmas.{run_bound, run_stops, run_through}
use Rattle.po_text.proofs.plain.clean_len.Goals as goal

pub overflow_add-result : goal.overflow_add-result
overflow_add-result c =
    let few = run_bound is_clean c.args.text.now c.vectors.len 16 (omega arith) in
    let run = c.first_set.ensures ∙ c.stops_at-stops.ensures.first in
    omega (arith, few, run)

pub returns-then-stops-ne0 : goal.returns-then-stops-ne0
returns-then-stops-ne0 c =
    let run = c.first_set.ensures ∙ c.stops_at-stops.ensures.first in
    let part = c.stops_at-stops.ensures.some c.if-stops-ne0.true in
    let stops = run_stops is_clean c.args.text.now c.vectors.len 16 (omega arith) part in
    omega (arith, c.vectors.invariant.passed, stops, run)

pub vectors-preserved : goal.vectors-preserved
vectors-preserved c =
    let all : prefix_len is_clean (chunk c.vectors.len 16 c.args.text.now) ≡ 16
    = sym c.stops_at-stops.ensures.first ∙ ap (λ (m : ℕ). first_set m 16) c.if-stops-ne0.false in
    let through = run_through is_clean c.args.text.now c.vectors.len 16 (omega arith) all in
    record {
      passed = omega (arith, c.vectors.invariant.passed, through);
      within = omega arith;
    }

pub overflow_add-result-2 : goal.overflow_add-result-2
overflow_add-result-2 c =
    let rest = drop c.vectors.len c.args.text.now in
    let left = take (length c.args.text.now - c.vectors.len) rest in
    omega (
      arith,
      c.clean_bytes.ensures,
      c.vectors.invariant.within,
      prefix_len-le-length is_clean left,
      length-take (length c.args.text.now - c.vectors.len) rest,
      length-drop c.vectors.len c.args.text.now,
    )
