use Rattle.mo_tables.proofs.Kit.{arith, rules, subst, refl, common_steps, All, take_all, All-more, ClaimHolds}
use Rattle.mo_tables.specs.declared.claims.Claim.{Claim}
use Rattle.mo_tables.proofs.KeyOrder.{decided}
use Rattle.mo_tables.proofs.claims.all_hold.Goals as goal

abbrev nowhere : Claim
nowhere = record { lesser = record { start = 0; len = 0 }; greater = record { start = 0; len = 0 } }

pub claims-init : goal.claims-init
claims-init c = record {
  blocks = c.none-blocks.ensures c.args.bytes.now;
  alike = first_of (search rules, grind (arith, common_steps));
  period = first_of (search rules, grind (arith, common_steps));
  held = first_of (search rules, grind (arith, common_steps));
}

pub returns-then-byte_at : goal.returns-then-byte_at
returns-then-byte_at c =
    let both = decided c.args.bytes.now c.compared-alike.result c.compared-alike.ensures.alike c.start-lesser.result
    c.start-greater.result c.min-offset.result (omega (arith, c.min-offset.ensures))
    (omega (arith, c.compared-alike.ensures.distance, c.abs_diff-distance.ensures, c.min-offset.ensures))
    c.compared-alike.ensures.around.0 c.compared-alike.ensures.around.1 c.compared-alike.ensures.ends in (
      λ e. absurd cc,
      λ all.
          let held = rw (← c.start-lesser.ensures, ← c.start-greater.ensures)
          at (all c.claims.claim-index nowhere c.claims-test.true) in
          absurd (omega (
            arith,
            both.0 held,
            c.if-byte_at.true,
            c.byte_at.ensures,
            c.byte_at-in-claims.ensures,
          )),
    )

pub claims-preserved : goal.claims-preserved
claims-preserved c =
    let both = decided c.args.bytes.now c.compared-alike.result c.compared-alike.ensures.alike c.start-lesser.result
    c.start-greater.result c.min-offset.result (omega (arith, c.min-offset.ensures))
    (omega (arith, c.compared-alike.ensures.distance, c.abs_diff-distance.ensures, c.min-offset.ensures))
    c.compared-alike.ensures.around.0 c.compared-alike.ensures.around.1 c.compared-alike.ensures.ends in
    let held = rw (c.start-lesser.ensures, c.start-greater.ensures)
    at (both.1 (omega (arith, c.if-byte_at.false, c.byte_at.ensures, c.byte_at-in-claims.ensures))) in
    record {
      blocks = c.in_ok-blocks.ensures;
      alike = c.compared-alike.ensures.alike;
      period = c.learnt-period.ensures;
      held = All-more (ClaimHolds c.args.bytes.now) c.args.claims.now c.claims.claim-index nowhere c.claims-test.true
          c.claims.invariant.held held;
    }

pub returns : goal.returns
returns c = (
  λ e. subst (All (ClaimHolds c.args.bytes.now)) (take_all c.claims.claim-index c.args.claims.now c.claims-test.false)
      c.claims.invariant.held,
  λ all. refl,
)
