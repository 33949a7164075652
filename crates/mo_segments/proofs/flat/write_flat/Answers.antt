use Rattle.std.proofs.Common.{◌+◌, ◌*◌, arith, refl, length}
use Rattle.mo_segments.proofs.Parts.{flat_size, file_written}
use Rattle.mo_segments.proofs.flat.write_flat.Goals as goal

pub returns-then-n : goal.returns-then-n
returns-then-n c = omega (arith, flat_size c.args.messages.now, c.if-n.true)

pub returns-in_default : goal.returns-in_default
returns-in_default c = omega (arith, flat_size c.args.messages.now, c.in_default.ensures, c.if-n.false)

pub returns-in_default-pool_len : goal.returns-in_default-pool_len
returns-in_default-pool_len c =
    omega (arith, flat_size c.args.messages.now, c.in_default-pool_len.ensures, c.in-Some.ensures.0, c.if-n.false)

pub returns : goal.returns
returns c = (
  file_written c.args.messages.now (length c.args.messages.now) (28 + 16 * length c.args.messages.now)
      (28 + 16 * length c.args.messages.now + c.in-Some.originals) _ _ _ _ _ _ refl refl
      (omega (arith, c.in-Some.ensures.0)) c.in_ok-out.ensures.items c.in_ok-push_header.ensures
      c.in_ok-push_pairs.ensures c.in_ok-push_pairs-2.ensures c.in_ok-push_pool.ensures c.in_ok-push_pool-2.ensures,
  omega (
    arith,
    flat_size c.args.messages.now,
    c.if-n.false,
    c.in-Some.ensures.0,
    c.in-Some.ensures.1,
    c.in-Some-pool_len.ensures.0,
    c.in-Some-pool_len.ensures.1,
  ),
)
