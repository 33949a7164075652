use Rattle.std.proofs.Common.{◌≤◌, length, arith}
use Rattle.mo_dependent.specs.Hashing.{taken_count}
use Rattle.mo_dependent.proofs.Probing.{all_taken}
use Rattle.mo_dependent.proofs.hashing.first_free.Goals as goal

pub unreachable-requires : goal.unreachable-requires
unreachable-requires c =
    let all : length c.args.slots.now ≤ taken_count c.args.slots.now =
    all_taken c.args.slots.now c.args.hash c.requires.prime
    c.requires.some (λ k lt. c.tries.invariant k (omega (arith, lt, c.tries-test.false))) in
    omega (arith, all, c.requires.free)
