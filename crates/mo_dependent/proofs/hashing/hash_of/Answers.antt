use Rattle.std.proofs.Common.{◌+◌, drop, sym, ap, ◌∙◌}
use Rattle.mo_dependent.specs.Hashing.{hash_from}
use Rattle.mo_dependent.proofs.Steps.{hash_next}
use Rattle.mo_dependent.proofs.hashing.hash_of.Goals as goal

pub bytes-preserved : goal.bytes-preserved
bytes-preserved c = ap (λ h. hash_from h (drop (c.bytes.i + 1) c.args.key.now)) c.hash_step-hash.ensures
    ∙ sym (hash_next c.args.key.now c.bytes.i c.bytes.hash c.bytes-test.true)
    ∙ c.bytes.invariant
