use Rattle.std.proofs.Common.{◌+◌, ◌<◌, length, ap, ◌∙◌, arith}
use Rattle.std.proofs.lemmas.List.{length-set}
use Rattle.mo_dependent.specs.Hashing.{hash}
use Rattle.mo_dependent.proofs.Probing.{one_more_taken}
use Rattle.mo_dependent.proofs.Filling.{filled_more}
use Rattle.mo_dependent.proofs.hashing.hash_table.Goals as goal

pub messages-preserved : goal.messages-preserved
messages-preserved c =
    let slots = c.messages.slots.items in
    let slot = c.first_free-slot.result in
    let within : slot < length slots = omega (
      arith,
      c.first_free-slot.ensures.within,
      ap length c.as_slice.ensures.value,
    ) in
    record {
      filled = filled_more c.args.size c.args.statics.now c.messages.i c.entry.result slots c.as_slice.result.now
          c.hash_of.result slot c.entry.ensures c.as_slice.ensures.value
          (c.hash_of.ensures ∙ ap hash (c.as_bytes.ensures.value ∙ c.key.ensures)) c.messages.invariant.filled
          c.first_free-slot.ensures.free;
      len = length-set slots slot (c.messages.i + 1) ∙ c.messages.invariant.len;
      few = omega (arith, one_more_taken slots slot (c.messages.i + 1) within, c.messages.invariant.few);
    }
