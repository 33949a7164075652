use Rattle.std.proofs.Common.{◌≡◌, ◌++◌, drop}
use Rattle.std.specs.List.{flat_map}
use Rattle.mo_image.specs.MoFile.{word}
use Rattle.mo_dependent.proofs.hashing.push_slots.Given as goal

abbrev pub invariant-slots : goal.invariant-slots
invariant-slots l = l.out.items ++ flat_map word (drop l.i l.slots) ≡ l.fn.out.items ++ flat_map word l.slots
