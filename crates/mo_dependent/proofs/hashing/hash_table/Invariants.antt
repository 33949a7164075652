use Rattle.std.proofs.Common.{◌≡◌, ◌≤◌, length, map}
use Rattle.mo_image.specs.Entry.{key}
use Rattle.mo_dependent.specs.Hashing.{taken_count, IsFilledTo}
use Rattle.mo_dependent.proofs.hashing.hash_table.Given as goal

abbrev pub invariant-messages : goal.invariant-messages
invariant-messages l = record {
  filled : IsFilledTo l.size (map key l.statics) l.i l.slots.items;
  len : length l.slots.items ≡ l.size;
  few : taken_count l.slots.items ≤ l.i;
}
