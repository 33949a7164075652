use Rattle.catalogue_map.proofs.Kit.{◌≡◌, ◌+◌, take, sum_by, capped_number}
use Rattle.catalogue_map.proofs.Accepting.{message_size}
use Rattle.catalogue_map.proofs.sizes.file_len.Given as goal

abbrev pub invariant-messages : goal.invariant-messages
invariant-messages l = l.len ≡ capped_number (28 + sum_by message_size (take l.message-index l.messages))
