use Rattle.catalogue_map.proofs.Kit.{◌+◌, sym, ap, ◌∙◌, sum_by, capped_number}
use Rattle.std.proofs.Common.{take_all}
use Rattle.catalogue_map.proofs.Accepting.{message_size, messages_size}
use Rattle.catalogue_map.proofs.sizes.file_len.Goals as goal

pub returns : goal.returns
returns c = c.messages.invariant ∙ ap capped_number
    (ap (λ n. 28 + sum_by message_size n) (take_all _ _ c.messages-test.false)
    ∙ sym (messages_size c.args.messages.now))
