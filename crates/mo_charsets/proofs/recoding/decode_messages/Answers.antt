use Rattle.std.proofs.Common.{◌+◌, arith}
use Rattle.std.proofs.lemmas.Result.{err_from_is_err_and}
use Rattle.mo_charsets.proofs.Messages.{one_fails, one_more}
use Rattle.mo_charsets.proofs.recoding.decode_messages.Goals as goal

pub returns-in_err-decode_message : goal.returns-in_err-decode_message
returns-in_err-decode_message c =
    let p = err_from_is_err_and c.from_residual-in_err-decode_message.result
    c.from_residual-in_err-decode_message.ensures.1 in
    rw (p.1, p.2) (one_fails c.args.charset c.args.messages.now c.messages.message-index c.message-item.result
    c.in_err-decode_message.field-0.0 (omega arith) c.message-item.is c.in_err-decode_message.ensures)

pub messages-preserved : goal.messages-preserved
messages-preserved c = rw c.in_ok-push.ensures.items (one_more c.args.charset c.args.messages.now
    c.messages.message-index (c.messages.message-index + 1) c.message-item.result c.messages.decoded.items
    c.in_ok-decode_message.field-0 (omega arith) (omega arith) c.message-item.is c.messages.invariant
    c.in_ok-decode_message.ensures)
