use Rattle.std.specs.Prelude.{take}
use Rattle.mo_segments.specs.MessageStrings.{strings_of}
use Rattle.mo_charsets.specs.MoRecoding.{AreDecoded}
use Rattle.mo_charsets.proofs.recoding.decode_messages.Given as goal

abbrev pub invariant-messages : goal.invariant-messages
invariant-messages l = AreDecoded l.charset (strings_of (take l.message-index l.messages)) (strings_of l.decoded.items)
