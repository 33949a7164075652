use Rattle.std.proofs.Common.{◌≡◌, take}
use Rattle.mo_segments.specs.MessageStrings.{strings_of}
use Rattle.dependent_files.proofs.here.copies.Given as goal

abbrev pub invariant-messages : goal.invariant-messages
invariant-messages l = strings_of l.copies.items ≡ strings_of (take l.message-index l.messages)
