use Rattle.std.proofs.Common.{◌≡◌, take}
use Rattle.mo_segments.specs.MessageStrings.{strings_of}
use Rattle.dependent_files.proofs.same.are_same.Given as goal

abbrev pub invariant-messages : goal.invariant-messages
invariant-messages l = strings_of (take l.i l.messages) ≡ strings_of (take l.i l.others)
