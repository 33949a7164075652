use Rattle.std.proofs.Common.{◌≡◌, take}
use Rattle.mo_segments.specs.MessageStrings.{strings_of}
use Rattle.dependent_files.specs.MessagesHere as Here
use Rattle.dependent_files.proofs.here.messages_here.Given as goal

abbrev pub invariant-dependents : goal.invariant-dependents
invariant-dependents l =
    strings_of l.messages.items ≡ Here.messages_here (strings_of l.statics) (take l.dependent-index l.dependents)
