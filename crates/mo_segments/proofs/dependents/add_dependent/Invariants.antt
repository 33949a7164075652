use Rattle.mo_segments.specs.Descriptors.{texts_of}
use Rattle.mo_segments.specs.MessageStrings.{strings_of}
use Rattle.mo_segments.specs.Dependents.{IsReadTo}
use Rattle.mo_segments.proofs.dependents.add_dependent.Given as goal

abbrev pub invariant-messages : goal.invariant-messages
invariant-messages g l = IsReadTo g.T.ByteOrder.number_of l.bytes (texts_of l.values) (strings_of l.fn.messages.items)
    l.i l.room (strings_of l.messages.items)
