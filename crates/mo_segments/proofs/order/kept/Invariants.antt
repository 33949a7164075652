use Rattle.std.proofs.Common.{◌≡◌, ◌++◌, List}
use Rattle.std.specs.Map.{values_of}
use Rattle.mo_segments.specs.MessageStrings.{Strings, strings_in, strings_of}
use Rattle.mo_segments.specs.Keeping.{IsMapOf}
use Rattle.mo_segments.proofs.order.kept.Given as goal

abbrev pub invariant-messages : goal.invariant-messages
invariant-messages l = (done : List Strings)
    × (done ++ strings_of l.message-iterator.rest.items ≡ strings_of l.fn.messages.items)
    × IsMapOf (λ k. k.items) strings_in l.map.entries done

abbrev pub invariant-kept : goal.invariant-kept
invariant-kept l = l.kept.items ++ values_of l.message-iterator ≡ values_of l.initial.message-iterator
