use Rattle.std.proofs.Common.{◌≡◌}
use Rattle.mo_segments.specs.MessageStrings.{strings_of}
use Rattle.mo_revisions.specs.Revisions.{static_messages}
use Rattle.mo_revisions.proofs.statics.copy_rows.Given as goal

abbrev pub invariant-rows : goal.invariant-rows
invariant-rows g l = strings_of l.messages.items
    ≡ static_messages g.T.ByteOrder.number_of l.bytes l.originals l.translations l.i
