use Rattle.mo_segments.specs.MessageStrings.{strings_of}
use Rattle.mo_revisions.proofs.Parts.{flat_fails}
use Rattle.mo_revisions.proofs.reader.catalogue_of.Goals as goal

pub returns-clause-err : goal.returns-clause-err
returns-clause-err c = flat_fails (λ v. v.items) (strings_of c.args.messages.items) c.in_ok-kept.kept.items
    c.as_slice.result.now c.in_ok-file.field-0 c.in-Some.file c.in-Err.unread.fault c.in_ok-kept.ensures
    c.as_slice.ensures.value c.in_ok-file.ensures c.in-Some.is c.in-Err.ensures.err.refused
