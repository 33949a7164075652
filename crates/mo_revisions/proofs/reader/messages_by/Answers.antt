use Rattle.std.proofs.Common.{arith}
use Rattle.mo_file.specs.MoReading.{file_by}
use Rattle.mo_revisions.proofs.Parts.{messages_fail}
use Rattle.mo_revisions.proofs.reader.messages_by.Goals as goal

pub returns-clause-err : goal.returns-clause-err
returns-clause-err g c = messages_fail (file_by g.T.ByteOrder.number_of c.args.bytes.now) c.with_dependent.result
    c.in_ok-check_static.ensures.ok (λ none. absurd (omega (arith, none, c.minor.ensures, c.if-minor-eq0.false)))
    c.with_dependent.ensures.err
