use Rattle.std.proofs.Common.{refl}
use Rattle.std.proofs.lemmas.Result.{err_from_is_err_and}
use Rattle.mo_file.specs.MoReading.{file_by}
use Rattle.mo_revisions.proofs.Parts.{segments_lack}
use Rattle.mo_revisions.proofs.dependent.with_dependent.Goals as goal

pub returns-in_err-values-clause-err : goal.returns-in_err-values-clause-err
returns-in_err-values-clause-err g c =
    let p = err_from_is_err_and c.from_residual.result c.from_residual.ensures.1 in
    rw (p.1, p.2) (segments_lack (file_by g.T.ByteOrder.number_of c.args.bytes.now) c.word-table.result c.word-n.result
    c.in_err-values.field-0.0 (c.if-not-is_dependent_there.ensures.0 refl) c.word-table.ensures.value
    c.word-n.ensures.value c.in_err-values.ensures.err)
