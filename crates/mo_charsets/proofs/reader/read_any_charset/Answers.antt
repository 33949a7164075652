use Rattle.std.proofs.Common.{inl}
use Rattle.mo_charsets.proofs.Files.{foreign_fails}
use Rattle.mo_charsets.proofs.reader.read_any_charset.Goals as goal

pub returns-in-Err-clause-err : goal.returns-in-Err-clause-err
returns-in-Err-clause-err c = foreign_fails c.args.bytes.now c.in-Err.fault c.read_recoded.result
    (c.is_for_charset.ensures.0 c.if-is_for_charset.true) c.in-Err.ensures.err c.read_recoded.ensures.err

pub returns-in-Err-2-clause-err : goal.returns-in-Err-2-clause-err
returns-in-Err-2-clause-err c = inl (
  λ h. let e = c.is_for_charset.ensures.1 h in
      absurd (cc (e, c.if-is_for_charset.false)),
  c.in-Err.ensures.err,
)
