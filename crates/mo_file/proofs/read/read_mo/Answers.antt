use Rattle.mo_file.proofs.ReadBack.{file_is_read}
use Rattle.mo_file.proofs.read.read_mo.Goals as goal

pub returns-then-is_written-clause-ok : goal.returns-then-is_written-clause-ok
returns-then-is_written-clause-ok c =
    file_is_read c.args.bytes.now c.in_ok-from_file.field-0 c.in_ok-from_file.ensures
