use Rattle.mo_file.proofs.ReadBack.{file_is_read}
use Rattle.mo_file.proofs.read.read_owned.Goals as goal

pub returns-then-is_written : goal.returns-then-is_written
returns-then-is_written c =
    file_is_read c.args.bytes.items c.in_ok-from_owned_file.field-0 c.in_ok-from_owned_file.ensures
