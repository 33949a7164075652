use Rattle.std.proofs.Common.{arith}
use Rattle.mo_file.specs.declared.fault.MoFault.TheVariants.{TooLarge, Short}
use Rattle.mo_revisions.proofs.reader.read_revised.Goals as goal

pub read_messages-requires-clause-short : goal.read_messages-requires-clause-short
read_messages-requires-clause-short c = (c.requires (omega arith)).1 TooLarge (omega arith)

pub read_messages-requires-clause-long : goal.read_messages-requires-clause-long
read_messages-requires-clause-long c = (c.requires (omega arith)).1 Short (omega arith)
