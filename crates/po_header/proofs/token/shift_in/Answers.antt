use Rattle.std.proofs.Common.{rules}
use Rattle.po_header.proofs.token.shift_in.Goals as goal

pub returns : goal.returns
returns c = search rules
