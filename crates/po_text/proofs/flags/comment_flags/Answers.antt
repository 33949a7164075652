use Rattle.std.proofs.Common.{rules}
use Rattle.po_text.proofs.flags.comment_flags.Goals as goal

pub returns-in-Some-eq126-default : goal.returns-in-Some-eq126-default
returns-in-Some-eq126-default c = search rules
