use Rattle.po_header.proofs.Feeding.{Derives-one}
use Rattle.po_header.proofs.parse.one_tree.Goals as goal

pub returns : goal.returns
returns c = Derives-one
