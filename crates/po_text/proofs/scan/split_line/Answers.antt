use Rattle.po_text.proofs.Kit.{◌∙◌, refl}
use Rattle.po_text.proofs.scan.split_line.Goals as goal

pub returns-clause-line : goal.returns-clause-line
returns-clause-line c = c.split_at.ensures.front ∙ rw c.offset_of.ensures.offset refl
