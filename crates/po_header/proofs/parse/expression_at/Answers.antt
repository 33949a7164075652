use Rattle.std.proofs.Common.{◌∙◌, refl}
use Rattle.memchr.specs.Find.{is_byte2}
use Rattle.po_header.proofs.ByteLemmas.{run_len}
use Rattle.po_header.proofs.parse.expression_at.Goals as goal

pub returns : goal.returns
returns c = c.split_at.ensures.front ∙ rw (
  run_len (is_byte2 59 10) c.args.text.now c.memchr2.result c.memchr2.ensures,
  ← c.unwrap_or-end.ensures,
) refl
