use Rattle.std.proofs.Common.{arith}
use Rattle.mo_dependent.specs.Splits.{texts}
use Rattle.mo_dependent.proofs.Steps.{lens_next}
use Rattle.mo_dependent.proofs.descriptors.descriptors_len.Goals as goal

pub returns-then-splits-gt-MAX_LEN : goal.returns-then-splits-gt-MAX_LEN
returns-then-splits-gt-MAX_LEN c = omega (arith, lens_next (texts c.args.dependents.now) c.texts.i _ c.text_at.ensures)

pub returns-then-len-gt-MAX_LEN : goal.returns-then-len-gt-MAX_LEN
returns-then-len-gt-MAX_LEN c = omega (arith, lens_next (texts c.args.dependents.now) c.texts.i _ c.text_at.ensures)

pub texts-preserved : goal.texts-preserved
texts-preserved c = record {
  so_far = omega (arith, lens_next (texts c.args.dependents.now) c.texts.i _ c.text_at.ensures);
  most = omega arith;
}
