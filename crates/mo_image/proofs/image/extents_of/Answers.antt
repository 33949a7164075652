use Rattle.std.proofs.Common.{arith}
use Rattle.mo_image.proofs.ImageFacts.{entry_room}
use Rattle.mo_image.proofs.image.extents_of.Goals as goal

pub overflow_cast-i : goal.overflow_cast-i
overflow_cast-i c = omega (arith, entry_room c.args.bytes.now c.args.i c.requires.image c.requires.within)

pub returns : goal.returns
returns c =
    record {
      within = c.requires.within;
      long = c.new.ensures.long;
      short = λ fits. rw (c.new.ensures.short fits) c.texts_of.ensures.texts;
    }
