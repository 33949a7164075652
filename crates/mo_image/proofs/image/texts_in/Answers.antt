use Rattle.std.proofs.Common.{ℕ, length, ◌∙◌, subst, arith}
use Rattle.mo_image.specs.Extents.{AreTextsOf}
use Rattle.mo_image.specs.Image.{listing}
use Rattle.mo_image.proofs.image.texts_in.Goals as goal

pub texts_of-requires : goal.texts_of-requires
texts_of-requires c =
    let at = c.requires.extents.1 in
    record {
      image = c.requires.image;
      within = omega (arith, at.within, at.long c.in-Some.ensures.some.0, c.in-Some.ensures.some.1);
    }

pub returns-in-Some : goal.returns-in-Some
returns-in-Some c i at =
    let bytes = c.args.bytes.now in
    subst (λ (j : ℕ). AreTextsOf bytes (length (listing bytes)) j c.texts_of.result)
    (c.in-Some.ensures.some.1 ∙ at.long c.in-Some.ensures.some.0) c.texts_of.ensures.texts

pub returns-in-None : goal.returns-in-None
returns-in-None c i at =
    let bytes = c.args.bytes.now in
    rw c.unpacked.ensures (at.short c.in-None.ensures.none)
