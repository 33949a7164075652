use Rattle.mo_image.proofs.image.entry_in.Goals as goal

pub entry_of-requires : goal.entry_of-requires
entry_of-requires c = record {
  image = c.requires.image;
  extents = (c.requires.extents.0, c.texts_in.ensures c.requires.extents.0 c.requires.extents.1);
}

pub returns : goal.returns
returns c i at = c.entry_of.ensures i (c.texts_in.ensures i at)
