use Rattle.mo_image.proofs.Kit.{ap, sym, ◌∙◌, offset_of, with_nul}
use Rattle.mo_image.proofs.ImageFacts.{entry_facts}
use Rattle.mo_image.proofs.Extents.{piece_named, piece_held}
use Rattle.mo_image.proofs.Closing.{held_with_nul}
use Rattle.mo_image.proofs.image.entry_of.Goals as goal

pub text_in-requires : goal.text_in-requires
text_in-requires c =
    let bytes = c.args.bytes.now in
    let at = c.requires.extents.1 in
    piece_held bytes _ c.args.texts.now.original at.original
    (entry_facts bytes c.requires.extents.0 c.requires.image at.within).original

pub text_in-requires-2 : goal.text_in-requires-2
text_in-requires-2 c =
    let bytes = c.args.bytes.now in
    let at = c.requires.extents.1 in
    piece_held bytes _ c.args.texts.now.translation at.translation
    (entry_facts bytes c.requires.extents.0 c.requires.image at.within).translation

pub text_with_nul_in-requires : goal.text_with_nul_in-requires
text_with_nul_in-requires c =
    let bytes = c.args.bytes.now in
    let at = c.requires.extents.1 in
    let facts = entry_facts bytes c.requires.extents.0 c.requires.image at.within in
    held_with_nul bytes _ c.args.texts.now.translation at.translation facts.translation facts.with_nul

pub new-requires : goal.new-requires
new-requires c =
    let bytes = c.args.bytes.now in
    let at = c.requires.extents.1 in
    record {
      lawful = rw (
        c.text_in.ensures,
        c.text_in-2.ensures,
        piece_named bytes _ c.args.texts.now.original at.original,
        piece_named
            bytes _ c.args.texts.now.translation at.translation,
      )
          (entry_facts bytes c.requires.extents.0 c.requires.image at.within).lawful;
      key_len = at.key_len ∙ ap (offset_of 0)
          (sym (c.text_in.ensures ∙ piece_named bytes _ c.args.texts.now.original at.original));
      with_nul = c.text_with_nul_in.ensures ∙ ap with_nul (sym c.text_in-2.ensures);
    }

pub returns : goal.returns
returns c i at =
    let bytes = c.args.bytes.now in
    rw (
      c.new.ensures,
      c.text_in.ensures,
      c.text_in-2.ensures,
      piece_named bytes _ c.args.texts.now.original
          at.original,
      piece_named bytes _ c.args.texts.now.translation at.translation,
    )
    (entry_facts bytes i c.requires.image at.within).found
