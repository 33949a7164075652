use Rattle.mo_image.proofs.Writing.{piece_written}
use Rattle.mo_dependent.specs.Splits.{texts, text_of}
use Rattle.mo_dependent.proofs.Steps.{texts_next, text_split}
use Rattle.mo_dependent.proofs.descriptors.text_pool.Goals as goal

pub texts-preserved : goal.texts-preserved
texts-preserved c =
    piece_written c.texts.out.items _ _ c.push_text.new.out.items (text_of c.text_at.result.now) _ c.texts.invariant
    (texts_next (texts c.args.dependents.now) c.texts.i c.text_at.result.now c.text_at.ensures)
    c.in_ok-push_text.ensures

pub push_text-requires : goal.push_text-requires
push_text-requires c =
    text_split c.args.dependents.now c.texts.i c.text_at.result.now c.requires.splits c.text_at.ensures
