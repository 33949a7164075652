use Rattle.std.proofs.Common.{◌≡◌, ◌+◌, ◌*◌, arith}
use Rattle.mo_image.proofs.Writing.{piece_written}
use Rattle.mo_dependent.specs.Splits.{texts}
use Rattle.mo_dependent.specs.Layout.{descriptor_len, word}
use Rattle.mo_dependent.proofs.Steps.{lens_next, pointers_next}
use Rattle.mo_dependent.proofs.descriptors.push_pointers.Goals as goal

pub push_word-requires : goal.push_word-requires
push_word-requires c = omega arith

pub overflow_mul-at : goal.overflow_mul-at
overflow_mul-at c = omega (arith, lens_next (texts c.args.dependents.now) c.texts.i _ c.text_at.ensures)

pub overflow_add-at : goal.overflow_add-at
overflow_add-at c = omega (arith, lens_next (texts c.args.dependents.now) c.texts.i _ c.text_at.ensures)

pub overflow_add-at-in-texts : goal.overflow_add-at-in-texts
overflow_add-at-in-texts c = omega (arith, lens_next (texts c.args.dependents.now) c.texts.i _ c.text_at.ensures)

pub texts-preserved : goal.texts-preserved
texts-preserved c =
    let ts = texts c.args.dependents.now in
    let t = c.text_at.result.now in
    let next : c.texts.at + (12 + 8 * c.split_count.result) ≡ c.texts.at + descriptor_len t = omega arith in
    record {
      told = rw next (piece_written c.texts.out.items _ _ _ (word c.texts.at) _ c.texts.invariant.told
          (pointers_next ts c.texts.i t c.text_at.ensures c.texts.at) c.in_ok-push_word.ensures);
      placed = omega (arith, lens_next ts c.texts.i t c.text_at.ensures);
    }
