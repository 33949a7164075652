use Rattle.std.proofs.Common.{◌≡◌, ◌++◌, List, ℕ, map, arith, ap, ◌∙◌, append_assoc}
use Rattle.mo_image.proofs.Writing.{piece_written}
use Rattle.mo_dependent.specs.Splits.{texts}
use Rattle.mo_dependent.specs.Layout.{rows, word}
use Rattle.mo_dependent.proofs.Steps.{length-texts_next, descriptors_next, text_split}
use Rattle.mo_dependent.proofs.descriptors.push_descriptors.Goals as goal

pub push_word-requires : goal.push_word-requires
push_word-requires c = omega arith

pub texts-preserved : goal.texts-preserved
texts-preserved c =
    let names = map (λ n. n.now) c.args.names.now in
    let ts = texts c.args.dependents.now in
    let t = c.text_at.result.now in
    let grown : c.push_rows.new.out.items ≡ c.texts.out.items ++ (word c.texts.at ++ rows names t) =
    c.in_ok-at.ensures.rows ∙ ap (λ (x : List ℕ). x ++ rows names t) c.in_ok-push_word.ensures
    ∙ append_assoc c.texts.out.items (word c.texts.at) (rows names t) in
    record {
      told = rw c.in_ok-at.ensures.len (piece_written c.texts.out.items _ _ _ (word c.texts.at ++ rows names t) _
          c.texts.invariant.told (descriptors_next ts c.texts.i t c.text_at.ensures names c.texts.at) grown);
      placed = omega (arith, c.in_ok-at.ensures.len, length-texts_next ts c.texts.i t c.text_at.ensures);
    }

pub push_rows-requires-clause-splits : goal.push_rows-requires-clause-splits
push_rows-requires-clause-splits c =
    text_split c.args.dependents.now c.texts.i c.text_at.result.now c.requires.splits c.text_at.ensures

pub push_rows-requires-clause-small : goal.push_rows-requires-clause-small
push_rows-requires-clause-small c =
    omega (arith, length-texts_next (texts c.args.dependents.now) c.texts.i _ c.text_at.ensures)

pub overflow_add-at : goal.overflow_add-at
overflow_add-at c =
    let h = length-texts_next (texts c.args.dependents.now) c.texts.i _ c.text_at.ensures in
    omega (arith, c.in_ok-at.ensures.len)
