use Rattle.po_text.proofs.Kit.{◌∙◌, sym, arith, is_word_byte}
use Rattle.po_text.proofs.LaneLemmas.{run_stops}
use Rattle.po_text.proofs.words.word_len.Goals as goal

pub returns-then-len-lt-LANES : goal.returns-then-len-lt-LANES
returns-then-len-lt-LANES c =
    let run = c.word_lanes-len.ensures in
    run ∙ sym (run_stops is_word_byte c.args.text.now 0 16 (omega arith) (omega (arith, run)))
