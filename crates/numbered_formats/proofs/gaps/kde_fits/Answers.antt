use Rattle.std.proofs.Common.{◌∙◌}
use Rattle.numbered_formats.proofs.IndexLemmas.{gaps_are}
use Rattle.numbered_formats.proofs.gaps.kde_fits.Goals as goal

pub returns : goal.returns
returns c = c.leaves_out_one.ensures ∙ gaps_are c.in_ok-index.index c.args.asked.now c.largest-last.result
    c.in_ok-index.ensures c.largest-last.ensures
