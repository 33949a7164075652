use Rattle.std.proofs.Common.{rules}
use Rattle.std.proofs.lemmas.Iterator.{YieldsList-from_slice}
use Rattle.std.proofs.lemmas.Iterator.Search.{all_from_yields_List}
use Rattle.c_macros.specs.MacroSplits.{is_macro}
use Rattle.c_macros.proofs.splitting.are_macros.Goals as goal

pub returns : goal.returns
returns c = all_from_yields_List is_macro _ _ _ c.all.ensures.ran (YieldsList-from_slice c.args.parts.now cc)
    (λ x b q k. search rules)
