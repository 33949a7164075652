use Rattle.std.proofs.lemmas.Result.{IfOk-weaker}
use Rattle.c_macros.proofs.SplitLemmas.{split_within}
use Rattle.c_macros.proofs.splitting.splits.Goals as goal

pub returns-clause-within : goal.returns-clause-within
returns-clause-within c = IfOk-weaker c.valid_parts.result _ _ (λ parts h. split_within c.args.side c.args.text.now
    parts.items h) c.valid_parts.ensures
