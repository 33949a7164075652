use Rattle.std.proofs.Common.{rules}
use Rattle.std.proofs.lemmas.List.Sorted.{answers_always}
use Rattle.catalogue_map.specs.Accepted.{is_below}
use Rattle.catalogue_map.proofs.Accepting.{rises_decided}
use Rattle.catalogue_map.proofs.accepts.keys_rise.Goals as goal

pub returns : goal.returns
returns c = rises_decided c.args.messages.now _ (c.is_sorted_by.ensures.cases is_below
    (answers_always _ _ _ (λ f a r q k. search rules)))
