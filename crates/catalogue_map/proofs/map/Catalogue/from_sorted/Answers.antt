use Rattle.catalogue_map.proofs.InStrings.{lists_none, lists_more}
use Rattle.catalogue_map.proofs.map.Catalogue.from_sorted.Goals as goal

pub messages-init : goal.messages-init
messages-init c = lists_none _ _ _ c.in_ok-strings.ensures.items c.into_iter-message-iterator.ensures.into_iter_gives.0
    c.requires

pub messages-preserved : goal.messages-preserved
messages-preserved c = lists_more _ _ _ _ _ c.in-Some.message _ c.messages.invariant c.in-Some.ensures.steps.0
    c.in_ok-push.ensures.items c.in_ok-into_strings.ensures
