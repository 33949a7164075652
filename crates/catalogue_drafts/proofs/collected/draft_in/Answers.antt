use Rattle.catalogue_drafts.proofs.Keying.{is_keyed}
use Rattle.catalogue_drafts.proofs.collected.draft_in.Goals as goal

pub invariant_of-result : goal.invariant_of-result
invariant_of-result c = record {
  keyed = is_keyed _ c.in_ok-key.key.now c.in_ok-share.kept.now _ _ _ c.in_ok-join.ensures.joined
      c.in_ok-word_of.ensures c.in_ok-join.ensures.utf8 c.front_of.ensures c.next_front_of.ensures;
}
