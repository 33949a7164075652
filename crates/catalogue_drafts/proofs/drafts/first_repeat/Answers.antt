use Rattle.catalogue_drafts.proofs.Repeats.{first_none, first_more, first_all}
use Rattle.catalogue_drafts.proofs.drafts.first_repeat.Goals as goal

pub pairs-init : goal.pairs-init
pairs-init c = first_none _

pub pairs-preserved : goal.pairs-preserved
pairs-preserved c = first_more _ _ _ _ _ _ c.pairs.auto.i c.pairs-test.true c.index-drafts-i.is
    c.index-drafts-i-in-pairs.is c.earlier-first.ensures c.pairs.invariant

pub returns : goal.returns
returns c = first_all _ _ _ c.pairs-test.false c.pairs.invariant
