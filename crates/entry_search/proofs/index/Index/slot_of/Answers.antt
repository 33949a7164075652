use Rattle.entry_search.proofs.Kit.{subst, IndexValue, HasNoSlot}
use Rattle.std.specs.Prelude.{IfNone}
use Rattle.entry_search.proofs.index.Index.slot_of.Goals as goal

pub returns-clause-none : goal.returns-clause-none
returns-clause-none c =
    subst (λ (v : IndexValue). IfNone c.slot_of.result (HasNoSlot v.slots c.args.hash)) c.self.view_is
    c.slot_of.ensures.none
