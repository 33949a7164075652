use Rattle.entry_search.proofs.Kit.{◌≡◌, false, Option, Some, None, sym, ◌∙◌, subst, Slot, IndexValue, HasNoSlot}
use Rattle.std.proofs.Common.{Bor}
use Rattle.std.specs.Option.{is_some}
use Rattle.std.specs.Prelude.{IfNone}
use Rattle.entry_search.proofs.index.Index.is_shared.Goals as goal

when_none : (o : Option (Bor Slot)) (P : Type 0) → is_some o ≡ false → IfNone o P → P
when_none None P e none = none
when_none (Some slot) P e none = absurd cc

pub returns-then-not-is_empty : goal.returns-then-not-is_empty
returns-then-not-is_empty c e =
    subst (λ (v : IndexValue). HasNoSlot v.shared c.args.hash) c.self.view_is
    (when_none c.slot_of.result _ (sym c.is_some.ensures ∙ e) c.slot_of.ensures.none)
