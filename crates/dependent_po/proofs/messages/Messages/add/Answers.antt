use Rattle.std.proofs.Common.{refl, sym, ◌∙◌}
use Rattle.dependent_po.proofs.PartLemmas.{dependent_added, static_added}
use Rattle.dependent_po.proofs.messages.Messages.add.Goals as goal

pub returns-in_ok-push : goal.returns-in_ok-push
returns-in_ok-push c = dependent_added c.args.entry.now c.in_ok-message.message c.args.self.now _
    c.in_ok-message.ensures (sym c.has_split.ensures ∙ c.if-has_split.true) c.in_ok-push.ensures.items refl

pub returns-in_ok-push-2 : goal.returns-in_ok-push-2
returns-in_ok-push-2 c = static_added c.args.entry.now c.in_ok-message.message _ c.args.self.now _
    c.in_ok-message.ensures (sym c.has_split.ensures ∙ c.if-has_split.false) c.into_strings.ensures
    c.in_ok-push-2.ensures.items refl
