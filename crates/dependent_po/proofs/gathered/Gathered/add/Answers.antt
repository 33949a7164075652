use Rattle.std.proofs.Common.{refl, sym, ◌∙◌}
use Rattle.dependent_po.proofs.GatherLemmas.{added, skipped}
use Rattle.dependent_po.proofs.gathered.Gathered.add.Goals as goal

pub returns-in_ok-add_kept : goal.returns-in_ok-add_kept
returns-in_ok-add_kept c = added c.args.options c.args.entry.now c.args.self.now _ _ _ c.look_at.new.self
    c.standing_of.result (sym c.is_kept.ensures.is ∙ c.if-is_kept.true) c.in_ok-look_at.ensures.ok c.standing_of.ensures
    refl c.in_ok-push.ensures.items refl refl refl c.in_ok-add_header.ensures c.in_ok-add_kept.ensures

pub returns-else-is_kept : goal.returns-else-is_kept
returns-else-is_kept c = skipped c.args.options c.args.entry.now c.args.self.now _ _ c.look_at.new.self
    c.standing_of.result (sym c.is_kept.ensures.is ∙ c.if-is_kept.false) c.in_ok-look_at.ensures.ok
    c.standing_of.ensures refl c.in_ok-push.ensures.items refl refl refl c.in_ok-add_header.ensures
