use Rattle.std.proofs.Common.{sym, ◌∙◌}
use Rattle.std.proofs.lemmas.Bool.{false≢true}
use Rattle.po_checks.proofs.Checking.{plural_is, plurals_more, plurals_skip}
use Rattle.po_checks.proofs.plurals.Plurals.look_at.Goals as goal

pub returns-then-is_some : goal.returns-then-is_some
returns-then-is_some c =
    plurals_more c.args.entry.now c.args.self.now c.add.new.self c.form_count.result c.line.result c.add.ensures
    c.form_count.ensures.count c.line.ensures
    (sym (plural_is c.plural.result c.args.entry.now.plural c.is_some.result c.plural.ensures c.is_some.ensures)
    ∙ c.if-is_some.true)

pub returns-else-is_some : goal.returns-else-is_some
returns-else-is_some c = plurals_skip c.args.entry.now c.args.self.now
    (λ plural. false≢true (sym c.if-is_some.false ∙ plural_is c.plural.result c.args.entry.now.plural c.is_some.result
    c.plural.ensures c.is_some.ensures ∙ plural))
