use Rattle.mo_image.proofs.Kit.{sym, ap, Entry}
use Rattle.mo_image.proofs.FormLists.{form_count_is}
use Rattle.mo_image.proofs.entry.EntryRef.form_count.Goals as goal

pub returns-clause-count : goal.returns-clause-count
returns-clause-count c = form_count_is c.self.inside.translation.now c.args.self.now.forms _ c.nul_count.ensures
    (ap (λ (e : Entry). e.forms) (sym c.self.view_is))
