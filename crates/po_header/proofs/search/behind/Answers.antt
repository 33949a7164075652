use Rattle.po_header.proofs.Kit.{ap, ◌∙◌, sym, option_copied}
use Rattle.po_header.proofs.TextLemmas.{behind_first-split, behind_first-none}
use Rattle.po_header.proofs.search.behind.Goals as goal

pub returns-in_err-after : goal.returns-in_err-after
returns-in_err-after c = ap option_copied c.from_residual.ensures
    ∙ sym (behind_first-none c.args.text.now c.args.word.now c.requires c.in_err-after.ensures.cases)

pub returns : goal.returns
returns c =
    let h = c.in_ok-after.ensures.cases in
    sym (behind_first-split c.args.word.now c.args.text.now c.in_ok-after.after.now h.0 h.1 c.requires h.2.0 h.2.1 h.4)
