use Rattle.po_text.proofs.Kit.{sym, take-append-drop}
use Rattle.po_text.proofs.EndLemmas.{ends_behind, text_ends}
use Rattle.po_text.proofs.open.skip_mark.Goals as goal

pub returns-then-eq-clause-ends : goal.returns-then-eq-clause-ends
returns-then-eq-clause-ends c utf8 =
    let text = c.args.text.now in
    ends_behind c.split_at.result.0.now _ text
    (rw (c.split_at.ensures.front, c.split_at.ensures.back) (sym (take-append-drop c.min.result text)))
    (text_ends text utf8)

pub returns-else-eq-clause-ends : goal.returns-else-eq-clause-ends
returns-else-eq-clause-ends c utf8 = text_ends c.args.text.now utf8
