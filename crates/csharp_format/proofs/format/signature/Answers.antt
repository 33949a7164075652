use Rattle.std.proofs.Common.{ℕ, List, sym, subst}
use Rattle.numbered_arguments.specs.declared.Numbered.{Numbered}
use Rattle.csharp_format.proofs.CSharpItemLemmas.{piece_shorter}
use Rattle.csharp_format.proofs.CSharpTextLemmas.{HasRead, read_nothing, reads_on, read_all, unreadable, is_nil}
use Rattle.csharp_format.proofs.CSharpTextLemmas.{not_nil}
use Rattle.csharp_format.proofs.format.signature.Goals as goal

pub pieces-init : goal.pieces-init
pieces-init c = subst (λ (asked : List Numbered). HasRead c.args.text.now c.args.text.now asked)
    (sym c.new-asked.ensures.items) (read_nothing c.args.text.now)

pub returns-in_default-clause-err : goal.returns-in_default-clause-err
returns-in_default-clause-err c = unreadable c.args.text.now c.pieces.rest.now c.pieces.asked.items
    c.pieces.invariant c.in_default.ensures
    (not_nil c.pieces.rest.now c.is_empty.result c.is_empty.ensures c.pieces-test.true)

pub pieces-smaller : goal.pieces-smaller
pieces-smaller c = piece_shorter c.pieces.rest.now (c.in-Some.number, c.in-Some.after.now) (sym c.in-Some.ensures)

pub pieces-preserved : goal.pieces-preserved
pieces-preserved c = reads_on c.args.text.now c.pieces.rest.now c.in-Some.after.now c.in-Some.number
    c.pieces.asked.items c.add.new.asked.items c.pieces.invariant (sym c.in-Some.ensures) c.in_ok-add.ensures

pub returns-clause-ok : goal.returns-clause-ok
returns-clause-ok c = read_all c.args.text.now c.pieces.asked.items
    (subst (λ (rest : List ℕ). HasRead c.args.text.now rest c.pieces.asked.items)
    (is_nil c.pieces.rest.now c.is_empty.result c.is_empty.ensures c.pieces-test.false) c.pieces.invariant)
