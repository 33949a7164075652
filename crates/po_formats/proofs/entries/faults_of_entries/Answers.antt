use Rattle.std.proofs.Common.{inr, refl}
use Rattle.std.proofs.lemmas.Result.{err_from_is_err_and}
use Rattle.po_text.specs.Outcome.{body}
use Rattle.po_formats.proofs.Gathering.{gathers_none, gathers_more, gathers_all, unread}
use Rattle.po_formats.proofs.entries.faults_of_entries.Goals as goal

pub returns-in_err-reader-clause-err : goal.returns-in_err-reader-clause-err
returns-in_err-reader-clause-err c =
    let p = err_from_is_err_and c.from_residual.result c.from_residual.ensures.1 in
    let fault = c.in_err-reader.field-0.0 in
    rw (p.1, p.2) (inr (fault.kind, refl, c.in_err-reader.ensures.err))

pub returns-in_err-next_entry-clause-err : goal.returns-in_err-next_entry-clause-err
returns-in_err-next_entry-clause-err c =
    let p = err_from_is_err_and c.from_residual-in_err-next_entry.result c.from_residual-in_err-next_entry.ensures.1 in
    rw (p.1, p.2) (unread c.args.text.now c.in_err-next_entry.field-0.0 c.in_ok-reader.ensures.readable
    (c.in_err-next_entry.ensures.fault (body c.args.text.now) c.entries.invariant.entries c.entries.invariant.read))

pub entries-init : goal.entries-init
entries-init c = gathers_none _ _ _ _ _ c.in_ok-reader.ensures.read c.new-faults.ensures.items

pub entries-preserved : goal.entries-preserved
entries-preserved c =
    let inv = c.entries.invariant in
    gathers_more c.args.text.now c.args.options c.args.often.now _ _ _ _ c.next_entry.new.into inv
    (rw c.if-branch.true at (c.in_ok-next_entry.ensures.read (body c.args.text.now) inv.entries inv.read))
    c.in_ok-add_if_kept.ensures

pub returns-clause-ok : goal.returns-clause-ok
returns-clause-ok c =
    let inv = c.entries.invariant in
    gathers_all c.args.text.now c.args.options c.args.often.now _ _ _ c.next_entry.new.into
    c.in_ok-reader.ensures.readable inv
    (rw c.if-branch.false at (c.in_ok-next_entry.ensures.read (body c.args.text.now) inv.entries inv.read))
