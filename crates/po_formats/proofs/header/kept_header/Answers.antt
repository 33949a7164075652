use Rattle.std.proofs.Common.{◌≡◌, inr, ap, refl, ◌∙◌, true, false}
use Rattle.std.specs.Prelude.{is_some, not}
use Rattle.std.proofs.lemmas.Result.{err_from_is_err_and}
use Rattle.po_text.specs.Outcome.{body}
use Rattle.po_formats.proofs.Gathering.{unread}
use Rattle.po_formats.proofs.HeaderLemmas.{finds_none, finds_more, finds_all}
use Rattle.po_formats.proofs.header.kept_header.Goals as goal

pub returns-in_err-reader-clause-err : goal.returns-in_err-reader-clause-err
returns-in_err-reader-clause-err c =
    let p = err_from_is_err_and c.from_residual.result c.from_residual.ensures.1 in
    let fault = c.in_err-reader.field-0.0 in
    rw (p.1, p.2) (inr (fault.kind, refl, c.in_err-reader.ensures.err))

pub returns-in_err-next_entry-clause-err : goal.returns-in_err-next_entry-clause-err
returns-in_err-next_entry-clause-err c =
    let p = err_from_is_err_and c.from_residual-in_err-next_entry.result c.from_residual-in_err-next_entry.ensures.1 in
    rw (p.1, p.2) (unread c.args.text.now c.in_err-next_entry.field-0.0 c.in_ok-reader.ensures.readable
    (c.in_err-next_entry.ensures.fault (body c.args.text.now) c.entries.invariant.entries c.entries.invariant.read))

pub entries-init : goal.entries-init
entries-init c = finds_none _ _ _ _ c.in_ok-reader.ensures.read refl

pub entries-preserved-then-is_none : goal.entries-preserved-then-is_none
entries-preserved-then-is_none c =
    let inv = c.entries.invariant in
    let empty : is_some c.entries.found ≡ false = c.is_none.ensures ∙ ap not c.if-is_none.true in
    finds_more c.args.text.now c.args.options _ _ c.entries.found _ c.next_entry.new.into inv
    (rw c.if-branch.true at (c.in_ok-next_entry.ensures.read (body c.args.text.now) inv.entries inv.read))
    (λ is. c.in_ok-found.ensures) (λ h is. absurd (cc (rw is at empty)))

pub entries-preserved : goal.entries-preserved
entries-preserved c =
    let inv = c.entries.invariant in
    let full : is_some c.entries.found ≡ true = c.is_none.ensures ∙ ap not c.if-is_none.false in
    finds_more c.args.text.now c.args.options _ _ c.entries.found _ c.next_entry.new.into inv
    (rw c.if-branch.true at (c.in_ok-next_entry.ensures.read (body c.args.text.now) inv.entries inv.read))
    (λ is. absurd (cc (rw is at full))) (λ h is. refl)

pub returns-clause-ok : goal.returns-clause-ok
returns-clause-ok c =
    let inv = c.entries.invariant in
    finds_all c.args.text.now c.args.options _ _ _ c.next_entry.new.into c.in_ok-reader.ensures.readable inv
    (rw c.if-branch.false at (c.in_ok-next_entry.ensures.read (body c.args.text.now) inv.entries inv.read))
