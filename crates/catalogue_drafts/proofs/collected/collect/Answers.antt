use Rattle.catalogue_drafts.proofs.Kit.{inl, inr, ap, rules, ◌∙◌, kind_of, is_kept, Outline, texts_of}
use Rattle.std.specs.Prelude.{is_some}
use Rattle.std.proofs.lemmas.Result.{err_from_is_err_and}
use Rattle.po_text.specs.Outcome.{body}
use Rattle.po_text.proofs.Outcomes.{faulty_refuses}
use Rattle.po_text.specs.declared.fault.PoFault.{PoFault}
use Rattle.po_checks.specs.declared.fault.LoadFault.{LoadFault}
use Rattle.catalogue_drafts.proofs.Collecting.{collects_none, collects_more, collects_all, kept_texts_are, text_refuses}
use Rattle.catalogue_drafts.proofs.collected.collect.Goals as goal

abbrev load_fault : PoFault → LoadFault
load_fault fault = record { kind = kind_of fault.kind; line = fault.line }

pub returns-in_err-reader-clause-err : goal.returns-in_err-reader-clause-err
returns-in_err-reader-clause-err c =
    let p = err_from_is_err_and c.from_residual.result c.from_residual.ensures.1 in
    let fault = c.in_err-reader.field-0.0 in
    rw (p.1, p.2)
    (inr (text_refuses c.args.text.now c.args.options fault.kind fault.line c.in_err-reader.ensures.err))

pub returns-in_err-next_entry-clause-err : goal.returns-in_err-next_entry-clause-err
returns-in_err-next_entry-clause-err c =
    let p = err_from_is_err_and c.from_residual-in_err-next_entry.result c.from_residual-in_err-next_entry.ensures.1 in
    let fault = c.in_err-next_entry.field-0.0 in
    rw (p.1, p.2) (elim (c.in_err-next_entry.ensures.fault (body c.args.text.now) c.entries.invariant.entries
    c.entries.invariant.read) [
      | inl e ↦ inl (ap load_fault e)
      | inr f ↦ inr (text_refuses c.args.text.now c.args.options fault.kind fault.line
          (faulty_refuses c.args.text.now fault.kind fault.line c.in_ok-reader.ensures.readable f))
    ])

pub entries-init : goal.entries-init
entries-init c = collects_none _ _ _ _ _ c.in_ok-reader.ensures.read c.new-drafts.ensures.items
    (c.new-findings.ensures c.args.options)

pub draft_in-requires : goal.draft_in-requires
draft_in-requires c =
    let inv = c.entries.invariant in
    (rw c.if-branch.true at (c.in_ok-next_entry.ensures.read (body c.args.text.now) inv.entries inv.read)).0

pub look_at_if-requires : goal.look_at_if-requires
look_at_if-requires c =
    let e = c.next_entry.new.into in
    c.is_kept.ensures ∙ ap (λ (r : Outline). is_some r.texts) c.in_ok-draft.ensures.draft
    ∙ kept_texts_are (is_kept c.args.options e) (texts_of e)

pub entries-preserved : goal.entries-preserved
entries-preserved c =
    let inv = c.entries.invariant in
    let goes = rw c.if-branch.true at (c.in_ok-next_entry.ensures.read (body c.args.text.now) inv.entries inv.read) in
    collects_more c.args.text.now c.args.options _ _ c.entries.drafts.items _ c.entries.findings c.look_at_if.new.self
    _ _ c.next_entry.new.into inv goes c.in_ok-draft.ensures.lawful (search rules) c.in_ok-push.ensures.items
    c.in_ok-draft.ensures.draft c.in_ok-look_at_if.ensures.ok

pub returns-clause-ok : goal.returns-clause-ok
returns-clause-ok c =
    let inv = c.entries.invariant in
    collects_all c.args.text.now c.args.options _ _ c.entries.drafts.items c.entries.findings c.next_entry.new.into
    c.in_ok-reader.ensures.readable inv (rw c.if-branch.false at
    (c.in_ok-next_entry.ensures.read (body c.args.text.now) inv.entries inv.read))
