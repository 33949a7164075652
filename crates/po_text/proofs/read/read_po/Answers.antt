use Rattle.po_text.proofs.Kit.{◌≡◌, List, ◌∷◌, [], ◌++◌, map, inl, inr, sym, ap, ◌∙◌, rules, err_from_is_err_and}
use Rattle.po_text.proofs.Kit.{map-append, body}
use Rattle.po_text.specs.Views.{Content, content, entry_view}
use Rattle.po_text.proofs.Outcomes.{faulty_refuses}
use Rattle.po_text.proofs.read.read_po.Goals as goal

pub returns-in_err-next_entry-clause-err : goal.returns-in_err-next_entry-clause-err
returns-in_err-next_entry-clause-err c =
    let p = err_from_is_err_and c.from_residual-in_err-next_entry.result c.from_residual-in_err-next_entry.ensures.1 in
    let fault = c.in_err-next_entry.field-0.0 in
    let (entries, has, same) = c.entries.invariant in
    rw (p.1, p.2) (elim (c.in_err-next_entry.ensures.fault (body c.args.text.now) entries has) [
      | inl e ↦ inl e
      | inr f ↦ inr (faulty_refuses c.args.text.now fault.kind fault.line c.in_ok-reader.ensures.readable f)
    ])

pub entries-preserved : goal.entries-preserved
entries-preserved c =
    let text = body c.args.text.now in
    let (entries, has, same) = c.entries.invariant in
    let (forms, had) = rw c.if-branch.true at (c.in_ok-next_entry.ensures.read text entries has) in
    let next = c.next_entry.new.into in
    let all : map entry_view c.push_copy.new.entries.items ≡ map content (entries ++ (next ∷ []))
    = c.in_ok-push_copy.ensures ∙ ap (λ (x : List Content). x ++ (content next ∷ [])) same
    ∙ sym (map-append content entries (next ∷ [])) in
    (entries ++ (next ∷ []), had, all)

pub returns-clause-ok : goal.returns-clause-ok
returns-clause-ok c = search rules
