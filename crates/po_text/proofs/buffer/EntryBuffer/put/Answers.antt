use Rattle.po_text.proofs.Kit.{◌≡◌, ℕ, ◌++◌, ◌∷◌, [], refl, ap, ◌∙◌, arith, length, Lines, Entry, stage_view, draft_of}
use Rattle.po_text.proofs.Kit.{new_form}
use Rattle.po_text.specs.Building.{lines_with_form}
use Rattle.po_text.proofs.Kept.{form_kept, form_put}
use Rattle.po_text.proofs.buffer.EntryBuffer.put.Goals as goal

pub put_text-requires-clause-lawful : goal.put_text-requires-clause-lawful
put_text-requires-clause-lawful c = (rw c.in-Text.is at (c.requires 0)).0

pub invariant_of-self-in-Str : goal.invariant_of-self-in-Str
invariant_of-self-in-Str c =
    let b = c.self-in-Str.inside in
    let at : c.push.new.self.items ≡ b.starts.items ++ (length b.forms.items ∷ []) = c.in_ok-push-in-Str.ensures.items
    ∙ ap (λ (n : ℕ). b.starts.items ++ (n ∷ [])) (omega (arith, c.len.ensures, b.forms.ok.0)) in
    form_kept c.lines_after-self-inside.result b _ c.args.self.now c.self-in-Str.view_is c.self-in-Str.invariant
    (rw at refl)

pub returns-in_ok-push-in-Str : goal.returns-in_ok-push-in-Str
returns-in_ok-push-in-Str c k =
    let b = c.self-in-Str.inside in
    let e = c.args.self.now in
    let p = stage_view c.args.stage k in
    let at : c.push.new.self.items ≡ b.starts.items ++ (length b.forms.items ∷ []) = c.in_ok-push-in-Str.ensures.items
    ∙ ap (λ (n : ℕ). b.starts.items ++ (n ∷ [])) (omega (arith, c.len.ensures, b.forms.ok.0)) in
    let lines : c.lines_after-self-inside.result ≡ lines_with_form p c.args.line (draft_of e).lines
    = c.lines_after-self-inside.ensures k
    ∙ ap (λ (x : Entry). lines_with_form p c.args.line (draft_of x).lines) c.self-in-Str.view_is in
    rw c.in-Str.is (form_put c.lines_after-self-inside.result b _ e c.self-in-Str.view_is c.self-in-Str.invariant
    (invariant_of-self-in-Str c) (rw at refl) ∙ ap (λ (l : Lines). new_form l (draft_of e)) lines)
