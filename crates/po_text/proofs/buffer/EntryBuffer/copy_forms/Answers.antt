use Rattle.std.proofs.Common.{List, ◌++◌, ◌∷◌, [], map, take, ap, sym, ◌∙◌, add-one, ℕ}
use Rattle.std.specs.Prelude.{string_bytes}
use Rattle.std.proofs.lemmas.List.{map-append}
use Rattle.po_text.proofs.Kept.{take_more}
use Rattle.po_text.proofs.buffer.EntryBuffer.copy_forms.Goals as goal

pub forms-preserved : goal.forms-preserved
forms-preserved c =
    let all = c.args.self.now.forms in
    let k = c.forms.k in
    let form = c.form.result.now in
    ap (map (λ s. string_bytes s)) c.in_ok-push.ensures.items
    ∙ map-append (λ s. string_bytes s) c.forms.forms.items (c.in_ok-form.form ∷ [])
    ∙ ap (λ (x : List ℕ). map (λ s. string_bytes s) c.forms.forms.items ++ (x ∷ [])) c.in_ok-form.ensures.ok
    ∙ ap (λ (x : List (List ℕ)). x ++ (form ∷ [])) c.forms.invariant
    ∙ take_more all k form c.form.ensures ∙ ap (λ (n : ℕ). take n all) (sym (add-one k))
