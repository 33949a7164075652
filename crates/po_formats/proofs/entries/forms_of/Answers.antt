use Rattle.std.proofs.Common.{List, ◌++◌, ◌∷◌, [], map, take, ap, sym, ◌∙◌, add-one, ℕ}
use Rattle.std.proofs.lemmas.List.{map-append}
use Rattle.po_text.proofs.Kept.{take_more}
use Rattle.po_formats.proofs.entries.forms_of.Goals as goal

pub forms-preserved : goal.forms-preserved
forms-preserved c =
    let all = c.args.entry.now.forms in
    let k = c.forms.k in
    let form = c.form.result.now in
    ap (map (λ s. s.now)) c.in_ok-push.ensures.items
    ∙ map-append (λ s. s.now) c.forms.forms.items (c.as_bytes.result ∷ [])
    ∙ ap (λ (x : List ℕ). map (λ s. s.now) c.forms.forms.items ++ (x ∷ [])) c.as_bytes.ensures.value
    ∙ ap (λ (x : List (List ℕ)). x ++ (form ∷ [])) c.forms.invariant
    ∙ take_more all k form c.form.ensures ∙ ap (λ (n : ℕ). take n all) (sym (add-one k))
