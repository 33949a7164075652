use Rattle.std.proofs.Common.{◌≡◌, ◌∷◌, ◌++◌, Bool, List, ℕ, OnOk, subst, ap, ◌∙◌}
use Rattle.std.proofs.lemmas.Result.{on_ok_weaker}
use Rattle.po_writing.specs.Steps.{behind_quote, empty_part, is_several}
use Rattle.po_writing.proofs.Steps.{text_pushed}
use Rattle.po_writing.proofs.literals.push_text.Goals as goal

pub returns : goal.returns
returns c =
    let several : c.has_several_lines.result ≡ is_several c.args.text.now = c.has_several_lines.ensures
    ∙ ap is_several c.as_bytes.ensures.value in
    on_ok_weaker c.push_lines.result (text_pushed c.args.escape c.args.text.now c.args.out.now.items
    c.push.new.self.items c.push_empty_part.new.out.items c.push_lines.new.out.items c.in_ok-push.ensures.items
    (c.in_ok-push_empty_part.ensures ∙ ap (λ (k : Bool). c.push.new.self.items ++ empty_part k) several))
    (subst (λ (t : List ℕ). OnOk c.push_lines.result (c.push_lines.new.out.items ≡ c.push_empty_part.new.out.items ++ 34
    ∷ behind_quote c.args.escape t)) c.as_bytes-2.ensures.value c.push_lines.ensures)
