use Rattle.std.proofs.Common.{List, ℕ, ◌∷◌, ap, ◌∙◌}
use Rattle.java_formats.specs.declared.Sort.{Sort}
use Rattle.java_formats.specs.declared.reading.Text as code_text
use Rattle.java_formats.specs.JavaReading.{waiting_texts}
use Rattle.java_formats.proofs.ReadingLemmas.{waiting_push}
use Rattle.java_formats.proofs.reading.add_pending.Goals as goal

pub returns-in_ok-push : goal.returns-in_ok-push
returns-in_ok-push c =
    let old = c.args.pending.now.items in
    rw c.in-Some.is (ap (λ (texts : List code_text.Text). waiting_texts texts) c.in_ok-push.ensures.items
    ∙ waiting_push old c.in_ok-nested_text.field-0
    ∙ ap (λ (text : Sort × List ℕ). text ∷ waiting_texts old) c.in_ok-nested_text.ensures)
