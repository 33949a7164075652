use Rattle.std.proofs.Common.{ap, ◌∙◌, List, ℕ}
use denote.Ref.{Bor}
use Rattle.kuit_formats.specs.KuitReading.{waiting_names}
use Rattle.kuit_formats.proofs.ContentLemmas.{waiting_push}
use Rattle.kuit_formats.proofs.content.open_unless.Goals as goal

pub returns : goal.returns
returns c = rw c.if-empty.false (ap (λ (names : List (Bor (List ℕ))). waiting_names names) c.in_ok-push.ensures.items
    ∙ waiting_push c.args.opened.now.items c.args.name)
