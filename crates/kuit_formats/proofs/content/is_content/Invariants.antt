use Rattle.std.proofs.Common.{length}
use Rattle.std.specs.Prelude.{◌↔◌}
use Rattle.kuit_formats.specs.KuitMarkup.{IsContent}
use Rattle.kuit_formats.specs.KuitReading.{Closes, waiting_names}
use Rattle.kuit_formats.proofs.content.is_content.Given as goal

abbrev pub invariant-tokens : goal.invariant-tokens
invariant-tokens l = IsContent l.text ↔ Closes (waiting_names l.opened.items) l.rest

abbrev pub decreases-tokens : goal.decreases-tokens
decreases-tokens l = length l.rest
