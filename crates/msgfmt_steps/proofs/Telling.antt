-- Lines on the error output, one after another.
use Rattle.std.proofs.Common.{◌≡◌, ℕ, subst}
use Rattle.msgfmt_steps.specs.RunDevices.{Change}
use Rattle.msgfmt_steps.specs.StepEnds.{EndsTelling}
use Rattle.msgfmt_steps.specs.declared.outcome.Cause.{Cause}

-- from one state to another
abbrev pub between : {Seen : Type 0} → Seen → Seen → Change Seen
between old new = record { before = old; after = new }

pub tells_later : (a b c : ℕ) (cause : Cause) → b ≡ a → EndsTelling (between b c) cause
    → EndsTelling (between a c) cause
tells_later a b c cause is h = subst (λ x. EndsTelling (between x c) cause) is h
