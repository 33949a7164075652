use Rattle.std.proofs.Common.{ℕ, List, false, ap}
use Rattle.devices.specs.Incoming.{Incoming}
use Rattle.devices.proofs.incoming.LineInput.new.Goals as goal

pub returns : goal.returns
returns c = let nothing_read : List ℕ → Incoming = λ left. record { left = left; ended = false } in ap nothing_read
    c.new.ensures.items
