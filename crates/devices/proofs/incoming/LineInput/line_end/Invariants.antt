use Rattle.std.proofs.Common.{◌≡◌, []}
use Rattle.devices.specs.Waiting.{StillWaits, Waits}
use Rattle.devices.specs.Incoming.{HasEnd}
use Rattle.devices.proofs.LineSeeking.{HasSearched}
use Rattle.devices.proofs.incoming.LineInput.line_end.Given as goal

abbrev pub invariant-loop-turn : goal.invariant-loop-turn
invariant-loop-turn g l = HasSearched (g.R.Source.remaining l.fn.reader) (g.R.Source.remaining l.reader)
    (g.R.Source.failures l.fn.reader) (g.R.Source.failures l.reader) (g.R.Source.reads l.fn.reader)
    (g.R.Source.reads l.reader) l.turn l.fn.self l.self l.from l.searched
    × (HasEnd l.fn.self l.from → (l.reader ≡ l.fn.reader) × (l.self ≡ l.fn.self))
    × Waits (g.R.Device.log l.fn.reader) (g.R.Device.log l.reader) l.fn.self l.self []
    (StillWaits l.fn.self l.from)
    × (g.R.Device.output l.reader ≡ g.R.Device.output l.fn.reader)
