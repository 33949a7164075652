use Rattle.std.proofs.Common.{◌≡◌, []}
use Rattle.devices.specs.Waiting.{StillCounts, Waits}
use Rattle.devices.specs.Incoming.{HasEnds}
use Rattle.devices.proofs.LineCounting.{HasCounted}
use Rattle.devices.proofs.incoming.LineInput.lines_end.Given as goal

abbrev pub invariant-lines : goal.invariant-lines
invariant-lines g l = HasCounted (g.R.Source.remaining l.fn.reader) (g.R.Source.remaining l.reader)
    (g.R.Source.failures l.fn.reader) (g.R.Source.failures l.reader) (g.R.Source.reads l.fn.reader)
    (g.R.Source.reads l.reader) l.counted l.fn.self l.self l.from l.end l.most
    × (HasEnds l.count l.fn.self l.from → (l.reader ≡ l.fn.reader) × (l.self ≡ l.fn.self))
    × Waits (g.R.Device.log l.fn.reader) (g.R.Device.log l.reader) l.fn.self l.self []
    (StillCounts l.count l.fn.self l.from)
    × (g.R.Device.output l.reader ≡ g.R.Device.output l.fn.reader)
