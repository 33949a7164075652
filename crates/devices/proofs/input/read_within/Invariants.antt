use Rattle.std.proofs.Common.{◌<◌, ◌≤◌, length}
use Rattle.std.specs.Io.KnownBytes.{Consumes}
use Rattle.devices.specs.Devices.{RisesBy}
use Rattle.devices.proofs.input.read_within.Given as goal

abbrev pub invariant-loop-turn : goal.invariant-loop-turn
invariant-loop-turn g l = record {
  taken : Consumes (g.R.Source.remaining l.fn.reader) (g.R.Source.remaining l.reader) l.bytes.items;
  within : length l.bytes.items ≤ l.limit;
  room : 0 < length l.chunk;
  later : g.R.Source.failures l.fn.reader ≤ g.R.Source.failures l.reader;
  reads : RisesBy l.turn (g.R.Source.reads l.fn.reader) (g.R.Source.reads l.reader);
}
