use Rattle.std.proofs.Common.{◌-◌, ◌≤◌, length}
use Rattle.std.specs.String.{string_bytes}
use Rattle.charsets.proofs.OneMore.{IsReadTo}
use Rattle.charsets.proofs.reading.decode.Given as goal

abbrev pub invariant-characters : goal.invariant-characters
invariant-characters g l = (l.at ≤ length l.bytes) × IsReadTo l.charset l.bytes (string_bytes l.text) l.at

abbrev pub decreases-characters : goal.decreases-characters
decreases-characters g l = length l.bytes - l.at
