use Rattle.std.proofs.Common.{length}
use Rattle.std.specs.String.{string_bytes}
use Rattle.script_text.specs.Scanning.{HasRead}
use Rattle.script_text.proofs.field.read_text.Given as goal

abbrev pub invariant-escapes : goal.invariant-escapes
invariant-escapes l = HasRead l.field (string_bytes l.text) l.rest

abbrev pub decreases-escapes : goal.decreases-escapes
decreases-escapes l = length l.rest
