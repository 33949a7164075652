use Rattle.std.proofs.Common.{◌≡◌, ◌≤◌, length}
use Rattle.kuit_formats.specs.KuitBytes.{behind_mark}
use Rattle.kuit_formats.proofs.bytes.after_mark.Given as goal

abbrev pub invariant-bytes : goal.invariant-bytes
invariant-bytes l = record {
  same : behind_mark l.mark l.rest ≡ behind_mark l.mark l.text;
  within : length l.rest ≤ length l.text;
}

abbrev pub decreases-bytes : goal.decreases-bytes
decreases-bytes l = length l.rest
