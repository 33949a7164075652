use Rattle.std.proofs.Common.{◌≡◌, ◌≤◌, length}
use Rattle.kuit_formats.specs.KuitTags.{behind_value}
use Rattle.kuit_formats.proofs.attributes.after_value.Given as goal

abbrev pub invariant-bytes : goal.invariant-bytes
invariant-bytes l = record {
  same : behind_value l.quote l.rest ≡ behind_value l.quote l.text;
  within : length l.rest ≤ length l.text;
}

abbrev pub decreases-bytes : goal.decreases-bytes
decreases-bytes l = length l.rest
