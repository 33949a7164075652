use Rattle.std.proofs.Common.{◌≡◌, ◌≤◌, ◌-◌, length, take, Some}
use Rattle.std.specs.List.{fold}
use Rattle.python_format.specs.PythonPieces.{open_after}
use Rattle.python_format.proofs.parts.name_len.Given as goal

abbrev pub invariant-bytes : goal.invariant-bytes
invariant-bytes l = record {
  within : l.offset ≤ length l.text;
  small : l.depth ≤ l.offset;
  depth : fold open_after (Some 0) (take l.offset l.text) ≡ Some l.depth;
}

abbrev pub decreases-bytes : goal.decreases-bytes
decreases-bytes l = length l.text - l.offset
