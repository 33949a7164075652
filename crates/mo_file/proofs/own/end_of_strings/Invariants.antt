use Rattle.std.proofs.Common.{ℕ, ◌≤◌, ◌+◌, ◌-◌, ◌*◌, length}
use Rattle.mo_file.specs.Behind.{StandBehind}
use Rattle.mo_file.proofs.own.end_of_strings.Given as goal

abbrev pub invariant-loop-i : goal.invariant-loop-i
invariant-loop-i l = record {
  within : l.end ≤ length l.bytes;
  so_far : (last : ℕ) → StandBehind l.bytes (l.table + 8 * l.i) (l.n - l.i) l.end last
      → StandBehind l.bytes l.table l.n l.start last;
}
