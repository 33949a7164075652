use Rattle.std.proofs.Common.{◌≡◌, ◌+◌, ◌++◌, take}
use Rattle.c_macros.specs.MacroSplits.{flag_splits}
use Rattle.c_macros.proofs.splitting.add_flags.Given as goal

abbrev pub invariant-flags : goal.invariant-flags
invariant-flags l = record {
  place : l.at ≡ l.start + l.flag-index;
  items : l.parts.items ≡ l.initial.parts.items ++ flag_splits l.start (take l.flag-index l.flags);
}
