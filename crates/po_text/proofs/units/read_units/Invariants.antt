use Rattle.std.proofs.Common.{◌≤◌, length}
use Rattle.std.specs.Prelude.{IsTrue}
use Rattle.po_text.specs.Clean.{KeepsClean}
use Rattle.po_text.specs.Lexing.{TakesUnits}
use Rattle.po_text.proofs.units.read_units.Given as goal

abbrev pub invariant-units : goal.invariant-units
invariant-units l = record {
  taken : TakesUnits l.initial.out.items l.out.items l.text l.rest;
  shorter : length l.rest ≤ length l.text;
  clean : IsTrue l.is_clean → KeepsClean l.text l.rest l.initial.out.items l.out.items;
}

abbrev pub decreases-units : goal.decreases-units
decreases-units l = length l.rest
