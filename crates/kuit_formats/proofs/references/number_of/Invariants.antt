use Rattle.std.proofs.Common.{◌≡◌, ◌≤◌, take}
use Rattle.kuit_formats.specs.KuitReferences.{number_of}
use Rattle.kuit_formats.proofs.references.number_of.Given as goal

abbrev pub invariant-digits : goal.invariant-digits
invariant-digits l = record {
  is : l.number ≡ number_of l.base (take l.digit-index l.digits);
  small : l.number ≤ 0x11_0000;
}
