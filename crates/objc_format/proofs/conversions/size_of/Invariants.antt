use Rattle.std.proofs.Common.{◌≡◌, take}
use Rattle.std.specs.List.{fold}
use Rattle.c_signature.specs.declared.Size.TheVariants.{Plain}
use Rattle.objc_format.specs.ObjcConversions.{with_letter}
use Rattle.objc_format.proofs.conversions.size_of.Given as goal

abbrev pub invariant-letters : goal.invariant-letters
invariant-letters l = l.size ≡ fold with_letter Plain (take l.letter-index l.letters)
