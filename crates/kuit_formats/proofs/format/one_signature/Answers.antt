use Rattle.numbered_formats.specs.declared.Notation.TheVariants.{Kde}
use Rattle.kuit_formats.proofs.format.one_signature.Goals as goal

pub returns : goal.returns
returns c = λ text asked others one other. c.one_signature.ensures Kde text asked others one.1 other.1
