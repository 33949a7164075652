use Rattle.std.specs.Prelude.{option_map}
use Rattle.java_formats.proofs.ReadingLemmas.{HasReadTo, rest_len}
use Rattle.java_formats.proofs.reading.Found.read.Given as goal

abbrev pub invariant-steps : goal.invariant-steps
invariant-steps l = HasReadTo l.sort l.fn.text (option_map (λ t. t.now) l.rest) l.fn.self l.self

abbrev pub decreases-steps : goal.decreases-steps
decreases-steps l = rest_len (option_map (λ t. t.now) l.rest)
