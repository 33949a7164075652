use Rattle.java_formats.specs.JavaReading.{waiting_texts, weight}
use Rattle.java_formats.proofs.ReadingLemmas.{HasReadAll}
use Rattle.java_formats.proofs.format.signature.Given as goal

abbrev pub invariant-nested : goal.invariant-nested
invariant-nested l = HasReadAll l.text l.found

abbrev pub decreases-nested : goal.decreases-nested
decreases-nested l = weight (waiting_texts l.found.pending.items)
