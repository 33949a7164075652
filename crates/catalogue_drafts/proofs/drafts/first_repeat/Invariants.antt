use Rattle.catalogue_drafts.specs.Drafts.{outline_if, outlines, FirstRepeat}
use Rattle.catalogue_drafts.proofs.drafts.first_repeat.Given as goal

abbrev pub invariant-pairs : goal.invariant-pairs
invariant-pairs l = FirstRepeat (outlines l.drafts) l.i (outline_if l.first)
