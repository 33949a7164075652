use Rattle.std.proofs.Common.{length}
use Rattle.po_text.specs.Lexing.{TakesGap}
use Rattle.po_text.proofs.lexer.gap_end.Given as goal

abbrev pub invariant-gap : goal.invariant-gap
invariant-gap l = TakesGap l.initial.flags l.initial.line l.text l.flags l.line l.rest

abbrev pub decreases-gap : goal.decreases-gap
decreases-gap l = length l.rest
