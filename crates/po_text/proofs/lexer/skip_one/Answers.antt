use Rattle.po_text.proofs.GapLemmas.{one_blank, one_line_end}
use Rattle.po_text.proofs.lexer.skip_one.Goals as goal

pub returns-then-byte-eq32-clause-gap : goal.returns-then-byte-eq32-clause-gap
returns-then-byte-eq32-clause-gap c = λ flags.
    one_blank flags _ c.in_ok-byte.byte _ _ c.in_ok-byte.ensures c.if-byte-eq32.true

pub returns-then-byte-eq10-clause-gap : goal.returns-then-byte-eq10-clause-gap
returns-then-byte-eq10-clause-gap c = λ flags.
    one_line_end flags _ c.in_ok-byte.byte _ _ c.in_ok-byte.ensures c.if-byte-eq10.true
