use Rattle.std.proofs.Common.{sym}
use Rattle.po_header.proofs.TokenLemmas.{Begins-short, byte_stray}
use Rattle.po_header.proofs.token.token_at.Goals as goal

pub returns-in-Some-short_token-clause-some : goal.returns-in-Some-short_token-clause-some
returns-in-Some-short_token-clause-some c = Begins-short _ _ _ _ c.in-Some-split_byte.ensures c.in_default.ensures.none
    c.in-Some-short_token.ensures

pub returns-in-None-clause-none : goal.returns-in-None-clause-none
returns-in-None-clause-none c =
    byte_stray _ _ _ c.in-Some-split_byte.ensures c.requires c.in_default.ensures.none
    (sym c.if-is_ascii_digit.ensures.value) c.in-None.ensures
