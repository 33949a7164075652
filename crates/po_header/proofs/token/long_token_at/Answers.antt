use Rattle.po_header.proofs.TokenLemmas.{Begins-long}
use Rattle.po_header.proofs.token.long_token_at.Goals as goal

pub returns-in-Some-long_token-clause-some : goal.returns-in-Some-long_token-clause-some
returns-in-Some-long_token-clause-some c = Begins-long _ _ _ _ _ _ c.in-Some.ensures c.in-Some-split_byte.ensures
    c.in-Some-long_token.ensures
