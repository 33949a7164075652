use Rattle.any_charset.specs.Declaring.{charset_mark}
use Rattle.any_charset.proofs.Offsets.{one_offset}
use Rattle.any_charset.proofs.declared.declared.Goals as goal

pub returns-in_err-named-clause-declares : goal.returns-in_err-named-clause-declares
returns-in_err-named-clause-declares c = rw c.from_residual.ensures (λ charset renamed d.
    c.in_err-named.ensures.names d.at charset renamed d.names)

pub returns-else-leads_into_header-clause-declares : goal.returns-else-leads_into_header-clause-declares
returns-else-leads_into_header-clause-declares c = λ charset renamed d.
    let same = one_offset c.args.text.now charset_mark d.at c.in_ok-named.named.at d.names.first
    c.in_ok-named.ensures.names.first in
    let into = c.leads_into_header.ensures.1 (rw same at d.header) in
    absurd (cc (into, c.if-leads_into_header.false))
