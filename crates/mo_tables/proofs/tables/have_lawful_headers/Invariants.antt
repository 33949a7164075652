use Rattle.mo_tables.proofs.Kit.{ℕ, ◌+◌, ◌*◌, ◌<◌, string_at, HasLawfulHeader}
use Rattle.mo_tables.proofs.tables.have_lawful_headers.Given as goal

abbrev pub invariant-loop-i : goal.invariant-loop-i
invariant-loop-i g l =
    let number = g.T.ByteOrder.number_of in
    (k : ℕ) → k < l.i → HasLawfulHeader (string_at number l.bytes (l.originals + 8 * k))
    (string_at number l.bytes (l.translations + 8 * k))
