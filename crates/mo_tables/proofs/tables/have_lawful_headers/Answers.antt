use Rattle.mo_tables.proofs.Kit.{List, ℕ, ◌+◌, ◌*◌, arith, subst, sym, IsUtf8, string_at, before_nul, HasLawfulHeader}
use borrow.Author.Count.{below_more}
use Rattle.mo_tables.proofs.Cuts.{front_utf8}
use Rattle.mo_tables.proofs.tables.have_lawful_headers.Goals as goal

pub has_lawful_header-requires : goal.has_lawful_header-requires
has_lawful_header-requires g c =
    let P : List ℕ → Type 0 = λ t. IsUtf8 (before_nul t) in
    subst P (sym c.string-translation.ensures) (front_utf8 0 _ (omega arith)
    (c.requires.texts.each c.loop-i.i c.loop-i-test.true).utf8)

pub loop-i-preserved : goal.loop-i-preserved
loop-i-preserved g c =
    let number = g.T.ByteOrder.number_of in
    let bytes = c.args.bytes.now in
    let P : ℕ → Type 0 = λ k. HasLawfulHeader (string_at number bytes (c.args.originals + 8 * k))
    (string_at number bytes (c.args.translations + 8 * k)) in
    let lawful : HasLawfulHeader c.string-original.result.now c.string-translation.result.now =
    c.has_lawful_header.ensures.0 c.if-not-has_lawful_header.false in
    let here : P c.loop-i.i = rw (c.string-original.ensures, c.string-translation.ensures) at lawful in
    below_more P c.loop-i.i c.loop-i.invariant here
