use Rattle.std.proofs.Common.{arith}
use Rattle.mo_tables.proofs.GapLemmas.{found, not_found}
use Rattle.mo_tables.proofs.gap.Gap.searched.Goals as goal

pub returns-then-end-gap : goal.returns-then-end-gap
returns-then-end-gap c = record {
  lacks = c.around-gap.ensures.known c.args.bytes.now c.args.byte c.requires.gap (omega (arith, c.requires.part));
  around = c.around-gap.ensures.around;
  found = λ here. absurd (omega (arith, here, c.if-end-gap.true));
}

pub returns-in-Some : goal.returns-in-Some
returns-in-Some c =
    let around = c.around-gap.ensures.around in
    found c.args.bytes.now c.args.byte c.args.start c.args.end c.around-gap.result
    (c.around-gap.ensures.known c.args.bytes.now c.args.byte c.requires.gap (omega (arith, c.requires.part))) around.0
    around.1 (omega (arith, c.if-end-gap.false)) c.requires.part.1 c.in-Some.k c.in-Some.ensures

pub returns-in-None : goal.returns-in-None
returns-in-None c =
    let around = c.around-gap.ensures.around in
    not_found c.args.bytes.now c.args.byte c.args.start c.args.end c.around-gap.result
    (c.around-gap.ensures.known c.args.bytes.now c.args.byte c.requires.gap (omega (arith, c.requires.part))) around.0
    around.1 (omega (arith, c.if-end-gap.false)) c.requires.part.1 c.in-None.ensures
