use Rattle.std.proofs.Common.{sym, arith}
use Rattle.std.proofs.lemmas.Str.{IsCharBoundary-after_ascii}
use Rattle.byte_text.proofs.Cutting.{byte_there, cut_is, cut_known, cut_nowhere, offset_within}
use Rattle.byte_text.proofs.cut.split_at_offset.Goals as goal

pub range-requires-clause-end_boundary : goal.range-requires-clause-end_boundary
range-requires-clause-end_boundary c =
    let there = byte_there c.args.byte c.args.text.now c.args.at c.requires.offset c.if-at-text.true in
    (omega (arith, c.if-at-text.true), (λ lt high. absurd (omega (arith, there, high, c.requires.ascii))))

pub range_from-requires : goal.range_from-requires
range_from-requires c =
    let there = byte_there c.args.byte c.args.text.now c.args.at c.requires.offset c.if-at-text.true in
    let boundary = IsCharBoundary-after_ascii c.args.text.now c.args.at c.utf8.text c.if-at-text.true
    (omega (arith, there, c.requires.ascii)) in
    λ _. boundary

pub returns-then-at-text-clause-cut : goal.returns-then-at-text-clause-cut
returns-then-at-text-clause-cut c =
    cut_is c.args.byte c.args.text.now c.range.result.now c.range_from.result.now
    (cut_known c.args.byte c.args.text.now c.range.result.now c.range_from.result.now c.args.at c.requires.offset
    c.if-at-text.true c.range.ensures.value c.range_from.ensures.value)

pub returns-then-at-text-clause-cases : goal.returns-then-at-text-clause-cases
returns-then-at-text-clause-cases c =
    cut_known c.args.byte c.args.text.now c.range.result.now c.range_from.result.now c.args.at c.requires.offset
    c.if-at-text.true c.range.ensures.value c.range_from.ensures.value

pub returns-else-at-text-clause-cases : goal.returns-else-at-text-clause-cases
returns-else-at-text-clause-cases c =
    omega (arith, c.requires.offset, c.if-at-text.false, offset_within c.args.byte c.args.text.now)

pub returns-else-at-text-clause-cut : goal.returns-else-at-text-clause-cut
returns-else-at-text-clause-cut c =
    sym (cut_nowhere c.args.byte c.args.text.now
    (omega (arith, c.requires.offset, c.if-at-text.false, offset_within c.args.byte c.args.text.now)))
