use Rattle.std.proofs.Common.{◌<◌, arith}
use Rattle.std.proofs.lemmas.Str.{IsUtf8-between}
use Rattle.mo_tables.proofs.PartLemmas.{begins, ends}
use Rattle.mo_tables.proofs.stretch.is_text.Goals as goal

pub returns-then-is_char_boundary : goal.returns-then-is_char_boundary
returns-then-is_char_boundary c =
    let lt : c.args.start < c.args.end = omega (arith, c.requires.0, c.if-start-end.false) in (
      λ yes. IsUtf8-between c.args.text.now c.args.start c.args.end c.utf8.text c.requires.0
          (c.is_char_boundary.ensures.test.0 c.if-is_char_boundary.true)
          (c.is_char_boundary-then-is_char_boundary.ensures.test.0 yes),
      λ utf8. c.is_char_boundary-then-is_char_boundary.ensures.test.1
          (ends c.args.text.now c.args.start c.args.end c.utf8.text lt c.requires.1 utf8),
    )

pub returns-else-is_char_boundary : goal.returns-else-is_char_boundary
returns-else-is_char_boundary c =
    let lt : c.args.start < c.args.end = omega (arith, c.requires.0, c.if-start-end.false) in (
      λ yes. absurd cc,
      λ utf8. c.is_char_boundary.ensures.test.1 (begins c.args.text.now c.args.start c.args.end lt c.requires.1 utf8),
    )
