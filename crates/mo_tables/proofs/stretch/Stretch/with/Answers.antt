use Rattle.mo_tables.proofs.Kit.{arith, subst, sym, IsUtf8}
use Rattle.mo_tables.proofs.PartLemmas.{inner}
use Rattle.mo_tables.proofs.stretch.Stretch.with.Goals as goal

pub returns-then-is_text : goal.returns-then-is_text
returns-then-is_text c = (
  c.requires.stretch,
  subst IsUtf8 (inner c.args.bytes.now c.args.self c.requires.stretch c.args.start c.args.end
      (omega (arith, c.if-start-self.false)) c.requires.part.0 (omega (arith, c.if-known-end.false)))
      (c.is_text.ensures.0 c.if-is_text.true),
)

pub returns-else-is_text : goal.returns-else-is_text
returns-else-is_text c whole =
    let yes = c.if-is_text.ensures.1 (subst IsUtf8 (sym (inner c.args.bytes.now c.args.self
    c.requires.stretch c.args.start c.args.end (omega (arith, c.if-start-self.false)) c.requires.part.0
    (omega (arith, c.if-known-end.false)))) whole) in
    absurd cc
