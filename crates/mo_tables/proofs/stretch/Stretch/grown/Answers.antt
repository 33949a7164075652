use Rattle.mo_tables.proofs.Kit.{◌≡◌, ◌+◌, ◌-◌, length, sym, ap, ◌∙◌, arith, part}
use Rattle.mo_tables.proofs.PartLemmas.{length-part, front_utf8, rest_utf8, both_utf8, more_utf8}
use Rattle.mo_tables.proofs.stretch.Stretch.grown.Goals as goal

pub returns-then-not-is_text : goal.returns-then-not-is_text
returns-then-not-is_text c whole =
    let yes = c.if-not-is_text.ensures.1 (front_utf8 c.args.bytes.now c.args.self c.requires.stretch
    c.args.start c.args.end c.requires.begins.0 c.requires.begins.1 c.requires.ends c.requires.part.1 whole) in
    absurd cc

pub returns-in_default : goal.returns-in_default
returns-in_default c whole = c.in_default.ensures (rest_utf8 c.args.bytes.now c.args.self c.requires.stretch
    c.args.start c.args.end c.requires.begins.0 c.requires.begins.1 c.requires.ends c.requires.part.1
    (c.is_text.ensures.0 c.if-not-is_text.false) whole)

pub from_utf8_unchecked-text-requires : goal.from_utf8_unchecked-text-requires
from_utf8_unchecked-text-requires c = more_utf8 c.args.bytes.now c.args.self c.requires.stretch
    c.args.start c.args.end c.requires.begins.0 c.requires.begins.1 c.requires.ends c.requires.part.1 c.in-Ok.ensures.1

pub returns : goal.returns
returns c =
    let s = c.args.self in
    let text = c.from_utf8_unchecked-text.result in
    let long : length text.now ≡ c.args.end - s.start = ap length c.from_utf8_unchecked-text.ensures
    ∙ length-part c.args.bytes.now s.start c.args.end (omega
    (arith, c.requires.begins, c.requires.part.0)) c.requires.part.1 in
    let there : s.start + length text.now ≡ c.args.end = omega (arith, long, c.requires.begins, c.requires.part.0) in (
      record {
        within = omega (arith, there, c.requires.part.1);
        same = c.from_utf8_unchecked-text.ensures ∙ ap (part c.args.bytes.now s.start) (sym there);
        utf8 = c.from_utf8_unchecked-text.utf8;
      },
      both_utf8 c.args.bytes.now s c.requires.stretch c.args.start c.args.end c.requires.begins.0 c.requires.begins.1
          c.requires.ends c.requires.part.1 (c.is_text.ensures.0 c.if-not-is_text.false) c.in-Ok.ensures.1,
    )
