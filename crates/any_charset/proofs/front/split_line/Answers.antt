use Rattle.std.proofs.Common.{◌≡◌, ◌+◌, ◌-◌, length, take, drop, refl, arith}
use Rattle.std.proofs.lemmas.List.{length-drop, take_all}
use Rattle.any_charset.proofs.LineParts.{first_line, last_line}
use Rattle.any_charset.proofs.front.split_line.Goals as goal

pub returns-then-at-text-clause-lines : goal.returns-then-at-text-clause-lines
returns-then-at-text-clause-lines c =
    let text = c.args.text.now in
    let at = c.offset_of-at.result in
    let all : take (length text - (at + 1)) (drop (at + 1) text) ≡ drop (at + 1) text = take_all
    (length text - (at + 1)) (drop (at + 1) text) (omega (arith, length-drop (at + 1) text)) in
    rw all (first_line text (take at text) (drop (at + 1) text) at c.offset_of-at.ensures.offset c.if-at-text.true refl
    refl)

pub returns-else-at-text-clause-lines : goal.returns-else-at-text-clause-lines
returns-else-at-text-clause-lines c = last_line c.args.text.now c.offset_of-at.result c.offset_of-at.ensures.offset
    (omega (arith, c.if-at-text.false, c.offset_of-at.ensures.within))
