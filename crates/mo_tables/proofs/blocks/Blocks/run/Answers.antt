use Rattle.mo_tables.proofs.Kit.{◌≡◌, ◌+◌, length, get_or, arith, refl, subst, common_steps, part, AreAlike}
use Rattle.mo_tables.proofs.BlockLemmas.{copied}
use Rattle.mo_tables.proofs.blocks.Blocks.run.Goals as goal

pub returns : goal.returns
returns c bytes are =
    let starts = c.args.self.now.starts.items in
    let firsts = c.args.self.now.firsts.items in
    let i = c.args.i in
    let j = c.args.j in
    let n = c.alike_numbers-n.result in
    let from : get_or starts i 0 ≡ c.in_ok-from.field-0.now = grind (arith, common_steps) in
    let other : get_or starts j 0 ≡ c.in_ok-other.field-0.now = grind (arith, common_steps) in
    let to : get_or starts (i + n) 0 ≡ c.in_ok-to.field-0.now = grind (arith, common_steps) in
    let here : c.in_ok-get.field-0.now ≡ part firsts i (length firsts) = grind (arith, common_steps) in
    let there : c.in_ok-get-2.field-0.now ≡ part firsts j (length firsts) = grind (arith, common_steps) in
    let alike : AreAlike (part firsts i (length firsts)) (part firsts j (length firsts)) n =
    subst (λ l. AreAlike l (part firsts j (length firsts)) n) here
    (subst (λ l. AreAlike c.in_ok-get.field-0.now l n) there c.alike_numbers-n.ensures.alike) in
    let one = copied bytes starts firsts are.firsts c.args.distance i j n alike (omega (arith, c.if-n-eq0.false))
    (omega (arith, from, other, c.if-branch-distance.false, c.in_ok-checked_sub.ensures)) in
    (rw (← from, ← to) one, refl)
