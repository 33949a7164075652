use Rattle.std.proofs.Common.{map, arith, sym, ◌∙◌}
use Rattle.mo_dependent.proofs.Steps.{index_here, index_later}
use Rattle.mo_dependent.proofs.names.index_of.Goals as goal

pub returns-then-is_same : goal.returns-then-is_same
returns-then-is_same c =
    let names = map (λ n. n.now) c.args.names.now in
    let same = sym c.is_same.ensures ∙ c.if-is_same.true in
    omega (arith, index_here names c.names.i c.name_of.result.now c.args.name.now c.name_of.ensures same)

pub names-preserved : goal.names-preserved
names-preserved c =
    let names = map (λ n. n.now) c.args.names.now in
    let other = sym c.is_same.ensures ∙ c.if-is_same.false in
    omega (arith, index_later names c.names.i c.name_of.result.now c.args.name.now c.name_of.ensures other)
