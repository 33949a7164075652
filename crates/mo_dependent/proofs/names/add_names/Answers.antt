use Rattle.std.proofs.Common.{length, map, ap, ◌∙◌, arith}
use Rattle.mo_dependent.specs.Splits.{name_at}
use Rattle.mo_dependent.specs.Segments.{add_name}
use Rattle.mo_dependent.proofs.Steps.{use_numbered, lies_at}
use Rattle.mo_dependent.proofs.names.add_names.Goals as goal

pub name_at-requires-clause-some : goal.name_at-requires-clause-some
name_at-requires-clause-some c = (lies_at c.args.text.now c.splits.i c.split_at.result c.requires c.split_at.ensures).0

pub name_at-requires-clause-within : goal.name_at-requires-clause-within
name_at-requires-clause-within c =
    let h = lies_at c.args.text.now c.splits.i c.split_at.result c.requires c.split_at.ensures in
    omega (arith, ap length c.as_slice.ensures.value)

pub splits-preserved : goal.splits-preserved
splits-preserved c =
    use_numbered c.args.text.now c.splits.i c.split_at.result (map (λ n. n.now) c.splits.names.items) _ _
    c.split_at.ensures c.splits.invariant
    (c.in_ok-add_name.ensures ∙ ap (add_name (map (λ n. n.now) c.splits.names.items))
    (c.name_at.ensures ∙ ap (λ b. name_at b c.split_at.result) c.as_slice.ensures.value))
