use Rattle.std.proofs.Common.{◌≡◌, ℕ, ◌+◌, ◌∙◌, add-one, ap, arith}
use Rattle.std.specs.Prelude.{if◌then◌else◌}
use Rattle.po_header.specs.Expr.{tree_of}
use Rattle.po_formats.specs.Often.{served_below, serves}
use Rattle.po_formats.proofs.often.numbers_served.Goals as goal

pub overflow_add-count : goal.overflow_add-count
overflow_add-count c = omega (arith, c.numbers.invariant.1, c.numbers.invariant.2, c.served-count.ensures.few)

pub numbers-preserved : goal.numbers-preserved
numbers-preserved c =
    let tree = tree_of c.args.expr.now in
    let form = c.args.form in
    let n = c.numbers.n in
    let next : served_below tree form (n + 1) ≡ served_below tree form n + (if serves tree form n then 1 else 0)
    = ap (λ (m : ℕ). served_below tree form m) (add-one n) in (
      omega (arith, c.numbers.invariant.0, c.served-count.ensures.is, next),
      omega (arith, c.numbers.invariant.1, c.served-count.ensures.few),
      omega (arith, c.numbers-test.true),
    )

pub returns-clause-is : goal.returns-clause-is
returns-clause-is c =
    let end : c.numbers.n ≡ 1001 = omega (arith, c.numbers.invariant.2, c.numbers-test.false) in
    c.numbers.invariant.0 ∙ ap (λ (m : ℕ). served_below (tree_of c.args.expr.now) c.args.form m) end
