use Rattle.std.proofs.Common.{◌≡◌, ◌+◌, ◌-◌, ◌*◌, ◌≤◌, take, get_or, arith}
use Rattle.std.proofs.lemmas.List.Sums.{fold_more}
use Rattle.byte_text.specs.Decimal.{decimal_value}
use Rattle.ruby_format.proofs.RubyPartLemmas.{digit_small}
use Rattle.ruby_format.proofs.parts.number_of.Goals as goal
use Rattle.ruby_format.proofs.parts.number_of.Goals.{then-number, else-number}

pub digits-preserved : goal.digits-preserved
digits-preserved c =
    let xs = c.args.digits.now in
    let i = c.digits.digit-index in
    let more : decimal_value (take (i + 1) xs) ≡ 10 * decimal_value (take i xs) + (get_or xs i 0 - 48) =
    fold_more (λ n d. 10 * n + (d - 48)) 0 xs i 0 c.digits-test.true in
    let small : get_or xs i 0 - 48 ≤ 9 = digit_small xs i c.digits-test.true c.requires in
    elim c.if-number.branch [
      | then-number w ↦ omega (arith, more, small, c.digits.invariant, w.number-is, w.if-number.true)
      | else-number w ↦ omega (arith, more, small, c.digits.invariant, w.number-is, w.if-number.false)
    ]
