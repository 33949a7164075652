use Rattle.std.proofs.Common.{arith, length, lit≤}
use Rattle.std.proofs.lemmas.Int.Digits.{length-digits_of-le}
use Rattle.test_catalogue.proofs.search.is_found_in_ten.Goals as goal

pub returns-then-eq : goal.returns-then-eq
returns-then-eq g c =
    let ten = length-digits_of-le 2 10 (length c.args.catalogue.now) (lit≤ tt) (omega (arith, c.requires)) in
    omega (arith, c.find_counted.ensures.cost.cost, ten)

pub returns-else-eq : goal.returns-else-eq
returns-else-eq g c =
    let ten = length-digits_of-le 2 10 (length c.args.catalogue.now) (lit≤ tt) (omega (arith, c.requires)) in
    omega (arith, c.find_counted.ensures.cost.cost, ten)

pub returns-in-None : goal.returns-in-None
returns-in-None g c =
    let ten = length-digits_of-le 2 10 (length c.args.catalogue.now) (lit≤ tt) (omega (arith, c.requires)) in
    omega (arith, c.find_counted.ensures.cost.cost, ten)
