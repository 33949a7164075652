use Rattle.librep_format.proofs.LibrepCountingLemmas.{goes_to, takes}
use Rattle.librep_format.proofs.counting.Counted.add.Goals as goal

pub returns-in_default : goal.returns-in_default
returns-in_default c = goes_to c.args.self.now c.args.directive c.unwrap_or-number.result c.in_default.is
    c.unwrap_or-number.ensures

pub returns : goal.returns
returns c = takes c.args.self.now c.take.new.self c.args.directive c.unwrap_or-number.result c.in-Some.kind c.in-Some.is
    c.unwrap_or-number.ensures c.in_ok-take.ensures
