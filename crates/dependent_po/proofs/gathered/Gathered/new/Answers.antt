use Rattle.std.proofs.Common.{refl}
use Rattle.dependent_po.proofs.gathered.Gathered.new.Goals as goal

pub returns : goal.returns
returns c options = record {
  messages = c.new.ensures;
  findings = c.new-2.ensures options;
  mismatch = λ checked. tt;
  standings = c.new-3.ensures.items;
  header = refl;
}
