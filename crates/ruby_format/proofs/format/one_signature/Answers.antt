use Rattle.ruby_format.proofs.RubyTextLemmas.{one_list}
use Rattle.ruby_format.proofs.format.one_signature.Goals as goal

pub returns : goal.returns
returns c = one_list
