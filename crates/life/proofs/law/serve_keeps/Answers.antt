use Rattle.life.proofs.Serving.{serve_keeps}
use Rattle.life.proofs.law.serve_keeps.Goals as goal

pub returns : goal.returns
returns c = serve_keeps
