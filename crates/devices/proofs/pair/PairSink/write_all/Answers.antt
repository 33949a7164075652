use Rattle.devices.proofs.Logging.{gives_unlogged}
use Rattle.devices.proofs.pair.PairSink.write_all.Goals as goal

pub returns-clause-logged : goal.returns-clause-logged
returns-clause-logged g c = gives_unlogged c.args.bytes.now c.write_all.result
