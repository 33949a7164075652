use Rattle.std.proofs.Common.{inl}
use Rattle.devices.proofs.adapters.WritingSink.write_all.Goals as goal

pub returns-in-Err-clause-logged : goal.returns-in-Err-clause-logged
returns-in-Err-clause-logged g c = inl tt
