use Rattle.std.proofs.Common.{rules}
use Rattle.live_versions.proofs.store.open_store.Goals as goal

pub returns-in_default-clause-bad_count : goal.returns-in_default-clause-bad_count
returns-in_default-clause-bad_count g c = search rules

pub returns-in_default-new-clause-bad_count : goal.returns-in_default-new-clause-bad_count
returns-in_default-new-clause-bad_count g c = search rules

pub returns-then-is_err-clause-bad_count : goal.returns-then-is_err-clause-bad_count
returns-then-is_err-clause-bad_count g c = search rules

pub returns-in-Ok-new_readers-clause-readers : goal.returns-in-Ok-new_readers-clause-readers
returns-in-Ok-new_readers-clause-readers g c = search rules

pub returns-in-Ok-new_readers-clause-counted : goal.returns-in-Ok-new_readers-clause-counted
returns-in-Ok-new_readers-clause-counted g c = search rules

pub returns-in-Err-clause-bad_count : goal.returns-in-Err-clause-bad_count
returns-in-Err-clause-bad_count g c = search rules
