use Rattle.live_versions.proofs.Events.{never_falls, enters_no_less, sees_whole, enters_whole}
use Rattle.live_versions.proofs.law.versions_never_fall.Goals as goal

pub returns-clause-falls : goal.returns-clause-falls
returns-clause-falls c = never_falls

pub returns-clause-enters : goal.returns-clause-enters
returns-clause-enters c = enters_no_less

pub returns-clause-whole : goal.returns-clause-whole
returns-clause-whole c = sees_whole

pub returns-clause-entered : goal.returns-clause-entered
returns-clause-entered c = enters_whole
