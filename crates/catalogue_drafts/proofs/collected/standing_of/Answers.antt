use Rattle.std.proofs.Common.{rules}
use Rattle.catalogue_drafts.proofs.collected.standing_of.Goals as goal

pub returns-then-is_fuzzy : goal.returns-then-is_fuzzy
returns-then-is_fuzzy c = search rules
