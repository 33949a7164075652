use Rattle.std.proofs.Common.{rules}
use Rattle.live_set.proofs.set.CatalogueSet.translated_with_nul_hinted.Goals as goal

pub returns : goal.returns
returns c = search rules
