use Rattle.std.proofs.Common.{drop}
use Rattle.live_versions.specs.Changes.{loads_of}
use Rattle.live_versions.proofs.seal.bundle_of.Given as goal

abbrev pub ghosts-name_batch : goal.ghosts-name_batch
ghosts-name_batch a = record { loads = loads_of (drop a.writer.now.behind a.writer.now.log.items) }
