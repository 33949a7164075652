use Rattle.std.proofs.Common.{ap, ◌∙◌}
use Rattle.live_set.specs.Asks.{maps_named}
use Rattle.live_set.specs.LanguageList.{named_locales}
use Rattle.live_set.specs.Sets.{map_in}
use Rattle.live_loads.specs.Batches.{joined_loads}
use Rattle.live_versions.specs.Entering.{visit_of}
use Rattle.live_loads.proofs.Looking.{same_maps}
use Rattle.live_versions.proofs.pinned.Pinned.languages.Goals as goal

pub returns : goal.returns
returns c =
    let domain = c.args.domain.now in
    let languages = c.args.languages.now in
    c.languages.ensures ∙ ap (λ set. maps_named (map_in set.held) domain languages) c.set.ensures
    ∙ same_maps (joined_loads (visit_of c.args.self.now).batches) domain (named_locales languages)
