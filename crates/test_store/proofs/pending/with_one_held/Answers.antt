use Rattle.std.proofs.Common.{◌≡◌}
use Rattle.std.proofs.lemmas.List.Elements.{All-pop}
use Rattle.live_versions.specs.declared.reader.Lookups.{Lookups}
use Rattle.test_store.proofs.pending.with_one_held.Goals as goal

pub desks_of-requires : goal.desks_of-requires
desks_of-requires g c =
    (All-pop (λ (r : Lookups). r.book ≡ c.args.publisher.now.seen.book) c.args.readers.items c.pop.new.self.items
    c.pop.result c.pop.ensures.items c.requires.book).0
