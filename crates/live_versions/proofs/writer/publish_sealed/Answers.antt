use Rattle.std.proofs.Common.{◌≡◌, ap, ◌∙◌, drop, fold, ◌∷◌, [], ◌++◌, length, arith, ◌+◌}
use Rattle.live_set.specs.Sets.{with_load}
use Rattle.live_loads.specs.Batches.{version_of}
use Rattle.live_versions.specs.Changes.{loads_of}
use Rattle.live_versions.proofs.Changes.{fold-sealed}
use Rattle.live_versions.proofs.Steps.{publishes}
use Rattle.live_loads.proofs.Joining.{version-add}
use Rattle.live_versions.proofs.writer.publish_sealed.Goals as goal

pub publish_as-requires : goal.publish_as-requires
publish_as-requires g c next is =
    let w = c.args.writer in
    let x = w.desk.shown.value in
    let items = drop w.behind w.log.items in
    let f = c.args.seal.now.value in
    let now : record { set = next.set; seen = next.seen } ≡ record
    { set = fold with_load x.set (loads_of items); seen = f } = is
    ∙ fold-sealed (record { set = x.set; seen = x.seen }) items f c.requires.sealed in
    let grown : next.seen.batches ≡ x.seen.batches ++ loads_of items ∷ [] = ap (λ t. t.seen.batches) now
    ∙ ap (λ z. z.batches) c.requires.bound in
    let more : version_of (x.seen.batches ++ loads_of items ∷ [])
    ≡ version_of x.seen.batches + length (loads_of items) = version-add x.seen.batches (loads_of items) in
    publishes _ _ x next (loads_of items) (ap (λ s. s.set) now) (ap (λ s. s.seen) now ∙ c.requires.bound)
    c.requires.some (omega (arith, ap version_of grown, more, c.requires.room))

pub returns-clause-sum : goal.returns-clause-sum
returns-clause-sum g c = let w = c.args.writer in ap (λ z. version_of z.batches) c.requires.bound
    ∙ version-add w.desk.shown.value.seen.batches (loads_of (drop w.behind w.log.items))
