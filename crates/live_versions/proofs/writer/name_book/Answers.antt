use Rattle.std.proofs.Common.{◌≡◌, ap, ◌∙◌, fold}
use Rattle.live_versions.specs.StoreRule.{applied_to}
use Rattle.live_versions.proofs.Steps.{names_book}
use Rattle.live_versions.proofs.writer.name_book.Goals as goal

pub publish_as-requires : goal.publish_as-requires
publish_as-requires g c next is =
    let x = c.args.writer.desk.shown.value in
    let same : record { set = next.set; seen = next.seen } ≡ record { set = x.set; seen = x.seen } = is
    ∙ ap (λ l. fold applied_to (record { set = x.set; seen = x.seen }) l) c.requires in
    names_book _ _ x next (ap (λ s. s.set) same) (ap (λ s. s.seen) same)
