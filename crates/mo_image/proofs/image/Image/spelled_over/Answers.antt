use Rattle.std.proofs.Common.{sym, subst, ap, ◌∙◌}
use Rattle.mo_image.specs.Image.{IsImage, listing}
use Rattle.mo_image.proofs.ImageFacts.{listing_again, spelling_image}
use Rattle.mo_image.proofs.image.Image.spelled_over.Goals as goal

pub invariant_of-result : goal.invariant_of-result
invariant_of-result g c = subst IsImage (sym c.in_ok-bytes.ensures)
    (spelling_image (g.L.EntryList.entries c.args.list.now) c.requires)

pub returns : goal.returns
returns g c = ap listing c.in_ok-bytes.ensures ∙ listing_again (g.L.EntryList.entries c.args.list.now) c.requires
