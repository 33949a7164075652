use Rattle.std.proofs.Common.{◌∙◌}
use Rattle.po_header.proofs.PartLemmas.{Builds-part}
use Rattle.po_header.proofs.parts.add.Goals as goal

pub returns : goal.returns
returns c = Builds-part c.args.parts.now.items _ c.args.part _ (c.len-i.ensures ∙ c.args.parts.now.ok.0)
    c.in_ok-push.ensures.items
