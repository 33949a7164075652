use Rattle.entry_search.proofs.Kit.{ap, sym, ◌∙◌, Less}
use Rattle.std.specs.Ordering.{ordering_then}
use Rattle.std.proofs.lemmas.List.{take_rest}
use Rattle.mo_image.proofs.KeyParts.{cmp_shorter, cmp_parts}
use Rattle.entry_search.proofs.keys.cmp_in_context.Goals as goal

pub returns-then-text-n : goal.returns-then-text-n
returns-then-text-n c = c.then.ensures ∙ ap (λ o. ordering_then o Less) c.cmp.ensures
    ∙ sym (cmp_shorter c.args.text.now c.args.context.now 4 c.args.id.now c.if-text-n.true)

pub returns : goal.returns
returns c = cmp_parts c.args.text.now c.args.context.now c.args.id.now _ _ _ _ _ _ c.if-text-n.false
    (take_rest c.args.text.now _) c.cmp-2.ensures c.cmp-3.ensures c.cmp-4.ensures c.then-2.ensures c.then-3.ensures
