use Rattle.po_header.proofs.Kit.{◌≡◌, ℕ, true, false, ap, ◌∙◌, sym, subst, refl, inr, ◌==◌, stack_of, node_tree}
use Rattle.po_header.proofs.Kit.{tree_at_end}
use Rattle.std.specs.Option.{option_map}
use Rattle.po_header.specs.Stack.{finish_at}
use Rattle.po_header.proofs.FrameLemmas.{ended-none, ended-some}
use Rattle.po_header.proofs.parse.finish_node.Goals as goal

pub returns-then-is_empty-clause-ok : goal.returns-then-is_empty-clause-ok
returns-then-is_empty-clause-ok c =
    ap (λ o. finish_at (stack_of c.args.waiting.now.items) (option_map node_tree o)) c.in-Some.is
    ∙ ap tree_at_end c.in_ok-node.ensures ∙ ended-none c.join_above.new.waiting.items _
    (subst (λ (n : ℕ). true ≡ (n == 0)) c.join_above.new.waiting.ok.0 (sym c.if-is_empty.true ∙ c.is_empty.ensures))

pub returns-else-is_empty-clause-err : goal.returns-else-is_empty-clause-err
returns-else-is_empty-clause-err c =
    inr (
      refl,
      ap (λ o. finish_at (stack_of c.args.waiting.now.items) (option_map node_tree o)) c.in-Some.is
          ∙ ap tree_at_end c.in_ok-node.ensures ∙ ended-some c.join_above.new.waiting.items _
          (subst (λ (n : ℕ). false ≡ (n == 0)) c.join_above.new.waiting.ok.0
          (sym c.if-is_empty.false ∙ c.is_empty.ensures)),
    )
