use Rattle.std.proofs.Common.{sym, ap, ◌∙◌}
use Rattle.std.specs.Ordering.{nat_cmp}
use Rattle.std.specs.Cmp.Lexicographic.{slice_cmp}
use Rattle.byte_text.proofs.Fronts.{by_fronts, tie_by_lengths}
use Rattle.byte_text.proofs.key.TextKeyOrd.cmp.Goals as goal

pub returns-then-self-other : goal.returns-then-self-other
returns-then-self-other c =
    c.cmp.ensures
    ∙ by_fronts _ _ _ _ c.self.invariant c.other.invariant c.if-self-other.true
    ∙ ap (λ k. slice_cmp nat_cmp k c.other.inside.text.now) c.self.view_is
    ∙ ap (slice_cmp nat_cmp c.args.self.now) c.other.view_is

pub returns-then-are_short : goal.returns-then-are_short
returns-then-are_short c =
    let short = c.are_short.ensures c.if-are_short.true in
    sym (tie_by_lengths _ _ _ _ c.self.invariant c.other.invariant c.if-self-other.false short.0 short.1)
    ∙ ap (λ k. slice_cmp nat_cmp k c.other.inside.text.now) c.self.view_is
    ∙ ap (slice_cmp nat_cmp c.args.self.now) c.other.view_is
