use Rattle.std.proofs.Common.{rules, sym, subst}
use Rattle.std.specs.List.{AllByRecursion}
use Rattle.mo_dependent.specs.Splits.{HasSplits, IsSplit}
use Rattle.mo_dependent.proofs.Steps.{drop_found}
use Rattle.mo_dependent.proofs.split.are_split.Goals as goal

pub messages-preserved : goal.messages-preserved
messages-preserved c =
    let m = c.message_at-message.result.now in
    let original : HasSplits m.original = search rules in
    let translation : HasSplits m.translation = search rules in
    λ rest. c.messages.invariant (subst (AllByRecursion IsSplit)
    (sym (drop_found c.args.dependents.now c.messages.i m c.message_at-message.ensures))
    ((original, translation), rest))
