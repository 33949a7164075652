use Rattle.std.proofs.Common.{rules, arith}
use Rattle.std.proofs.lemmas.Result.{IfOk-weaker, IfErr-weaker}
use Rattle.std.proofs.lemmas.List.Sorted.{IsNonDecreasingBy-from_sort_by_key}
use Rattle.c_signature.specs.declared.requests.Row.{Row}
use Rattle.c_signature.specs.Asked.{IsRising}
use Rattle.c_signature.proofs.RequestLemmas.{none_from, some_from, kept_in_order, kept_mixed}
use Rattle.c_signature.proofs.RequestLemmas.{kept_by_number, kept_has_none, invalid_weaker}
use Rattle.c_signature.proofs.requests.Requests.list.Goals as goal

pub returns-then-is_empty-clause-ok : goal.returns-then-is_empty-clause-ok
returns-then-is_empty-clause-ok c asked holds = kept_in_order asked c.args.self holds
    (none_from _ _ (omega (arith, c.args.self.numbered.ok.0)) c.if-is_empty.ensures)

pub returns-then-not-is_empty-clause-err : goal.returns-then-not-is_empty-clause-err
returns-then-not-is_empty-clause-err c asked holds kinds list =
    kept_mixed asked c.args.self kinds holds (some_from _ _ (omega (arith, c.args.self.unnumbered.ok.0))
    c.if-not-is_empty.ensures) (some_from _ _ (omega (arith, c.args.self.numbered.ok.0)) c.if-is_empty.ensures) list

pub list_rows-requires-clause-rising : goal.list_rows-requires-clause-rising
list_rows-requires-clause-rising c =
    let rising : IsRising c.sort_unstable_by_key.new.self.items = IsNonDecreasingBy-from_sort_by_key
    (λ (row : Row). row.number) _ c.sort_unstable_by_key.ensures.sorted (λ a r q k. search rules) in
    rw c.deref.ensures.value rising

pub returns-clause-ok : goal.returns-clause-ok
returns-clause-ok c = IfOk-weaker c.list_rows.result _ _ (λ kinds list asked holds.
    kept_by_number asked c.args.self c.deref.result.now kinds.items holds
    (none_from _ _ (omega (arith, c.args.self.unnumbered.ok.0)) c.if-not-is_empty.ensures)
    (rw c.deref.ensures.value c.sort_unstable_by_key.ensures.permutation) list) c.list_rows.ensures.ok

pub returns-clause-err : goal.returns-clause-err
returns-clause-err c = IfErr-weaker c.list_rows.result _ _ (λ fault refused. invalid_weaker fault _ _
    (λ none asked holds kinds list.
    kept_has_none asked c.args.self c.deref.result.now kinds holds
    (none_from _ _ (omega (arith, c.args.self.unnumbered.ok.0)) c.if-not-is_empty.ensures)
    (some_from _ _ (omega (arith, c.args.self.numbered.ok.0)) c.if-is_empty.ensures)
    (rw c.deref.ensures.value c.sort_unstable_by_key.ensures.permutation) none list) refused)
    c.list_rows.ensures.err
