use Rattle.std.proofs.Common.{rules}
use Rattle.std.proofs.lemmas.Result.{IfOk-weaker, IfErr-weaker}
use Rattle.std.proofs.lemmas.List.Sorted.{IsNonDecreasingBy-from_sort_by_key}
use Rattle.std.specs.Option.{unwrap_or}
use Rattle.c_macros.specs.MacroScanning.{IsRising, Request}
use Rattle.c_macros.proofs.ListLemmas.{sorted_lists, sorted_has_none, invalid_weaker}
use Rattle.c_macros.proofs.requests.list_numbered.Goals as goal

pub by_number-requires : goal.by_number-requires
by_number-requires c =
    let rising : IsRising c.sort_unstable_by_key.new.self.items = IsNonDecreasingBy-from_sort_by_key
    (λ (r : Request). unwrap_or r.number 0) _ c.sort_unstable_by_key.ensures.sorted (λ a r q k. search rules) in
    record { rising = rw c.deref.ensures.value rising }

pub returns-clause-ok : goal.returns-clause-ok
returns-clause-ok c = IfOk-weaker c.by_number.result _ _ (λ kinds list. sorted_lists c.args.asked.items
    c.deref.result.now kinds.items (rw c.deref.ensures.value c.sort_unstable_by_key.ensures.permutation) list)
    c.by_number.ensures.ok

pub returns-clause-err : goal.returns-clause-err
returns-clause-err c = IfErr-weaker c.by_number.result _ _ (λ fault refused. invalid_weaker fault _ _
    (λ none kinds list. sorted_has_none c.args.asked.items c.deref.result.now kinds
    (rw c.deref.ensures.value c.sort_unstable_by_key.ensures.permutation) c.requires none list) refused)
    c.by_number.ensures.err
