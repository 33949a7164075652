use Rattle.catserve.proofs.Common.{◌≡◌, ◌∙◌, ◌++◌, ◌∷◌, [], None, ap, arith, map-append, Desk, readers_of}
use Rattle.catserve.proofs.Turns.{takes_one, takes_all}
use Rattle.catserve.proofs.Asked.{opens_more}
use Rattle.catserve.proofs.asking.open_desks.Goals as goal

pub readers-preserved : goal.readers-preserved
readers-preserved c =
    let at = c.readers in
    let x = c.in-Some.reader in
    let desk : Desk = record { reader = x; queries = c.new.result; answers = c.new-in-readers.result; fault = None } in
    let items : c.push.new.self.items ≡ at.desks.items ++ desk ∷ [] = c.in_ok-push.ensures.items in
    record {
      taken = takes_one x at.invariant.taken c.in-Some.ensures.steps.0 (omega (arith, c.in-Some.ensures.steps.1));
      readers = ap readers_of items ∙ map-append (λ (d : Desk). d.reader) at.desks.items (desk ∷ [])
          ∙ ap (λ rs. rs ++ x ∷ []) at.invariant.readers;
      free = rw items (opens_more at.desks.items desk at.invariant.free c.new.ensures.items);
    }

pub returns : goal.returns
returns c =
    let at = c.readers in
    let all = takes_all at.invariant.taken c.in-None.ensures.steps.0
    ∙ c.into_iter-reader-iterator.ensures.into_iter_gives.0 in (at.invariant.readers ∙ all, at.invariant.free)
