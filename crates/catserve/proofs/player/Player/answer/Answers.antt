use Rattle.catserve.proofs.Common.{arith, refl, rules}
use Rattle.catserve.proofs.player.Player.answer.Goals as goal

pub returns-in-Err-clause-fault : goal.returns-in-Err-clause-fault
returns-in-Err-clause-fault g c = rw (← c.self.view_is) (record {
  lines = c.finish.new.output.items;
  store = c.finish.new.publisher;
  finishes = c.in_ok-finish.ensures.ok;
  front = rw c.as_slice.ensures.value at c.in-Err.ensures.front;
  failed = c.in-Err.ensures.cause;
})

pub returns-in-Ok-clause-ok : goal.returns-in-Ok-clause-ok
returns-in-Ok-clause-ok g c = rw (← c.self.view_is) (
  record {
    lines = c.finish.new.output.items;
    finishes = c.in_ok-finish.ensures.ok;
    ready = c.in_ok-finish.ensures.ready;
    count = omega (arith, c.in_ok-finish.ensures.count, c.finish.new.desks.ok, c.self.inside.desks.ok);
    held = search rules;
    begun = refl;
    written = rw c.as_slice.ensures.value at c.in-Ok.ensures.bytes;
    steady = c.in-Ok.ensures.steady;
  },
  rw c.as_slice.ensures.value at c.in-Ok.ensures.logged,
)
