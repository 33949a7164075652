use Rattle.std.proofs.Common.{refl, []}
use Rattle.c_signature.proofs.PairLemmas.{both_on, both_end, no_value}
use Rattle.c_signature.proofs.pairs.have_same_arguments.Goals as goal

pub directives-init : goal.directives-init
directives-init c = rw (c.as_bytes-rest.ensures.value, c.as_bytes-others.ensures.value) (record {
  directives = [];
  twins = [];
  cut = refl;
  twin_cut = refl;
  same = ([], refl, refl);
})

pub directives-preserved : goal.directives-preserved
directives-preserved c =
    both_on c.args.first.now c.args.second.now c.directives.rest.now c.directives.others.now _ _
    c.in-Some-split_pair.after.now c.in-Some-split_pair.over.now c.directives.invariant c.in-Some.ensures
    c.in-Some-next_directive.ensures c.in-Some-split_pair.ensures

pub returns : goal.returns
returns c = λ e.
    both_end c.args.first.now c.args.second.now c.directives.rest.now c.directives.others.now c.directives.invariant
    c.in_default.ensures
    (rw (no_value c.next_directive-2.result c.is_none.result c.is_none.ensures e) at c.next_directive-2.ensures)
