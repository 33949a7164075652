use Rattle.std.proofs.Common.{arith}
use Rattle.mo_file.proofs.Spelt.{one_behind, none_seen, all_seen}
use Rattle.mo_file.proofs.own.end_of_strings.Goals as goal

pub loop-i-init : goal.loop-i-init
loop-i-init c = record {
  within = c.requires.start;
  so_far = λ last stand. none_seen c.args.bytes.now c.args.table
      c.args.n c.args.start last stand;
}

pub loop-i-preserved : goal.loop-i-preserved
loop-i-preserved c =
    let bytes = c.args.bytes.now in
    let i = c.loop-i.i in
    let lies = c.requires.lies.strings i c.loop-i-test.true in
    record {
      within = omega (arith, lies, c.word.ensures.value, c.word-in-loop-i.ensures.value, c.if-word-end.false);
      so_far = λ last stand. c.loop-i.invariant.so_far last (one_behind bytes c.args.table c.args.n i c.args.start
          c.loop-i.end c.word-in-loop-i.result last c.loop-i-test.true c.word.ensures.value c.if-word-end.false
          c.word-in-loop-i.ensures.value stand);
    }

pub returns-clause-within : goal.returns-clause-within
returns-clause-within c = c.loop-i.invariant.within

pub returns-clause-behind : goal.returns-clause-behind
returns-clause-behind c = c.loop-i.invariant.so_far c.loop-i.end
    (all_seen c.args.bytes.now c.args.table c.args.n c.loop-i.i c.loop-i.end c.loop-i-test.false)
