use Rattle.mo_tables.proofs.Kit.{◌≡◌, ◌≢◌, ◌+◌, ◌++◌, ◌∷◌, [], length, arith, subst, sym, common_steps, AreFirsts}
use Rattle.mo_tables.specs.Blocks.{AreSame}
use Rattle.mo_tables.proofs.BlockLemmas.{one_more, number_of}
use Rattle.mo_tables.proofs.blocks.first_blocks.Goals as goal

pub loop-k-preserved : goal.loop-k-preserved
loop-k-preserved c =
    let bytes = c.args.bytes.now in
    let starts = c.args.starts.now in
    let firsts = c.loop-k.firsts.items in
    let number = c.unwrap_or.result in
    let new : number ≢ 0 → AreSame bytes starts (length firsts) number =
    rw (c.loop-k.invariant.count, c.unwrap_or.ensures) (number_of bytes starts c.loop-k.k c.first_like-first.result
    c.first_like-first.ensures) in
    let items : c.push.new.self.items ≡ firsts ++ number ∷ [] = grind (arith, common_steps) in
    record {
      count = omega (arith, c.loop-k.invariant.count, c.in_ok-push.ensures.len);
      are = subst (AreFirsts bytes starts) (sym items) (one_more bytes starts firsts number c.loop-k.invariant.are new);
    }
