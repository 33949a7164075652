use Rattle.mo_image.proofs.Kit.{with_nul, string_of}
use Rattle.mo_image.proofs.Writing.{piece_written, pool_split}
use Rattle.mo_image.proofs.writer.push_pool.Goals as goal

pub loop-i-preserved : goal.loop-i-preserved
loop-i-preserved g c =
    let m = g.L.EntryList.entries c.args.list.now in
    piece_written c.loop-i.out.items _ _ c.push_string.new.out.items
    (with_nul (string_of c.args.side c.strings_at.result)) _ c.loop-i.invariant
    (pool_split c.args.side m c.loop-i.i c.strings_at.result c.strings_at.ensures) c.in_ok-push_string.ensures
