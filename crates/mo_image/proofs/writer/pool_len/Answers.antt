use Rattle.std.proofs.Common.{arith}
use Rattle.mo_image.proofs.Writing.{length-pool_split}
use Rattle.mo_image.proofs.writer.pool_len.Goals as goal

pub string_len-requires : goal.string_len-requires
string_len-requires g c =
    let m = g.L.EntryList.entries c.args.list.now in
    omega (
      arith,
      c.loop-i.invariant,
      c.requires,
      length-pool_split c.args.side m c.loop-i.i c.strings_at.result
          c.strings_at.ensures,
    )

pub overflow_add-len : goal.overflow_add-len
overflow_add-len g c =
    let m = g.L.EntryList.entries c.args.list.now in
    omega (
      arith,
      c.loop-i.invariant,
      c.requires,
      c.string_len.ensures,
      length-pool_split c.args.side m c.loop-i.i
          c.strings_at.result c.strings_at.ensures,
    )

pub overflow_add-len-in-loop-i : goal.overflow_add-len-in-loop-i
overflow_add-len-in-loop-i g c =
    let m = g.L.EntryList.entries c.args.list.now in
    omega (
      arith,
      c.loop-i.invariant,
      c.requires,
      c.string_len.ensures,
      length-pool_split c.args.side m c.loop-i.i
          c.strings_at.result c.strings_at.ensures,
    )

pub loop-i-preserved : goal.loop-i-preserved
loop-i-preserved g c =
    let m = g.L.EntryList.entries c.args.list.now in
    omega (
      arith,
      c.loop-i.invariant,
      c.string_len.ensures,
      length-pool_split c.args.side m c.loop-i.i
          c.strings_at.result c.strings_at.ensures,
    )
