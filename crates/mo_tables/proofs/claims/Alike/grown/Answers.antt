use Rattle.std.proofs.Common.{◌+◌, length, arith}
use Rattle.mo_tables.proofs.PartLemmas.{length-part}
use Rattle.mo_tables.proofs.KeyOrder.{more_alike, ends_there}
use Rattle.mo_tables.proofs.claims.Alike.grown.Goals as goal

pub returns-clause-alike : goal.returns-clause-alike
returns-clause-alike c =
    let bytes = c.args.bytes.now in
    let a = c.args.self in
    let behind = a.to + a.distance in
    more_alike bytes a c.args.limit c.alike_len-more.result c.requires.alike
    (omega (
      arith,
      c.alike_len-more.ensures.within.0,
      c.requires.limit,
      length-part bytes a.to c.args.limit c.requires.limit.0 c.requires.limit.1,
    ))
    (omega (
      arith,
      c.alike_len-more.ensures.within.1,
      c.requires.alike.within,
      length-part bytes behind (length bytes) c.requires.alike.within (omega arith),
    ))
    c.alike_len-more.ensures.alike

pub returns-clause-ends : goal.returns-clause-ends
returns-clause-ends c all = ends_there c.args.bytes.now c.args.self c.args.limit c.alike_len-more.result all
    c.alike_len-more.ensures.ends
