use Rattle.mo_tables.proofs.Kit.{arith, part}
use Rattle.mo_tables.proofs.GapLemmas.{count_key, count_covered}
use Rattle.mo_tables.proofs.strings.Separators.lacks.Goals as goal

pub returns : goal.returns
returns c bytes known is e =
    let around = c.covers.ensures.0 e in
    omega (
      arith,
      count_key 4 (part bytes c.args.start c.args.end),
      count_covered bytes 4 c.args.start c.args.end c.args.self.now.none known.none is.0 is.1 around.0 around.1,
    )
