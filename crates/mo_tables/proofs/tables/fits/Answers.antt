use Rattle.mo_tables.proofs.Kit.{arith, strings}
use Rattle.std.proofs.lemmas.Bool.{leb-true, le-leb}
use Rattle.mo_tables.proofs.RowLemmas.{length-file, length-strings}
use Rattle.mo_tables.proofs.tables.fits.Goals as goal

pub overflow_add-result-2 : goal.overflow_add-result-2
overflow_add-result-2 g c = omega (arith, c.requires.count, c.pool_len.ensures.small)

pub overflow_add-result-3 : goal.overflow_add-result-3
overflow_add-result-3 g c = omega (arith, c.requires.count, c.pool_len.ensures.small, c.pool_len-2.ensures.small)

pub returns : goal.returns
returns g c =
    let number = g.T.ByteOrder.number_of in
    let os = strings number c.args.bytes.now c.args.originals c.args.n in
    let ts = strings number c.args.bytes.now c.args.translations c.args.n in
    let total = length-file c.args.n os ts (length-strings number c.args.bytes.now c.args.originals c.args.n)
    (length-strings number c.args.bytes.now c.args.translations c.args.n) in (
      λ short. record {
        short = omega (
          arith,
          leb-true _ _ short,
          total,
          c.pool_len.ensures.value,
          c.pool_len-2.ensures.value,
        );
      },
      λ fits. le-leb _ _ (omega (arith, fits.short, total, c.pool_len.ensures.value, c.pool_len-2.ensures.value)),
    )
