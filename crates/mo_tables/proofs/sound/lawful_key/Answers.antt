use Rattle.std.proofs.Common.{◌+◌, arith}
use Rattle.std.proofs.lemmas.List.{take_rest}
use Rattle.mo_tables.proofs.Cuts.{key_found, key_whole, count_past, count_absent}
use Rattle.mo_tables.proofs.sound.lawful_key.Goals as goal

pub returns-in-None-find_byte : goal.returns-in-None-find_byte
returns-in-None-find_byte c =
    let text = c.args.original.now in
    let k = c.in-Some.k in
    let none = rw (take_rest text (k + 1)) at c.in-None-find_byte.ensures in
    let counted = count_past 0 text k c.in-Some.ensures in
    let others = count_absent 0 _ none in (
      key_found text k c.in-Some.ensures,
      record { plurals = omega (arith, counted, others); alone = λ zero. absurd (omega (arith, counted, zero)) },
    )

pub returns-in-None-find_byte-2 : goal.returns-in-None-find_byte-2
returns-in-None-find_byte-2 c = (
  key_whole c.args.original.now c.in-None.ensures,
  record {
    plurals = omega (arith, count_absent 0 _ c.in-None.ensures);
    alone = λ zero. count_absent 0 _ c.in-None-find_byte-2.ensures;
  },
)
