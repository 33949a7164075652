use Rattle.std.proofs.Common.{refl, arith}
use Rattle.std.proofs.lemmas.Bool.{eqb-true}
use Rattle.mo_file.specs.declared.fault.MoFault.TheVariants.{Short}
use Rattle.mo_file.proofs.Spelt.{originals_lie, translations_lie, own_file, room}
use Rattle.mo_file.proofs.own.is_own.Goals as goal

pub word-n-requires : goal.word-n-requires
word-n-requires c = omega (arith, c.requires Short (omega arith))

pub is_in_order-requires-clause-long : goal.is_in_order-requires-clause-long
is_in_order-requires-clause-long c = c.requires Short (omega arith)

pub end_of_strings-requires-clause-lies : goal.end_of_strings-requires-clause-lies
end_of_strings-requires-clause-lies c = originals_lie c.args.bytes.now c.word-n.result c.requires c.word-n.ensures.value
    (c.if-not-is_in_order.ensures refl)

pub end_of_strings-requires-clause-start : goal.end_of_strings-requires-clause-start
end_of_strings-requires-clause-start c = room c.args.bytes.now c.word-n.result c.requires c.word-n.ensures.value
    (c.if-not-is_in_order.ensures refl)

pub end_of_strings-requires-2-clause-lies : goal.end_of_strings-requires-2-clause-lies
end_of_strings-requires-2-clause-lies c = translations_lie c.args.bytes.now c.word-n.result c.requires
    c.word-n.ensures.value (c.if-not-is_in_order.ensures refl)

pub returns-in-Some-end_of_strings : goal.returns-in-Some-end_of_strings
returns-in-Some-end_of_strings c all =
    own_file c.args.bytes.now c.word-n.result c.requires c.word-n.ensures.value (c.if-not-is_in_order.ensures refl)
    c.in-Some.middle c.in-Some-end_of_strings.end
    (λ i. omega (arith, c.type_inv.bytes i)) c.in-Some.ensures.behind c.in-Some-end_of_strings.ensures.behind
    (eqb-true _ _ all)
