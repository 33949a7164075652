use Rattle.mo_tables.proofs.Kit.{take, All, KnowsSeparators, HasFewSeparators, text_in}
use Rattle.mo_tables.proofs.strings.keys_have_few_separators.Given as goal

abbrev pub invariant-rows : goal.invariant-rows
invariant-rows l = record {
  known : KnowsSeparators l.bytes l.known;
  few : All (λ row. HasFewSeparators (text_in l.bytes row.original)) (take l.row-index l.rows);
}
