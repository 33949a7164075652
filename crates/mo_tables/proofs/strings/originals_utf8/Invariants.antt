use Rattle.mo_tables.proofs.Kit.{take, All, IsUtf8, IsStretch, text_in}
use Rattle.mo_tables.proofs.strings.originals_utf8.Given as goal

abbrev pub invariant-rows : goal.invariant-rows
invariant-rows l = record {
  stretch : IsStretch l.bytes l.stretch;
  utf8 : All (λ row. IsUtf8 (text_in l.bytes row.original)) (take l.row-index l.rows);
}
