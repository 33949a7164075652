use Rattle.mo_tables.proofs.Kit.{◌≡◌, take, All, text_in, nuls}
use Rattle.mo_tables.specs.FileParts.{IsGap}
use Rattle.mo_tables.proofs.strings.have_one_form.Given as goal

abbrev pub invariant-spans : goal.invariant-spans
invariant-spans l = record {
  gap : IsGap l.bytes 0 l.gap;
  none : All (λ span. nuls (text_in l.bytes span) ≡ 0) (take l.span-index l.spans);
}
