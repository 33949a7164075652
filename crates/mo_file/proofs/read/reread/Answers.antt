use Rattle.std.proofs.Common.{◌∙◌}
use Rattle.mo_file.proofs.OneMap.{reread_map, reread_fault}
use Rattle.mo_file.proofs.read.reread.Goals as goal

pub returns-clause-ok : goal.returns-clause-ok
returns-clause-ok c = reread_map c.args.catalogue.now c.as_slice.result.now c.read_mo.result c.in_ok-file.ensures.lawful
    (c.as_slice.ensures.value ∙ c.in_ok-file.ensures.file) c.read_mo.ensures.ok

pub returns-clause-err : goal.returns-clause-err
returns-clause-err c = reread_fault c.args.catalogue.now c.as_slice.result.now c.read_mo.result
    c.in_ok-file.ensures.lawful (c.as_slice.ensures.value ∙ c.in_ok-file.ensures.file) c.read_mo.ensures.err
