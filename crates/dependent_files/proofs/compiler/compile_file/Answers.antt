use Rattle.dependent_files.proofs.Faults.{made, unmade}
use Rattle.dependent_files.proofs.compiler.compile_file.Goals as goal

pub returns-clause-ok : goal.returns-clause-ok
returns-clause-ok c = made c.args.text.now c.args.options c.in_ok-compiled.compiled c.in_ok-compiled.ensures.ok
    c.file_of.result c.file_of.ensures.ok

pub returns-clause-err : goal.returns-clause-err
returns-clause-err c = unmade c.args.text.now c.args.options c.in_ok-compiled.compiled c.in_ok-compiled.ensures.ok
    c.file_of.result c.file_of.ensures.err
