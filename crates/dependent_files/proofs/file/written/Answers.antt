use Rattle.mo_segments.specs.MessageStrings.{strings_of}
use Rattle.dependent_files.proofs.Faults.{none_written, some_written}
use Rattle.dependent_files.proofs.file.written.Goals as goal

pub returns-clause-file : goal.returns-clause-file
returns-clause-file c = some_written (λ v. v.items) (strings_of c.args.statics.items) c.args.dependents.now
    c.in_ok-map.map c.write.result c.in_ok-map.ensures.ok c.write.ensures.file

pub returns-clause-err : goal.returns-clause-err
returns-clause-err c = none_written (strings_of c.args.statics.items) c.args.dependents.now
    c.in_ok-map.map c.write.result c.in_ok-map.ensures.ok c.write.ensures.err
