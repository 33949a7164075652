use Rattle.std.proofs.Common.{◌≡◌, ap, subst, sym, ◌∙◌}
use Rattle.std.proofs.lemmas.Result.{err_from_is_err_and}
use Rattle.mo_segments.specs.MessageStrings.{strings_of}
use Rattle.dependent_files.specs.MessagesFile.{IsWritten}
use Rattle.dependent_files.specs.MessagesHere as Here
use Rattle.dependent_files.proofs.Faults.{misread}
use Rattle.dependent_files.proofs.file.file_of_messages.Goals as goal

pub returns-in_err-check_reading-clause-err : goal.returns-in_err-check_reading-clause-err
returns-in_err-check_reading-clause-err c =
    let statics = strings_of c.args.statics.items in
    let ds = c.args.dependents.now in
    let p = err_from_is_err_and c.from_residual-in_err-check_reading.result
    c.from_residual-in_err-check_reading.ensures.1 in
    let here : strings_of c.as_slice-3.result.now ≡ Here.messages_here statics ds = ap strings_of
    c.as_slice-3.ensures.value ∙ c.in_ok-messages.ensures
    ∙ ap (λ ms. Here.messages_here (strings_of ms) ds) c.as_slice.ensures.value in
    rw (p.1, p.2) (misread statics (strings_of c.as_slice-3.result.now) ds c.as_slice-2.result.now
    c.in_err-check_reading.field-0.0 here (subst (IsWritten statics ds) (sym c.as_slice-2.ensures.value)
    c.in_ok-file.ensures.file) c.in_err-check_reading.ensures.err)
