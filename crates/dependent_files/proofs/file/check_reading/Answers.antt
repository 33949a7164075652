use Rattle.std.proofs.Common.{inl, inr}
use Rattle.mo_segments.specs.MessageStrings.{strings_of}
use Rattle.dependent_files.proofs.file.check_reading.Goals.{in_default-via-in-Ok+else-are_same}
use Rattle.dependent_files.proofs.file.check_reading.Goals.{in_default-via-in-Err-2+else-is_swollen}
use Rattle.dependent_files.proofs.file.check_reading.Goals as goal

pub returns-in_default-clause-err : goal.returns-in_default-clause-err
returns-in_default-clause-err c =
    elim c.in_default.branch [
      | in_default-via-in-Ok+else-are_same w ↦ inr (
        strings_of w.in-Ok.read.items,
        λ same. let is = w.are_same.ensures.1 (rw w.as_slice.ensures.value same) in
            absurd (cc (is, w.if-are_same.false)),
        w.in-Ok.ensures.ok,
      )
      | in_default-via-in-Err-2+else-is_swollen w ↦ inl (
        w.in-Err.fault,
        λ memory. let is = w.is_out_of_memory.ensures.1 memory in
            absurd (cc (is, w.if-is_out_of_memory.false)),
        λ swollen. let is = w.is_swollen.ensures.1 swollen in
            absurd (cc (is, w.if-is_swollen.false)),
        w.in-Err.ensures.err,
      )
    ]
