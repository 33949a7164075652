use Rattle.std.proofs.Common.{◌≡◌, ℕ, List, length, ap, sym, subst, ◌∙◌, arith}
use Rattle.std.specs.Prelude.{◌==◌, true}
use Rattle.mo_image.specs.Entry.{Entry}
use Rattle.mo_image.proofs.FileSizes.{file_size}
use Rattle.mo_dependent.specs.Layout.{IsDependentFile, IsWriteFault}
use Rattle.dependent_files.proofs.Files.{one_map, some_file, some_header}
use Rattle.dependent_files.proofs.file.write.Goals as goal

pub returns-then-is_empty-clause-long : goal.returns-then-is_empty-clause-long
returns-then-is_empty-clause-long c = omega (
  arith,
  ap length (c.in_ok-from_slice.ensures.items ∙ c.file.ensures.file),
  file_size c.args.statics.now,
)

pub returns-in-Ok-clause-file : goal.returns-in-Ok-clause-file
returns-in-Ok-clause-file c =
    let statics = c.args.statics.now in
    let ds = c.args.dependents.now in
    let same : c.in_ok-image.image ≡ statics = one_map c.file-2.result.now statics c.in_ok-image.image
    c.file-2.ensures.lawful c.file-2.ensures.file c.in_ok-image.ensures in
    some_file statics ds c.in-Ok.file.items
    (λ e. let h : c.is_empty.result ≡ true = c.is_empty.ensures ∙ ap (λ (n : ℕ). n == 0) e in
    absurd (cc (h, c.if-is_empty.false)))
    (subst (λ (m : List Entry). IsDependentFile m ds c.in-Ok.file.items) same c.in-Ok.ensures.file)

pub returns-in-Ok-clause-long : goal.returns-in-Ok-clause-long
returns-in-Ok-clause-long c =
    some_header c.in_ok-image.image c.args.dependents.now c.in-Ok.file.items c.in-Ok.ensures.file

pub returns-in-Err-TooLarge-clause-err : goal.returns-in-Err-TooLarge-clause-err
returns-in-Err-TooLarge-clause-err c = λ bytes file.
    let image = c.in_ok-image.image in
    let ds = c.args.dependents.now in
    let same : image ≡ c.args.statics.now = one_map c.file-2.result.now c.args.statics.now image
    c.file-2.ensures.lawful c.file-2.ensures.file c.in_ok-image.ensures in
    subst (IsWriteFault image ds) c.in-Err-TooLarge.field-0-is c.in-Err-TooLarge.ensures.err bytes
    (subst (λ (m : List Entry). IsDependentFile m ds bytes) (sym same) file)
