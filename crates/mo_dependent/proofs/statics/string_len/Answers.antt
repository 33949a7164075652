use Rattle.std.proofs.Common.{◌+◌, ◌*◌, List, ℕ, length, arith, ap, ◌∙◌}
use Rattle.std.proofs.lemmas.List.{take_rest, length-drop}
use Rattle.byteorder.specs.Endian.{little_number}
use Rattle.mo_image.specs.Tables.{word_at}
use Rattle.mo_dependent.proofs.StaticStrings.{row_len, rows_lie}
use Rattle.mo_dependent.proofs.statics.string_len.Goals as goal

pub overflow_mul-i : goal.overflow_mul-i
overflow_mul-i c = let h = rows_lie _ c.file.ensures.lawful in omega arith

pub overflow_add-i : goal.overflow_add-i
overflow_add-i c = let h = rows_lie _ c.file.ensures.lawful in omega arith

pub slice_bounds-read_u32-count : goal.slice_bounds-read_u32-count
slice_bounds-read_u32-count c = let h = rows_lie _ c.file.ensures.lawful in omega (arith, ap length c.file.ensures.file)

pub slice_bounds-read_u32-start : goal.slice_bounds-read_u32-start
slice_bounds-read_u32-start c = let h = rows_lie _ c.file.ensures.lawful in omega (arith, ap length c.file.ensures.file)

pub returns : goal.returns
returns c = c.read_u32.ensures
    ∙ ap (little_number 4) (take_rest c.file.result.now (28 + 8 * c.args.i))
    ∙ ap (λ (b : List ℕ). word_at little_number b (28 + 8 * c.args.i)) c.file.ensures.file
    ∙ row_len c.args.statics.now c.args.i c.file.ensures.lawful c.requires

pub read_u32-requires : goal.read_u32-requires
read_u32-requires c =
    let at = 28 + 8 * c.args.i in
    let h = rows_lie _ c.file.ensures.lawful in
    let bytes = c.file.result.now in
    omega (arith, ap length c.file.ensures.file, ap length (take_rest bytes at), length-drop at bytes)
