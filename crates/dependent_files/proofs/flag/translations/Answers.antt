use Rattle.std.proofs.Common.{◌≡◌, ◌+◌, ◌*◌, length, arith, ap}
use Rattle.std.proofs.lemmas.List.{length-drop, take_rest}
use Rattle.dependent_files.proofs.FlagFiles.{has_entries, lent_is, rows_lie, start_is, start_lies, start_of}
use Rattle.dependent_files.proofs.flag.translations.Goals as goal

pub overflow_mul-first_row : goal.overflow_mul-first_row
overflow_mul-first_row c =
    omega (arith, rows_lie c.args.catalogue.now, c.file-file.ensures.lawful.fits, c.len.ensures.len)

pub overflow_add-first_row : goal.overflow_add-first_row
overflow_add-first_row c =
    omega (arith, rows_lie c.args.catalogue.now, c.file-file.ensures.lawful.fits, c.len.ensures.len)

pub overflow_add-first_row-2 : goal.overflow_add-first_row-2
overflow_add-first_row-2 c =
    omega (arith, rows_lie c.args.catalogue.now, c.file-file.ensures.lawful.fits, c.len.ensures.len)

pub slice_bounds-read_u32-count : goal.slice_bounds-read_u32-count
slice_bounds-read_u32-count c = omega (
  arith,
  rows_lie c.args.catalogue.now,
  ap length c.file-file.ensures.file,
  c.len.ensures.len,
  has_entries c.args.catalogue.now c.is_empty.result c.is_empty.ensures c.if-is_empty.false,
)

pub slice_bounds-read_u32-start : goal.slice_bounds-read_u32-start
slice_bounds-read_u32-start c = omega (
  arith,
  rows_lie c.args.catalogue.now,
  ap length c.file-file.ensures.file,
  c.len.ensures.len,
  has_entries c.args.catalogue.now c.is_empty.result c.is_empty.ensures c.if-is_empty.false,
)

pub read_u32-start-requires : goal.read_u32-start-requires
read_u32-start-requires c =
    let at = 28 + 8 * c.len.result + 4 in
    omega (
      arith,
      rows_lie c.args.catalogue.now,
      ap length c.file-file.ensures.file,
      c.len.ensures.len,
      has_entries c.args.catalogue.now c.is_empty.result c.is_empty.ensures c.if-is_empty.false,
      ap length (take_rest c.file-file.result.now at),
      length-drop at c.file-file.result.now,
    )

start : (c : goal.After-read_u32-start) → c.read_u32-start.result ≡ start_of c.args.catalogue.now
start c =
    let m = c.args.catalogue.now in
    let some = has_entries m c.is_empty.result c.is_empty.ensures c.if-is_empty.false in
    start_is m c.file-file.result.now c.len.result c.read_u32-start.result c.file-file.ensures.lawful some
    c.file-file.ensures.file c.len.ensures.len c.read_u32-start.ensures

pub slice_bounds-result-count : goal.slice_bounds-result-count
slice_bounds-result-count c =
    omega (arith, start c, start_lies c.args.catalogue.now, ap length c.file-file.ensures.file)

pub slice_bounds-result-start : goal.slice_bounds-result-start
slice_bounds-result-start c =
    omega (arith, start c, start_lies c.args.catalogue.now, ap length c.file-file.ensures.file)

pub returns : goal.returns
returns c =
    let m = c.args.catalogue.now in
    let some = has_entries m c.is_empty.result c.is_empty.ensures c.if-is_empty.false in
    let read = start_is m c.file-file.result.now c.len.result c.read_u32-start.result c.file-file.ensures.lawful some
    c.file-file.ensures.file c.len.ensures.len c.read_u32-start.ensures in
    lent_is m c.file-file.result.now c.read_u32-start.result c.file-file.ensures.file read
