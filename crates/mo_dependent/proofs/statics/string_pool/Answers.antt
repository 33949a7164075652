use Rattle.std.proofs.Common.{◌+◌, ◌-◌, ◌*◌, ℕ, take, drop, length, arith, ap, ◌∙◌}
use Rattle.std.proofs.lemmas.List.{take_rest}
use Rattle.mo_dependent.proofs.StaticStrings.{pool_behind, rows_lie}
use Rattle.mo_dependent.proofs.statics.string_pool.Goals as goal

pub overflow_mul-result-2 : goal.overflow_mul-result-2
overflow_mul-result-2 c = let h = rows_lie _ c.file.ensures.lawful in omega arith

pub overflow_add-result : goal.overflow_add-result
overflow_add-result c = let h = rows_lie _ c.file.ensures.lawful in omega arith

pub slice_bounds-result-count : goal.slice_bounds-result-count
slice_bounds-result-count c = let h = rows_lie _ c.file.ensures.lawful in omega (arith, ap length c.file.ensures.file)

pub slice_bounds-result-start : goal.slice_bounds-result-start
slice_bounds-result-start c = let h = rows_lie _ c.file.ensures.lawful in omega (arith, ap length c.file.ensures.file)

pub returns : goal.returns
returns c =
    let m = c.args.statics.now in
    ap (λ (n : ℕ). take (length c.file.result.now - (28 + 16 * n)) (drop (28 + 16 * n) c.file.result.now))
    c.len.ensures.len
    ∙ take_rest c.file.result.now (28 + 16 * length m)
    ∙ ap (drop (28 + 16 * length m)) c.file.ensures.file ∙ pool_behind m
