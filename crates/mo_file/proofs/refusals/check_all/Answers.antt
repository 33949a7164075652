use Rattle.std.proofs.Common.{ℕ, List, rules, sym, subst}
use Rattle.std.specs.Prelude.{OnOk, IfErr}
use Rattle.mo_file.specs.MoReading.{file_by, PassesBelow, RefusedBy}
use Rattle.mo_file.proofs.ByteOrders.{order_low, order_high}
use Rattle.mo_file.proofs.refusals.check_all.Goals as goal

pub returns-then-is_low_first-clause-ok : goal.returns-then-is_low_first-clause-ok
returns-then-is_low_first-clause-ok c =
    let P : (ℕ → List ℕ → ℕ) → Type 0 = λ number. OnOk c.check_file.result
    (PassesBelow (file_by number c.args.bytes.now) 12) in
    subst P (sym (order_low c.args.bytes.now c.if-is_low_first.ensures)) c.check_file.ensures.ok

pub returns-then-is_low_first-clause-err : goal.returns-then-is_low_first-clause-err
returns-then-is_low_first-clause-err c =
    let P : (ℕ → List ℕ → ℕ) → Type 0 = λ number. IfErr c.check_file.result
    (λ f. RefusedBy (file_by number c.args.bytes.now) f) in
    subst P (sym (order_low c.args.bytes.now c.if-is_low_first.ensures)) c.check_file.ensures.err

pub returns-clause-ok : goal.returns-clause-ok
returns-clause-ok c =
    let P : (ℕ → List ℕ → ℕ) → Type 0 = λ number. OnOk c.check_file-2.result
    (PassesBelow (file_by number c.args.bytes.now) 12) in
    subst P (sym (order_high c.args.bytes.now c.if-is_low_first.ensures)) c.check_file-2.ensures.ok

pub returns-clause-err : goal.returns-clause-err
returns-clause-err c =
    let P : (ℕ → List ℕ → ℕ) → Type 0 = λ number. IfErr c.check_file-2.result
    (λ f. RefusedBy (file_by number c.args.bytes.now) f) in
    subst P (sym (order_high c.args.bytes.now c.if-is_low_first.ensures)) c.check_file-2.ensures.err

pub returns-then-read_u32-ne-MAGIC-clause-err : goal.returns-then-read_u32-ne-MAGIC-clause-err
returns-then-read_u32-ne-MAGIC-clause-err c = search rules
