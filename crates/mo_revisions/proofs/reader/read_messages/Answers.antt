use Rattle.std.proofs.Common.{ℕ, List, sym, subst}
use Rattle.std.specs.Prelude.{IfOk, IfErr}
use Rattle.mo_file.specs.MoReading.{file_by}
use Rattle.mo_file.proofs.ByteOrders.{order_low, order_high}
use Rattle.mo_segments.specs.MessageStrings.{strings_of}
use Rattle.mo_revisions.specs.Revisions.{HasMessages}
use Rattle.mo_revisions.specs.Refusing.{IsMessagesFault}
use Rattle.mo_revisions.proofs.reader.read_messages.Goals as goal

pub returns-then-is_low_first-clause-ok : goal.returns-then-is_low_first-clause-ok
returns-then-is_low_first-clause-ok c =
    let P : (ℕ → List ℕ → ℕ) → Type 0 = λ number. IfOk c.messages_by.result
    (λ v. HasMessages (file_by number c.args.bytes.now) (strings_of v.items)) in
    subst P (sym (order_low c.args.bytes.now c.if-is_low_first.ensures)) c.messages_by.ensures.ok

pub returns-then-is_low_first-clause-err : goal.returns-then-is_low_first-clause-err
returns-then-is_low_first-clause-err c =
    let P : (ℕ → List ℕ → ℕ) → Type 0 = λ number. IfErr c.messages_by.result
    (IsMessagesFault (file_by number c.args.bytes.now)) in
    subst P (sym (order_low c.args.bytes.now c.if-is_low_first.ensures)) c.messages_by.ensures.err

pub returns-else-is_low_first-clause-ok : goal.returns-else-is_low_first-clause-ok
returns-else-is_low_first-clause-ok c =
    let P : (ℕ → List ℕ → ℕ) → Type 0 = λ number. IfOk c.messages_by-else-is_low_first.result
    (λ v. HasMessages (file_by number c.args.bytes.now) (strings_of v.items)) in
    subst P (sym (order_high c.args.bytes.now c.if-is_low_first.ensures)) c.messages_by-else-is_low_first.ensures.ok

pub returns-else-is_low_first-clause-err : goal.returns-else-is_low_first-clause-err
returns-else-is_low_first-clause-err c =
    let P : (ℕ → List ℕ → ℕ) → Type 0 = λ number. IfErr c.messages_by-else-is_low_first.result
    (IsMessagesFault (file_by number c.args.bytes.now)) in
    subst P (sym (order_high c.args.bytes.now c.if-is_low_first.ensures)) c.messages_by-else-is_low_first.ensures.err
