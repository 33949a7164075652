use Rattle.std.proofs.Common.{Bool, ◌↔◌}
use Rattle.std.specs.Prelude.{IsTrue, All}
use Rattle.std.proofs.lemmas.Result.{IfOk-weaker}
use Rattle.mo_tables.specs.MoTables.{table_at, KeysRise}
use Rattle.mo_tables.specs.Claims.{ClaimHolds, ClaimLies}
use Rattle.mo_tables.proofs.RowSweeps.{there, back}
use Rattle.mo_tables.proofs.TableRows.{claims_of_rows, claims_lie}
use Rattle.mo_tables.proofs.lawful.overlapping_keys_rise.Goals as goal

pub all_hold-requires-clause-lie : goal.all_hold-requires-clause-lie
all_hold-requires-clause-lie g c =
    let bytes = c.args.bytes.now in
    let claims = rw (c.deref.ensures.value, c.in_ok-rows.ensures) at c.in_ok-read_claims.ensures in
    rw c.deref-2.ensures.value (there (ClaimLies bytes) c.in_ok-read_claims.field-0.items c.in_order-claims.result.items
    c.in_order-claims.ensures (rw claims (claims_lie g.T.ByteOrder.number_of bytes c.args.originals c.args.translations
    c.args.n c.requires.originals)))

pub returns : goal.returns
returns g c =
    let number = g.T.ByteOrder.number_of in
    let bytes = c.args.bytes.now in
    let o = c.args.originals in
    let claims = rw (c.deref.ensures.value, c.in_ok-rows.ensures) at c.in_ok-read_claims.ensures in
    let says = rw c.deref-2.ensures.value at c.all_hold.ensures in
    let same = claims_of_rows number bytes o c.args.translations c.args.n c.requires.originals c.requires.with_nul in
    let listed = c.in_ok-read_claims.field-0.items in
    let sorted = c.in_order-claims.result.items in
    let P : Bool → Type 0 = λ yes. IsTrue yes ↔ All (ClaimHolds bytes) sorted in
    let Q : Bool → Type 0 = λ yes. IsTrue yes ↔ KeysRise (table_at number bytes o c.args.n) in
    IfOk-weaker c.all_hold.result P Q
    (λ yes both. (
      λ e. same.0 (rw claims at (back (ClaimHolds bytes) listed sorted c.in_order-claims.ensures (both.0 e))),
      λ rise. both.1 (there (ClaimHolds bytes) listed sorted c.in_order-claims.ensures (rw claims (same.1 rise))),
    ))
    says
