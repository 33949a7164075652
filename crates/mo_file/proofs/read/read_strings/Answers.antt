use Rattle.std.proofs.Common.{ℕ, List, arith, subst}
use Rattle.byteorder.specs.Endian.{little_number, big_number}
use Rattle.mo_file.specs.MoReading.{file_by, PassesBelow}
use Rattle.mo_file.specs.declared.fault.MoFault.TheVariants.{Short}
use Rattle.mo_file.proofs.ByteOrders.{order_low, order_high}
use Rattle.mo_file.proofs.Named.{read_in_order}
use Rattle.mo_file.proofs.read.read_strings.Goals as goal

pub is_low_first-requires : goal.is_low_first-requires
is_low_first-requires c = c.requires Short (omega arith)

pub read_file-requires : goal.read_file-requires
read_file-requires c =
    let P : (ℕ → List ℕ → ℕ) → Type 0 = λ number. PassesBelow (file_by number c.args.bytes.now) 12 in
    subst P (order_low c.args.bytes.now c.if-is_low_first.ensures) c.requires

pub read_file-requires-else-is_low_first : goal.read_file-requires-else-is_low_first
read_file-requires-else-is_low_first c =
    let P : (ℕ → List ℕ → ℕ) → Type 0 = λ number. PassesBelow (file_by number c.args.bytes.now) 12 in
    subst P (order_high c.args.bytes.now c.if-is_low_first.ensures) c.requires

pub returns-then-is_low_first : goal.returns-then-is_low_first
returns-then-is_low_first c =
    let bytes : List ℕ = c.args.bytes.now in
    read_in_order bytes little_number c.read_file.result (order_low bytes c.if-is_low_first.ensures) c.requires
    c.read_file.ensures

pub returns-else-is_low_first : goal.returns-else-is_low_first
returns-else-is_low_first c =
    let bytes : List ℕ = c.args.bytes.now in
    read_in_order bytes big_number c.read_file-else-is_low_first.result (order_high bytes c.if-is_low_first.ensures)
    c.requires c.read_file-else-is_low_first.ensures
