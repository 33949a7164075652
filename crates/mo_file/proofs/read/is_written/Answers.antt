use Rattle.std.proofs.Common.{ℕ, List, arith, subst}
use Rattle.byteorder.specs.Endian.{little_number}
use Rattle.mo_file.specs.MoReading.{file_by, PassesBelow}
use Rattle.mo_file.specs.declared.fault.MoFault.TheVariants.{Short}
use Rattle.mo_file.proofs.ByteOrders.{order_low}
use Rattle.mo_file.proofs.Named.{lawful_map}
use Rattle.mo_file.proofs.read.is_written.Goals as goal

pub is_low_first-requires : goal.is_low_first-requires
is_low_first-requires c = c.requires Short (omega arith)

pub returns-then-is_low_first : goal.returns-then-is_low_first
returns-then-is_low_first c own =
    let P : (ℕ → List ℕ → ℕ) → Type 0 = λ number. PassesBelow (file_by number c.args.bytes.now) 12 in
    let passed : PassesBelow (file_by little_number c.args.bytes.now) 12 = subst P (order_low c.args.bytes.now
    c.if-is_low_first.ensures) c.requires in
    record { lawful = lawful_map little_number c.args.bytes.now passed; spelt = c.is_own.ensures own }
