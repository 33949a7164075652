-- The magic number determines the byte order.
use Rattle.std.proofs.Common.{◌≡◌, ◌≢◌, ℕ, Bool, true, false, cond, eqb, List, refl, ap}
use Rattle.std.specs.Prelude.{IsTrue, ◌↔◌}
use Rattle.std.proofs.lemmas.Bool.{eqb-true, false≢true}
use Rattle.byteorder.specs.Endian.{little_number, big_number}
use Rattle.mo_file.specs.MoReading.{order}

pub eqb-ne : (a b : ℕ) → a ≢ b → eqb a b ≡ false
eqb-ne a b ne = elim (eqb a b) as (λ r. eqb a b ≡ r → r ≡ false)
    [ true ↦ λ e. absurd (ne (eqb-true a b e)) | false ↦ λ e. refl ] refl

order_by : (bytes : List ℕ) (b : Bool) → eqb (little_number 4 bytes) 0x950412de ≡ b → order bytes
    ≡ cond b little_number big_number
order_by bytes b e = ap (λ t. cond t little_number big_number) e

pub order_little : (bytes : List ℕ) → little_number 4 bytes ≡ 0x950412de → order bytes ≡ little_number
order_little bytes is = order_by bytes true (rw is refl)

pub order_big : (bytes : List ℕ) → little_number 4 bytes ≢ 0x950412de → order bytes ≡ big_number
order_big bytes ne = order_by bytes false (eqb-ne (little_number 4 bytes) 0x950412de ne)

-- what a test of the magic number says
pub order_low : (bytes : List ℕ) → (IsTrue true ↔ (little_number 4 bytes ≡ 0x950412de)) → order bytes ≡ little_number
order_low bytes test = order_little bytes (test.0 refl)

pub order_high : (bytes : List ℕ) → (IsTrue false ↔ (little_number 4 bytes ≡ 0x950412de)) → order bytes ≡ big_number
order_high bytes test = order_big bytes (λ e. false≢true (test.1 e))
