use Rattle.std.proofs.Common.{◌≡◌, arith}
use Rattle.byte_text.specs.Front.{leading}
use Rattle.byte_text.proofs.key.front_in.Goals as goal

pub returns-then-bytes-ge-FRONT_LEN : goal.returns-then-bytes-ge-FRONT_LEN
unfolding leading
returns-then-bytes-ge-FRONT_LEN c = record { number = c.read_u64.ensures; bytes = λ k. (c.type_inv.bytes k).fits }

pub returns : goal.returns
unfolding leading
returns c =
    let sum : c.read_u64-2.result ≡ leading c.args.bytes.now =
    omega (
      arith,
      c.read_u64-2.ensures,
      c.byte_at.ensures,
      c.byte_at-2.ensures,
      c.byte_at-3.ensures,
      c.byte_at-4.ensures,
      c.byte_at-5.ensures,
      c.byte_at-6.ensures,
      c.byte_at-7.ensures,
      c.byte_at-8.ensures,
    ) in
    record { number = sum; bytes = λ k. (c.type_inv.bytes k).fits }
