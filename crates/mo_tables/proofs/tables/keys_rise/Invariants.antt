use Rattle.mo_tables.proofs.Kit.{◌≡◌, ℕ, ◌+◌, ◌-◌, ◌*◌, ◌<◌, nat_cmp, Less, slice_cmp, string_at, before_nul}
use Rattle.mo_tables.proofs.tables.keys_rise.Given as goal

abbrev pub invariant-loop-i : goal.invariant-loop-i
invariant-loop-i g l =
    let number = g.T.ByteOrder.number_of in
    record {
      each : (k : ℕ) → k + 1 < l.i
          → slice_cmp nat_cmp (before_nul (string_at number l.bytes (l.table + 8 * k)))
          (before_nul (string_at number l.bytes (l.table + 8 * (k + 1)))) ≡ Less;
      key : l.key ≡ before_nul (string_at number l.bytes (l.table + 8 * (l.i - 1)));
    }
