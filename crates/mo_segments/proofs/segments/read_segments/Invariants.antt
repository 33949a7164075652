use Rattle.std.proofs.Common.{◌≡◌, ◌<◌, ◌+◌, ◌*◌, ℕ}
use Rattle.mo_segments.specs.Descriptors.{IsSegment, segment_values, texts_of}
use Rattle.mo_segments.proofs.segments.read_segments.Given as goal

abbrev pub invariant-segments : goal.invariant-segments
invariant-segments g l =
    let number = g.T.ByteOrder.number_of in
    record {
      values : texts_of l.values.items ≡ segment_values number l.bytes l.table l.i;
      each : (i : ℕ) → i < l.i → IsSegment number l.bytes (l.table + 8 * i);
    }
