use Rattle.std.proofs.Common.{◌≡◌, ◌<◌, ◌^◌}
use Rattle.std.specs.Prelude.{IsTrue, ◌↔◌}
use Rattle.mo_segments.specs.Descriptors.{GoesOn, Knows, piece_start, text_to, texts_of}
use Rattle.mo_segments.specs.Expanding.{descriptor_at}
use Rattle.mo_segments.proofs.descriptors.expand.Given as goal

abbrev pub invariant-rows : goal.invariant-rows
invariant-rows g l =
    let d = descriptor_at g.T.ByteOrder.number_of l.bytes (texts_of l.values) l.at in
    record {
      before : GoesOn d l.k;
      text_is : l.text.items ≡ text_to d l.k;
      start_is : l.start ≡ piece_start d l.k;
      small : l.start < 2 ^ 33;
      knows : IsTrue l.known ↔ Knows d l.k;
    }
