use Rattle.std.proofs.Common.{◌≡◌, ◌+◌, ◌≤◌}
use Rattle.std.specs.Prelude.{drop}
use Rattle.java_formats.specs.JavaQuotes.{inner_len}
use Rattle.java_formats.proofs.quotes.inner_len.Given as goal

abbrev pub invariant-bytes : goal.invariant-bytes
invariant-bytes l = record {
  counted : l.len + inner_len l.depth (drop l.byte-index l.text) ≡ inner_len 0 l.text;
  index : l.len ≡ l.byte-index;
  depth : l.depth ≤ l.byte-index;
}
