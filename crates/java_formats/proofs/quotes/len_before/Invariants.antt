use Rattle.std.proofs.Common.{◌≡◌, ◌+◌, false}
use Rattle.std.specs.Prelude.{drop}
use Rattle.java_formats.specs.JavaQuotes.{len_before}
use Rattle.java_formats.proofs.quotes.len_before.Given as goal

abbrev pub invariant-bytes : goal.invariant-bytes
invariant-bytes l = record {
  counted : l.len + len_before l.sort l.quoted (drop l.byte-index l.text) ≡ len_before l.sort false l.text;
  index : l.len ≡ l.byte-index;
}
