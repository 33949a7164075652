use Rattle.std.proofs.Common.{◌≡◌, ◌+◌, false, length}
use Rattle.java_formats.specs.JavaQuotes.{number_len}
use Rattle.java_formats.proofs.quotes.number_len.Given as goal

abbrev pub invariant-bytes : goal.invariant-bytes
invariant-bytes l = record {
  counted : l.len + number_len l.quoted l.escaped l.rest ≡ number_len false false l.text;
  read : l.len + length l.rest ≡ length l.text;
}

abbrev pub decreases-bytes : goal.decreases-bytes
decreases-bytes l = length l.rest
