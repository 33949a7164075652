use Rattle.std.proofs.Common.{◌≡◌, ◌++◌, false}
use Rattle.std.specs.Prelude.{drop}
use Rattle.java_formats.specs.JavaQuotes.{unquoted_from}
use Rattle.java_formats.proofs.quotes.unquoted.Given as goal

abbrev pub invariant-bytes : goal.invariant-bytes
invariant-bytes l = l.plain.items ++ unquoted_from l.kept (drop l.byte-index l.text) ≡ unquoted_from false l.text
