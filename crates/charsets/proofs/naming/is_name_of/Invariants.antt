use Rattle.std.proofs.Common.{ℕ, ◌<◌, get_or, []}
use Rattle.charsets.specs.CharsetNames.{names}
use Rattle.charsets.specs.Naming.{IsSameName}
use Rattle.charsets.proofs.naming.is_name_of.Given as goal

abbrev pub invariant-names : goal.invariant-names
invariant-names l = (k : ℕ) → k < l.i → ¬ IsSameName (get_or (names l.fn.charset) k []) l.fn.name
