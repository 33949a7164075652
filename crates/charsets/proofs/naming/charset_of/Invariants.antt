use Rattle.std.proofs.Common.{ℕ, ◌<◌, get_or}
use Rattle.charsets.specs.declared.kinds.Charset.TheVariants.{Ascii}
use Rattle.charsets.specs.Every.{all}
use Rattle.charsets.specs.Naming.{IsNameOf}
use Rattle.charsets.proofs.naming.charset_of.Given as goal

abbrev pub invariant-charsets : goal.invariant-charsets
invariant-charsets l = (k : ℕ) → k < l.i → ¬ IsNameOf (get_or all k Ascii) l.fn.name
