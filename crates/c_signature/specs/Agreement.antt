-- Whether the arguments of a translation agree with those of its original (GNU gettext manual, "c-format").
use Rattle.std.specs.Prelude.{◌≡◌, List, ◌++◌}
use Rattle.c_signature.specs.declared.ArgKind.{ArgKind}
use Rattle.c_signature.specs.declared.Strictness.{Strictness}
use Rattle.c_signature.specs.declared.Strictness.TheVariants.{Same, Prefix}

-- they are equal, or the first ones of the original
abbrev pub Agrees : List ArgKind → List ArgKind → Strictness → Type 0
Agrees original form Same = original ≡ form
Agrees original form Prefix = (more : List ArgKind) × (original ≡ form ++ more)
