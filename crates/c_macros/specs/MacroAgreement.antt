-- Whether the arguments of a translation agree with those of its original (GNU gettext manual, "c-format").
use Rattle.std.specs.Prelude.{◌≡◌, List, ◌++◌}
use Rattle.c_signature.specs.declared.Strictness.{Strictness}
use Rattle.c_signature.specs.declared.Strictness.TheVariants.{Same, Prefix}
use Rattle.c_macros.specs.declared.Kind.{Kind}

-- they are equal, or the first ones of the original
abbrev pub Agrees : List Kind → List Kind → Strictness → Type 0
Agrees original form Same = original ≡ form
Agrees original form Prefix = (more : List Kind) × (original ≡ form ++ more)
