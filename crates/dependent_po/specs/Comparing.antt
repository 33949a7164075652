-- Private: texts that were read as formats.
use Rattle.std.specs.Prelude.{ℕ, ⊤, List}
pub use Rattle.c_signature.specs.declared.Strictness.{Strictness}
pub use Rattle.c_macros.specs.MacroAgreement.{Agrees}
pub use Rattle.c_macros.specs.MacroFormat.{Lists, IsInvalid}
pub use Rattle.c_macros.specs.declared.Kind.{Kind}
pub use Rattle.dependent_po.specs.declared.formats.Format.{Format}
use Rattle.dependent_po.specs.declared.formats.Format.TheVariants.{Arguments, Invalid}

-- how a text reads as a format
abbrev pub IsReadAs : List ℕ → Format → Type 0
IsReadAs text (Arguments kinds) = Lists text kinds.items
IsReadAs text Invalid = IsInvalid text

-- the form's arguments don't agree with the original's, or the form isn't a valid format
abbrev pub FormDiffers : List Kind → Format → Strictness → Type 0
FormDiffers original (Arguments form) rule = ¬ Agrees original form.items rule
FormDiffers original Invalid rule = ⊤
