-- Whether the C formats of an entry agree, where they may name macros of <inttypes.h> (GNU gettext manual, "c-format").
use Rattle.std.specs.Prelude.{◌≡◌, ◌⊎◌, ℕ, true, List}
use Rattle.std.specs.List.{Any}
use Rattle.po_text.specs.Entries as po
pub use Rattle.po_checks.specs.Checks.{format_original, strictness}
use Rattle.c_macros.specs.declared.Kind.{Kind}
use Rattle.c_signature.specs.declared.Strictness.{Strictness}
use Rattle.c_macros.specs.MacroAgreement.{Agrees}
use Rattle.c_macros.specs.MacroFormat.{Lists, IsInvalid}

-- the form isn't a valid format, or its arguments don't agree with the original's
abbrev pub Differs : List Kind → Strictness → List ℕ → Type 0
Differs original rule form = IsInvalid form ⊎ ((kinds : List Kind) × Lists form kinds × ¬ Agrees original kinds rule)

-- some form differs from the original; an original that isn't a valid format isn't compared
pub record FormsDiffer (e : po.Entry) : Type 0 where
  pub kinds : List Kind
  pub original : Lists (format_original e) kinds
  pub some : Any (Differs kinds (strictness e.plural)) e.forms

-- the entry is flagged `c-format`, and some form differs from the original
pub record HasOtherArguments (e : po.Entry) : Type 0 where
  pub flagged : e.c_format ≡ true
  pub differ : FormsDiffer e
