-- Entries with flags, and how strictly their forms are compared (GNU gettext manual, "PO Files").
use Rattle.std.specs.Prelude.{ℕ, nat_lt, Bool, false, ◌||◌, if◌then◌else◌, List, length, is_none, Option, slice_get}
use Rattle.std.specs.Option.{unwrap_or}
use Rattle.format_arguments.specs.declared.Strictness.{Strictness}
use Rattle.format_arguments.specs.declared.Strictness.TheVariants.{Same, Lenient}
use Rattle.format_flags.specs.declared.flags.Flags.{Flags}

pub record Entry : Type 0 where
  pub line : ℕ
  pub flags : Flags
  pub id : List ℕ
  pub plural : Option (List ℕ)
  pub forms : List (List ℕ)

-- the text that the forms are compared with: the msgid_plural, or the msgid if there is none
abbrev pub original : Entry → List ℕ
original e = unwrap_or e.plural e.id

-- the form is said to serve five numbers or more
abbrev pub is_often : List Bool → ℕ → Bool
is_often often form = unwrap_or (slice_get often form) false

-- a form is compared strictly without a plural, where it is the only form, and where it serves five numbers or more
abbrev pub rule_for : Entry → List Bool → ℕ → Strictness
rule_for e often form =
    if (is_none e.plural || nat_lt (length e.forms) 2) || is_often often form then Same else Lenient
