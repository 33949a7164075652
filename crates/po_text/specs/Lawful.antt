-- What holds for each entry that was read.
use Rattle.std.specs.Prelude.{◌≡◌, ℕ, List, Option, None, Some, length}
use Rattle.std.specs.List.{Contains, AllByRecursion}
use Rattle.po_text.specs.Spelling.{IsLawful}
use Rattle.po_text.specs.Entries.{Entry, IsOneOrMore}

-- the text is lawful, if there is one
abbrev pub IsLawfulIf : Option (List ℕ) → Type 0
IsLawfulIf None = Unit {0}
IsLawfulIf (Some bytes) = IsLawful bytes

-- the text has no byte 4, if there is one
abbrev pub HasNoFourIf : Option (List ℕ) → Type 0
HasNoFourIf None = Unit {0}
HasNoFourIf (Some bytes) = ¬ Contains bytes 4

-- all texts are UTF-8 without NUL, and the context and the msgid have no byte 4
pub record IsLawfulTexts (e : Entry) : Type 0 where
  pub context : IsLawfulIf e.context
  pub context_free : HasNoFourIf e.context
  pub id : IsLawful e.id
  pub id_free : ¬ Contains e.id 4
  pub plural : IsLawfulIf e.plural
  pub forms : AllByRecursion IsLawful e.forms

-- at least one form, and exactly one without a plural
pub record HasItsForms (e : Entry) : Type 0 where
  pub some : IsOneOrMore e.forms
  pub one : e.plural ≡ None → length e.forms ≡ 1
