-- A message of a catalogue: its texts, its key, and what its texts may contain (GNU gettext manual, "MO Files").
use Rattle.std.specs.Prelude.{◌≡◌, ◌≢◌, ℕ, ◌<◌, List, [], ◌∷◌, ◌++◌, length, Option, Some, None, IfSome}
use Rattle.std.specs.List.{AllByRecursion}
use Rattle.std.specs.Str.{IsUtf8}

-- a message: its context (if any), msgid, msgid_plural (if any) and forms
pub record Entry : Type 0 where
  pub context : Option (List ℕ)
  pub id : List ℕ
  pub plural : Option (List ℕ)
  pub forms : List (List ℕ)

-- the key: the msgid or, if there is a context, the context, EOT (byte 4) and the msgid (GNU gettext manual, "MO
-- Files": contexts)
abbrev pub key_bytes : Option (List ℕ) → List ℕ → List ℕ
key_bytes None id = id
key_bytes (Some context) id = context ++ (4 ∷ id)

abbrev pub key : Entry → List ℕ
key e = key_bytes e.context e.id

-- the first form, or the empty text if there is none
abbrev pub first_form : List (List ℕ) → List ℕ
first_form [] = []
first_form (form ∷ forms) = form

abbrev pub LacksByte : ℕ → List ℕ → Type 0
LacksByte byte text = AllByRecursion (λ b. b ≢ byte) text

-- a lawful text: UTF-8 without NUL, which ends strings in MO files
pub record IsText (text : List ℕ) : Type 0 where
  pub utf8 : IsUtf8 text
  pub no_nul : LacksByte 0 text

-- a lawful context or msgid: a lawful text without EOT, which separates the two in a key
pub record IsKeyText (text : List ℕ) : Type 0 where
  pub utf8 : IsUtf8 text
  pub no_nul : LacksByte 0 text
  pub no_separator : LacksByte 4 text

-- at least one form, and exactly one without a plural
abbrev pub HasForms : Option (List ℕ) → List (List ℕ) → Type 0
HasForms None forms = length forms ≡ 1
HasForms (Some plural) forms = 0 < length forms

pub record IsLawfulEntry (e : Entry) : Type 0 where
  pub context : IfSome e.context IsKeyText
  pub id : IsKeyText e.id
  pub plural : IfSome e.plural IsText
  pub forms : AllByRecursion IsText e.forms
  pub counted : HasForms e.plural e.forms
