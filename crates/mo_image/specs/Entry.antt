-- The two strings that an MO file has of an entry (GNU gettext manual, "MO Files").
use Rattle.std.specs.Prelude.{ℕ, List, ◌∷◌, ◌++◌, Option, Some, None}
use Rattle.std.specs.List.{join_with_byte}
pub use Rattle.message.specs.Message.{Entry, key_bytes, key, LacksByte, IsText, IsKeyText, HasForms, IsLawfulEntry}

-- the original: the key, followed by NUL and the msgid_plural if there is one (GNU gettext manual, "MO Files": plural
-- forms)
abbrev pub with_plural : List ℕ → Option (List ℕ) → List ℕ
with_plural k None = k
with_plural k (Some plural) = k ++ (0 ∷ plural)

abbrev pub original : Entry → List ℕ
original e = with_plural (key e) e.plural

-- the translation: the forms, with NUL between them
abbrev pub translation : Entry → List ℕ
translation e = join_with_byte 0 e.forms
