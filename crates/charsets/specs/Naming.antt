-- Which charset a name means (GNU gettext manual, "Header Entry": Content-Type).
use Rattle.std.specs.Prelude.{◌≡◌, ℕ, List, map}
use Rattle.std.specs.List.{Contains}
use Rattle.std.specs.Char.{to_ascii_lowercase}
use Rattle.charsets.specs.declared.kinds.Charset.{Charset}
use Rattle.charsets.specs.CharsetNames.{names}

-- the two names differ in ASCII case alone
abbrev pub IsSameName : List ℕ → List ℕ → Type 0
IsSameName known name = map to_ascii_lowercase known ≡ map to_ascii_lowercase name

-- this is a name of the charset, in any ASCII case
pub record IsNameOf (charset : Charset) (name : List ℕ) : Type 0 where
  pub known : List ℕ
  pub listed : Contains (names charset) known
  pub same : IsSameName known name
