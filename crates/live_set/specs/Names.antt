-- Names of domains and locales (GNU gettext manual, "Ambiguities": text domains; "Locale Names").
use Rattle.std.specs.Prelude.{◌≡◌, ℕ, ◌<◌, ◌≤◌, ◌==◌, ◌||◌, Bool, true, List, length}
use Rattle.std.specs.List.{AllByRecursion}
use Rattle.std.specs.Char.{is_ascii_alphanumeric}

-- an ASCII letter, a digit, or one of `_ - . @ +`
abbrev pub is_name_byte : ℕ → Bool
is_name_byte b = is_ascii_alphanumeric b || (b == 95 || (b == 45 || (b == 46 || (b == 64 || b == 43))))

-- 1 to 64 bytes, each of them one that a name may have
pub record IsName (text : List ℕ) : Type 0 where
  pub some : 0 < length text
  pub fits : length text ≤ 64
  pub each : AllByRecursion (λ b. is_name_byte b ≡ true) text
