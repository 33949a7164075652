-- Private: whether bytes may have a directive with the flag `I`.
use Rattle.std.specs.Prelude.{ℕ, Bool, false, ◌==◌, ◌&&◌, ◌||◌, List, [], ◌∷◌}
use Rattle.std.specs.List.{list_any}
use Rattle.std.specs.Char.{is_ascii_digit}
use Rattle.format_arguments.specs.Bytes.{run}
use Rattle.c_signature.specs.Pieces.{dollar, is_flag, percent}
use Rattle.c_macros.specs.MacroSplits.{other_digits}

-- a byte that can stand between the `%` of a directive and the flag, or the flag itself: flags, and a number with its
-- `$`
abbrev pub is_in_front : ℕ → Bool
is_in_front b = is_flag b || (is_ascii_digit b || b == dollar)

-- such bytes are at the front of the text, and the flag is among them
abbrev pub leads_to_flag : List ℕ → Bool
leads_to_flag text = list_any (λ b. b == other_digits) (run is_in_front text)

-- somewhere in the text a `%` leads to the flag
abbrev pub may_have_flag : List ℕ → Bool
may_have_flag [] = false
may_have_flag (b ∷ more) = (b == percent && leads_to_flag more) || may_have_flag more
