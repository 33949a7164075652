-- What a `'` quotes, and how far a part of a pattern goes (java.text.MessageFormat, "Patterns and Their
-- Interpretation"; java.text.ChoiceFormat, "Patterns").
pub use Rattle.byte_text.specs.Characters.{apostrophe as quote, open_brace, close_brace, bar, backslash}
use Rattle.std.specs.Prelude.{ℕ, ◌+◌, ◌-◌, Bool, true, false, not, ◌&&◌, ◌||◌, ◌==◌, nat_eq, if◌then◌else◌, List}
use Rattle.std.specs.Prelude.{[], ◌∷◌, codes}
use Rattle.std.specs.List.{list_any, starts_with}
use Rattle.java_formats.specs.declared.Sort.{Sort}
use Rattle.java_formats.specs.declared.Sort.TheVariants.{Pattern, Choices}

-- what ends the plain text of a pattern, and a choice
abbrev pub is_mark : Sort → ℕ → Bool
is_mark Pattern b = b == open_brace || b == close_brace
is_mark Choices b = b == bar

-- how many bytes stand before the first mark that isn't quoted; each `'` begins what is quoted, or ends it
abbrev pub len_before : Sort → Bool → List ℕ → ℕ
len_before sort quoted [] = 0
len_before sort quoted (b ∷ more) =
    if b == quote then 1 + len_before sort (not quoted) more
    else if not quoted && is_mark sort b then 0
    else 1 + len_before sort quoted more

-- how many braces are open behind a byte
abbrev pub depth_behind : ℕ → ℕ → ℕ
depth_behind b depth = if b == open_brace then depth + 1 else if b == close_brace then depth - 1 else depth

-- how many bytes stand before the brace that closes none of these and of those that they open; quoted ones also count
abbrev pub inner_len : ℕ → List ℕ → ℕ
inner_len depth [] = 0
inner_len depth (b ∷ more) =
    if b == close_brace && depth == 0 then 0 else 1 + inner_len (depth_behind b depth) more

-- `\u2264`, which is "less than or equal to"
abbrev pub at_most : List ℕ
at_most = 92 ∷ 117 ∷ 50 ∷ 50 ∷ 54 ∷ 52 ∷ []

-- what ends the number of a choice: `<`, `#`, `\u2264`, or a `|`, which mustn't
abbrev pub ends_number : List ℕ → Bool
ends_number [] = false
ends_number (b ∷ more) = list_any (λ mark. b == mark) (codes "<#|") || starts_with nat_eq (b ∷ more) at_most

-- how many bytes stand before the end of a choice's number; it isn't quoted, and no byte behind a backslash counts
abbrev pub number_len : Bool → Bool → List ℕ → ℕ
number_len quoted escaped [] = 0
number_len quoted escaped (b ∷ more) =
    if escaped then 1 + number_len quoted false more
    else if b == quote then 1 + number_len (not quoted) false more
    else if not quoted && ends_number (b ∷ more) then 0
    else 1 + number_len quoted (b == backslash) more

-- without the quotes: each `'` is left out, and the byte behind it stays
abbrev pub unquoted_from : Bool → List ℕ → List ℕ
unquoted_from kept [] = []
unquoted_from kept (b ∷ more) =
    if b == quote && not kept then unquoted_from true more else b ∷ unquoted_from false more

abbrev pub unquoted_text : List ℕ → List ℕ
unquoted_text text = unquoted_from false text
