-- Bytes by the names of their characters in ASCII.
use Rattle.std.specs.Prelude.{ℕ}

-- `%`
abbrev pub percent : ℕ
percent = 37

-- `$`
abbrev pub dollar : ℕ
dollar = 36

-- `.`
abbrev pub dot : ℕ
dot = 46

-- `*`
abbrev pub star : ℕ
star = 42

-- `,`
abbrev pub comma : ℕ
comma = 44

-- `:`
abbrev pub colon : ℕ
colon = 58

-- `{`
abbrev pub open_brace : ℕ
open_brace = 123

-- `}`
abbrev pub close_brace : ℕ
close_brace = 125

-- `[`
abbrev pub open_bracket : ℕ
open_bracket = 91

-- `]`
abbrev pub close_bracket : ℕ
close_bracket = 93

-- `\`
abbrev pub backslash : ℕ
backslash = 92

-- `|`
abbrev pub bar : ℕ
bar = 124

-- `<`
abbrev pub less : ℕ
less = 60

-- `~`
abbrev pub tilde : ℕ
tilde = 126

-- `_`
abbrev pub underscore : ℕ
underscore = 95

-- `'`
abbrev pub apostrophe : ℕ
apostrophe = 39
