-- What a line of a script says.
use Rattle.std.specs.Prelude.{ℕ, ◌==◌, Bool, true, if◌then◌else◌, List, [], ◌∷◌, codes, Option, Some, None}
use Rattle.std.specs.Str.{bytes_eq}
use Rattle.catalogue.specs.declared.Options.{Options}
use Rattle.live_set.specs.Asks.{AskValue, QueryValue, Plain, Context, Number, ContextNumber}
use Rattle.script_text.specs.LineFields.{fields}
use Rattle.script_text.specs.ScriptFields.{number, unescaped_text, options_of, hex_bytes, worker_of, worker_count}
use Rattle.script_text.specs.ScriptFields.{◌>>=◌}

-- an empty line or a comment; a load of the next `count` lines; a load of an MO file with these bytes; a question to a
-- worker; the end of a round
pub data Line : Type 0 where
  Blank : Line
  Loads : (domain locale : List ℕ) (options : Options) (count : ℕ) → Line
  LoadsMo : (domain locale bytes : List ℕ) → Line
  Asks : (worker : ℕ) (query : QueryValue) → Line
  Goes : Line

-- the texts of a call of gettext: its msgid
abbrev pub plain_call : List (List ℕ) → Option AskValue
plain_call (id ∷ []) = do
  i ← unescaped_text id
  Some (Plain i)
plain_call _ = None

-- of pgettext: a context and a msgid
abbrev pub context_call : List (List ℕ) → Option AskValue
context_call (context ∷ id ∷ []) = do
  c ← unescaped_text context
  i ← unescaped_text id
  Some (Context c i)
context_call _ = None

-- of ngettext: a msgid, a plural and a number
abbrev pub number_call : List (List ℕ) → Option AskValue
number_call (id ∷ plural ∷ count ∷ []) = do
  i ← unescaped_text id
  p ← unescaped_text plural
  n ← number count
  Some (Number i p n)
number_call _ = None

-- of npgettext: a context, a msgid, a plural and a number
abbrev pub context_number_call : List (List ℕ) → Option AskValue
context_number_call (context ∷ id ∷ plural ∷ count ∷ []) = do
  c ← unescaped_text context
  i ← unescaped_text id
  p ← unescaped_text plural
  n ← number count
  Some (ContextNumber c i p n)
context_number_call _ = None

-- a call by its name and its texts
abbrev pub call_of : List ℕ → List (List ℕ) → Option AskValue
call_of name texts =
    if bytes_eq name (codes "gettext") then plain_call texts else
    if bytes_eq name (codes "pgettext") then context_call texts else
    if bytes_eq name (codes "ngettext") then number_call texts else
    if bytes_eq name (codes "npgettext") then context_number_call texts else None

-- after `load`: a domain, a locale, the options, and how many lines the text has
abbrev pub load_line : List (List ℕ) → Option Line
load_line (domain ∷ locale ∷ options ∷ count ∷ []) = do
  o ← options_of options
  n ← number count
  Some (Loads domain locale o n)
load_line _ = None

-- after `loadmo`: a domain, a locale, and the digits of an MO file
abbrev pub load_mo_line : List (List ℕ) → Option Line
load_mo_line (domain ∷ locale ∷ digits ∷ []) = do
  bytes ← hex_bytes digits
  Some (LoadsMo domain locale bytes)
load_mo_line _ = None

-- after `ask`: one of `workers` workers, a domain, a list of languages, and a call
abbrev pub ask_line : ℕ → List (List ℕ) → Option Line
ask_line workers (worker ∷ domain ∷ languages ∷ call ∷ texts) = do
  w ← worker_of workers worker
  a ← call_of call texts
  Some (Asks w (record { domain = domain; languages = languages; ask = a }))
ask_line workers _ = None

-- after `go`: nothing
abbrev pub go_line : List (List ℕ) → Option Line
go_line [] = Some Goes
go_line _ = None

-- a line by its first field
abbrev pub command_line : ℕ → List (List ℕ) → Option Line
command_line workers (word ∷ rest) =
    if bytes_eq word (codes "load") then load_line rest else
    if bytes_eq word (codes "loadmo") then load_mo_line rest else
    if bytes_eq word (codes "ask") then ask_line workers rest else
    if bytes_eq word (codes "go") then go_line rest else None
command_line workers [] = None

-- an empty line, or one that begins with `#`
abbrev pub is_blank : List ℕ → Bool
is_blank [] = true
is_blank (b ∷ text) = b == 35

-- what a line says in a script with `workers` workers, if such a script may have it
abbrev pub line_of : ℕ → List ℕ → Option Line
line_of workers text = if is_blank text then Some Blank else command_line workers (fields text)

-- `workers`, and how many there are
abbrev pub workers_line : List (List ℕ) → Option ℕ
workers_line (word ∷ count ∷ []) = if bytes_eq word (codes "workers") then worker_count count else None
workers_line _ = None
