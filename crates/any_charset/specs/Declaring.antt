-- The charset that a PO text declares, looked up in its bytes (GNU gettext manual, "Header Entry": Content-Type).

-- The header is looked for where PO files have it, at the front of the text: comments and empty lines, a line
-- `msgid ""`, and the lines of its msgstr, each with one string. Lines end with LF or CRLF; GNU msgfmt takes a CR
-- for white space. A header in another form declares nothing (ours).
use Rattle.std.specs.Prelude.{◌≡◌, ℕ, ◌+◌, ◌==◌, ◌||◌, not, nat_eq, Bool, if◌then◌else◌, List, [], ◌∷◌, ◌++◌}
use Rattle.std.specs.Prelude.{Some, length, take, drop, codes}
use Rattle.std.specs.List.{starts_with, slice_split, prefix_len}
use Rattle.std.specs.Str.{bytes_eq}
use Rattle.memchr.specs.Find.{FindsNeedle}
use Rattle.charsets.specs.Naming.{IsNameOf}
use Rattle.charsets.specs.declared.kinds.Charset.{Charset}
use Rattle.any_charset.specs.declared.front.Stage.{Stage}
use Rattle.any_charset.specs.declared.front.Stage.TheVariants.{Before, AfterMsgid, InHeader, Elsewhere}

-- ---- the header at the front

-- LF separates lines; a CR before it stays in the line that it ends
abbrev pub lines : List ℕ → List (List ℕ)
lines text = slice_split (λ b. b == 10) text

-- an empty line, which may have a CR, or a comment
abbrev pub is_gap : List ℕ → Bool
is_gap line = bytes_eq line [] || bytes_eq line (codes "\r") || starts_with nat_eq line (codes "#")

-- the line of the header's msgid, which may end with a CR
abbrev pub is_header_msgid : List ℕ → Bool
is_header_msgid line = bytes_eq line (codes "msgid \"\"") || bytes_eq line (codes "msgid \"\"\r")

-- where a line leads from a stage: before the header's msgid, after it, in the header's msgstr, or elsewhere
abbrev pub stage_behind : Stage → List ℕ → Stage
stage_behind Before line =
    if is_gap line then Before else (if is_header_msgid line then AfterMsgid else Elsewhere)
stage_behind AfterMsgid line = if starts_with nat_eq line (codes "msgstr \"") then InHeader else Elsewhere
stage_behind InHeader line = if starts_with nat_eq line (codes "\"") then InHeader else Elsewhere
stage_behind Elsewhere line = Elsewhere

-- where these lines lead
abbrev pub stage_after : Stage → List (List ℕ) → Stage
stage_after stage [] = stage
stage_after stage (line ∷ more) = stage_after (stage_behind stage line) more

-- ---- the charset

abbrev pub charset_mark : List ℕ
charset_mark = codes "charset="

-- a byte of a charset's name: no white space, and neither a backslash nor a quote, which end it in a string
abbrev pub is_name_byte : ℕ → Bool
is_name_byte b = not (b == 32 || b == 9 || b == 10 || b == 92 || b == 34)

-- the length of the name that a text begins with
abbrev pub name_len : List ℕ → ℕ
name_len text = prefix_len is_name_byte text

-- the first `charset=` of the text is at this offset, and is followed by a name of the charset; renamed is the text
-- with `UTF-8` in place of the name
pub record NamesAt (text : List ℕ) (at : ℕ) (charset : Charset) (renamed : List ℕ) : Type 0 where
  pub first : FindsNeedle text charset_mark 0 (Some at)
  pub after : List ℕ
  pub after_is : after ≡ drop (at + length charset_mark) text
  pub named : IsNameOf charset (take (name_len after) after)
  pub renamed_is : renamed
      ≡ take (at + length charset_mark) text ++ codes "UTF-8" ++ drop (name_len after) after

-- no charset that is known here follows the first `charset=` of the text
abbrev pub NamesNone : List ℕ → Type 0
NamesNone text = (at : ℕ) (charset : Charset) (renamed : List ℕ) → ¬ NamesAt text at charset renamed

-- the charset that the first `charset=` of the text names, where that is in the header
pub record Declares (text : List ℕ) (charset : Charset) (renamed : List ℕ) : Type 0 where
  pub at : ℕ
  pub names : NamesAt text at charset renamed
  pub header : stage_after Before (lines (take at text)) ≡ InHeader

-- the text declares no charset that is known here
abbrev pub DeclaresNone : List ℕ → Type 0
DeclaresNone text = (charset : Charset) (renamed : List ℕ) → ¬ Declares text charset renamed
