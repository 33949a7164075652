-- Characters of the text, comments, instructions, sections and tags (W3C, "Extensible Markup Language (XML) 1.0",
-- sections 2.4 to 2.7 and 3.1).
use Rattle.std.specs.Prelude.{ℕ, Bool, true, false, not, ◌&&◌, ◌||◌, ◌==◌, nat_eq, if◌then◌else◌, List, [], ◌∷◌, codes}
use Rattle.std.specs.Prelude.{Option, None, Some}
use Rattle.std.specs.List.{starts_with}
use Rattle.format_arguments.specs.Bytes.{run, behind}
use Rattle.kuit_formats.specs.declared.bytes.Class.TheVariants.{Name}
use Rattle.kuit_formats.specs.KuitBytes.{is_in, behind_blanks, begins_blank, behind_word, behind_mark}
use Rattle.kuit_formats.specs.KuitCharacters.{is_name}
use Rattle.kuit_formats.specs.KuitReferences.{refers_to_none}

-- what comes next, with what follows it: a byte of the text or what stands between others, `<` and the name of a
-- start-tag, or an end-tag
pub data Token : Type 0 where
  Item : (rest : List ℕ) → Token
  Start : (name rest : List ℕ) → Token
  End : (name rest : List ℕ) → Token

abbrev pub item : Option (List ℕ) → Option Token
item None = None
item (Some rest) = Some (Item rest)

abbrev pub behind_greater : List ℕ → Option (List ℕ)
behind_greater [] = None
behind_greater (b ∷ more) = if b == 62 then Some more else None

abbrev pub greater_behind : Option (List ℕ) → Option (List ℕ)
greater_behind None = None
greater_behind (Some rest) = behind_greater rest

-- ---- comments and sections

-- behind `<!--`: the first `--` ends the comment, and `>` follows it (section 2.5)
abbrev pub behind_comment : List ℕ → Option (List ℕ)
behind_comment text = greater_behind (behind_mark (codes "--") text)

abbrev pub section_behind : Option (List ℕ) → Option (List ℕ)
section_behind None = None
section_behind (Some rest) = behind_mark (codes "]]>") rest

-- behind `<!`: a section ends with the first `]]>` (section 2.7)
abbrev pub behind_section : List ℕ → Option (List ℕ)
behind_section text = section_behind (behind_word (codes "[CDATA[") text)

abbrev pub comment_behind : List ℕ → Option (List ℕ) → Option (List ℕ)
comment_behind text None = behind_section text
comment_behind text (Some rest) = behind_comment rest

abbrev pub behind_declaration : List ℕ → Option (List ℕ)
behind_declaration text = comment_behind text (behind_word (codes "--") text)

-- ---- instructions

-- `xml`, in letters of either case
abbrev pub is_xml : List ℕ → Bool
is_xml (x ∷ m ∷ l ∷ []) = (x == 120 || x == 88) && (m == 109 || m == 77) && (l == 108 || l == 76)
is_xml _ = false

-- behind the target: `?>`, or a blank and all up to the first `?>`
abbrev pub behind_data : List ℕ → Option (List ℕ)
behind_data text = if begins_blank text then behind_mark (codes "?>") text else behind_word (codes "?>") text

-- behind `<?`: a target, which isn't `xml`, and its data (section 2.6)
abbrev pub behind_instruction : List ℕ → Option (List ℕ)
behind_instruction text =
    if is_name (run (is_in Name) text) && not (is_xml (run (is_in Name) text))
    then behind_data (behind (is_in Name) text) else None

-- ---- tags

abbrev pub start : List ℕ → Option Token
start text =
    if is_name (run (is_in Name) text) then Some (Start (run (is_in Name) text) (behind (is_in Name) text)) else None

abbrev pub end_of : List ℕ → Option (List ℕ) → Option Token
end_of name None = None
end_of name (Some rest) = Some (End name rest)

-- behind `</`: a name, maybe blanks, and `>` (section 3.1)
abbrev pub end : List ℕ → Option Token
end text =
    if is_name (run (is_in Name) text)
    then end_of (run (is_in Name) text) (behind_greater (behind_blanks (behind (is_in Name) text))) else None

-- behind `<`
abbrev pub markup : List ℕ → Option Token
markup [] = start []
markup (b ∷ more) =
    if b == 47 then end more
    else if b == 63 then item (behind_instruction more)
    else if b == 33 then item (behind_declaration more)
    else start (b ∷ more)

-- ---- all of these

-- a `&` doesn't refer to a number that is no character's, and no `]` begins `]]>` (sections 2.4 and 4.1)
abbrev pub is_plain : ℕ → List ℕ → Bool
is_plain b more =
    if b == 38 then not (refers_to_none more)
    else if b == 93 then not (starts_with nat_eq more (codes "]>")) else true

abbrev pub token : List ℕ → Option Token
token [] = None
token (b ∷ more) =
    if b == 60 then markup more
    else if is_plain b more then Some (Item more) else None
