-- Start-tags and the tags of empty elements (W3C, "Extensible Markup Language (XML) 1.0", section 3.1).
use Rattle.std.specs.Prelude.{◌≡◌, ℕ, Bool, true, false, ◌&&◌, ◌||◌, ◌==◌, if◌then◌else◌, List, [], ◌∷◌}
use Rattle.std.specs.Prelude.{Option, None, Some}
use Rattle.std.specs.List.{list_any}
use Rattle.std.specs.Str.{bytes_eq}
use Rattle.format_arguments.specs.Bytes.{run, behind}
use Rattle.kuit_formats.specs.declared.bytes.Class.TheVariants.{Name}
use Rattle.kuit_formats.specs.KuitBytes.{is_in, behind_blanks, begins_blank}
use Rattle.kuit_formats.specs.KuitCharacters.{is_name}
use Rattle.kuit_formats.specs.KuitReferences.{refers_to_none}

-- ---- values

-- what follows the quote that ends a value; a value has no `<`, and refers to characters alone
abbrev pub behind_value : ℕ → List ℕ → Option (List ℕ)
behind_value quote [] = None
behind_value quote (b ∷ more) =
    if b == quote then Some more
    else if b == 60 || (b == 38 && refers_to_none more) then None
    else behind_value quote more

-- `"` or `'`, and a value
abbrev pub behind_quoted : List ℕ → Option (List ℕ)
behind_quoted [] = None
behind_quoted (b ∷ more) =
    if b == 34 then behind_value 34 more else if b == 39 then behind_value 39 more else None

-- `=`, and a value, maybe behind blanks
abbrev pub behind_equals : List ℕ → Option (List ℕ)
behind_equals [] = None
behind_equals (b ∷ more) = if b == 61 then behind_quoted (behind_blanks more) else None

-- ---- parts of a tag

-- the next part, with what follows it: an attribute, or the end of the tag, maybe that of an empty element
pub data Part : Type 0 where
  Attribute : (name rest : List ℕ) → Part
  End : (empty : Bool) (rest : List ℕ) → Part

abbrev pub attribute_of : List ℕ → Option (List ℕ) → Option Part
attribute_of name None = None
attribute_of name (Some rest) = Some (Attribute name rest)

-- a name, maybe blanks, `=`, maybe blanks, and a value
abbrev pub attribute : List ℕ → Option Part
attribute text =
    if is_name (run (is_in Name) text)
    then attribute_of (run (is_in Name) text) (behind_equals (behind_blanks (behind (is_in Name) text))) else None

abbrev pub empty_end : List ℕ → Option Part
empty_end [] = None
empty_end (b ∷ more) = if b == 62 then Some (End true more) else None

-- behind blanks, if there are any: `>`, `/>`, or an attribute, which needs a blank before it
abbrev pub part_behind : Bool → List ℕ → Option Part
part_behind spaced [] = None
part_behind spaced (b ∷ more) =
    if b == 62 then Some (End false more)
    else if b == 47 then empty_end more
    else if spaced then attribute (b ∷ more) else None

abbrev pub part : List ℕ → Option Part
part text = part_behind (begins_blank text) (behind_blanks text)

-- ---- tags

abbrev pub is_among : List (List ℕ) → List ℕ → Bool
is_among names name = list_any (λ other. bytes_eq other name) names

-- the text is attributes of these names and the end of the tag, followed by rest; no name comes twice, nor is it one of
-- those before
abbrev pub AttributesAt : List (List ℕ) → List (List ℕ) → List ℕ → Bool → List ℕ → Type 0
AttributesAt before [] text empty rest = part text ≡ Some (End empty rest)
AttributesAt before (name ∷ names) text empty rest =
    (more : List ℕ) × (part text ≡ Some (Attribute name more)) × (is_among before name ≡ false)
    × AttributesAt (name ∷ before) names more empty rest

-- so it is for some names
abbrev pub TagEnds : List (List ℕ) → List ℕ → Bool → List ℕ → Type 0
TagEnds before text empty rest = (names : List (List ℕ)) × AttributesAt before names text empty rest
