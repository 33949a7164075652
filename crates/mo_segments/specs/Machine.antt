-- What the segments of system-dependent strings stand for on x86-64 Linux: the macros of the C standard, 7.8.1, and the
-- flag I of glibc's printf.
use Rattle.std.specs.Prelude.{ℕ, ◌&&◌, not, nat_lt, Bool, if◌then◌else◌, List, [], ◌∷◌, length, take, drop}
use Rattle.std.specs.Prelude.{slice_index, Option, Some, None, codes, ◌==◌}
use Rattle.std.specs.List.{list_any}
use Rattle.std.specs.Str.{bytes_eq}
use Rattle.mo_segments.specs.declared.machine.Value.{Value}

-- the text is one of these
abbrev pub is_one_of : List (List ℕ) → List ℕ → Bool
is_one_of texts text = list_any (λ t. bytes_eq text t) texts

-- the sizes whose types have at most 32 bits: these stand for the letter alone, since smaller arguments are promoted
abbrev pub is_plain : List ℕ → Bool
is_plain size = is_one_of (codes "8" ∷ codes "16" ∷ codes "32" ∷ codes "LEAST8" ∷ codes "LEAST16" ∷ codes "LEAST32"
    ∷ codes "FAST8" ∷ []) size

-- the sizes whose types have 64 bits: these stand for `l` and the letter
abbrev pub is_long : List ℕ → Bool
is_long size = is_one_of (codes "64" ∷ codes "LEAST64" ∷ codes "FAST16" ∷ codes "FAST32" ∷ codes "FAST64"
    ∷ codes "MAX" ∷ codes "PTR" ∷ []) size

-- the letter of a macro, and its size
abbrev pub letter_of : List ℕ → ℕ
letter_of name = slice_index name 3

abbrev pub size_of : List ℕ → List ℕ
size_of name = drop 4 name

-- PRI, and one of the letters d, i, o, u, x and X
abbrev pub begins_as_macro : List ℕ → Bool
begins_as_macro name = not (nat_lt (length name) 4) && bytes_eq (take 3 name) (codes "PRI")
    && list_any (λ c. c == letter_of name) (codes "diouxX")

-- what a macro stands for, if there is one of this name
abbrev pub macro : List ℕ → Option (List ℕ)
macro name =
    if is_plain (size_of name) then Some (letter_of name ∷ []) else
    if is_long (size_of name) then Some (108 ∷ letter_of name ∷ []) else None

-- what a segment stands for: a macro, or the flag I
abbrev pub value : List ℕ → Option (List ℕ)
value name =
    if bytes_eq name (codes "I") then Some (codes "I") else
    if begins_as_macro name then macro name else None

-- the text of a value: the letter, behind an `l` if it is long
abbrev pub value_text : Value → List ℕ
value_text v = if v.long then 108 ∷ v.letter ∷ [] else v.letter ∷ []
