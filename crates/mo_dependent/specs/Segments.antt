-- The segments of a file: each name once, numbered in the order of first use.
use Rattle.std.specs.Prelude.{ℕ, suc, ◌+◌, nat_lt, if◌then◌else◌, List, [], ◌∷◌, ◌++◌, length, map}
use Rattle.std.specs.List.{flat_map}
use Rattle.std.specs.Str.{bytes_eq}
pub use Rattle.mo_image.specs.MoFile.{word}
use Rattle.mo_dependent.specs.Splits.{name_at, SplitText, Dependent}

-- the number of a name: how many names are before it
abbrev pub index_of : List (List ℕ) → List ℕ → ℕ
index_of [] name = 0
index_of (n ∷ ns) name = if bytes_eq n name then 0 else suc (index_of ns name)

abbrev pub add_name : List (List ℕ) → List ℕ → List (List ℕ)
add_name names name = if nat_lt (index_of names name) (length names) then names else names ++ name ∷ []

-- the names after some uses
abbrev pub names_after : List (List ℕ) → List (List ℕ) → List (List ℕ)
names_after names [] = names
names_after names (n ∷ ns) = names_after (add_name names n) ns

-- what a text uses
abbrev pub names_of : SplitText → List (List ℕ)
names_of text = map (name_at text.bytes.items) text.splits.items

-- what messages use: each message's original before its translation
abbrev pub uses : List Dependent → List (List ℕ)
uses messages = flat_map (λ m. names_of m.original ++ names_of m.translation) messages

abbrev pub segments : List Dependent → List (List ℕ)
segments messages = names_after [] (uses messages)

-- the table of the segments, whose strings begin at this offset: the length with the NUL, and the offset
abbrev pub segment_rows : ℕ → List (List ℕ) → List ℕ
segment_rows at [] = []
segment_rows at (n ∷ ns) = word (length n + 1) ++ word at ++ segment_rows (at + (length n + 1)) ns
