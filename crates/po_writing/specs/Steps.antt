-- Private: what is written of a string's bytes one after another.
use Rattle.std.specs.Prelude.{ℕ, Bool, true, false, ◌&&◌, ◌==◌, if◌then◌else◌, List, [], ◌∷◌, ◌++◌}
use Rattle.po_writing.specs.Written.{written_byte}

abbrev pub has_more : List ℕ → Bool
has_more [] = false
has_more (b ∷ more) = true

-- whether a line ends before the end of the text
abbrev pub is_several : List ℕ → Bool
is_several [] = false
is_several (b ∷ more) = if b == 10 then has_more more else is_several more

-- between two lines: a quote, LF and a quote
abbrev pub seam : ℕ → List ℕ → List ℕ
seam b more = if has_more more && b == 10 then 34 ∷ 10 ∷ 34 ∷ [] else []

-- what follows the opening quote of a text's lines
abbrev pub behind_quote : Bool → List ℕ → List ℕ
behind_quote escape [] = 34 ∷ 10 ∷ []
behind_quote escape (b ∷ more) = written_byte escape b ++ (seam b more ++ behind_quote escape more)

-- the empty part in front of several lines
abbrev pub empty_part : Bool → List ℕ
empty_part true = 34 ∷ 34 ∷ 10 ∷ []
empty_part false = []
