-- Private: the rows of two tables, and where their strings lie.
use Rattle.std.specs.Prelude.{ℕ, zero, suc, ◌+◌, ◌*◌, ◌<◌, ◌++◌, ◌==◌, if◌then◌else◌, List, [], ◌∷◌, length, count_by}
use Rattle.std.specs.Prelude.{Option, Some, None}
use Rattle.mo_image.specs.Tables.{word_at}
use Rattle.mo_tables.specs.MoTables.{IsOriginalText, IsTranslationText, HasLawfulForms}
use Rattle.mo_tables.specs.FileParts.{part}
use Rattle.mo_tables.specs.declared.rows.Span.{Span}
use Rattle.mo_tables.specs.declared.rows.Row.{Row}

-- the offset and the length that the row at this offset holds
abbrev pub span_at : (ℕ → List ℕ → ℕ) → List ℕ → ℕ → Span
span_at number bytes offset = record { start = word_at number bytes (offset + 4); len = word_at number bytes offset }

-- the row at these offsets of the two tables
abbrev pub row_at : (ℕ → List ℕ → ℕ) → List ℕ → ℕ → ℕ → Row
row_at number bytes o t = record { original = span_at number bytes o; translation = span_at number bytes t }

-- the first n elements of a sequence
abbrev pub first_elements : {X : Type 0} → (ℕ → X) → ℕ → List X
first_elements f zero = []
first_elements f (suc n) = first_elements f n ++ f n ∷ []

-- the n rows from these offsets on
abbrev pub rows : (ℕ → List ℕ → ℕ) → List ℕ → ℕ → ℕ → ℕ → List Row
rows number bytes o t n = first_elements (λ i. row_at number bytes (o + 8 * i) (t + 8 * i)) n

-- the string of a span
abbrev pub text_in : List ℕ → Span → List ℕ
text_in bytes span = part bytes span.start (span.start + span.len)

-- the string of a span and one more byte after it lie in the file
abbrev pub LiesIn : List ℕ → Span → Type 0
LiesIn bytes span = span.start + span.len < length bytes

-- both strings of the row lie in the file
abbrev pub RowLies : List ℕ → Row → Type 0
RowLies bytes row = LiesIn bytes row.original × LiesIn bytes row.translation

-- both strings of the row are lawful texts
abbrev pub HasTexts : List ℕ → Row → Type 0
HasTexts bytes row = IsOriginalText (text_in bytes row.original) × IsTranslationText (text_in bytes row.translation)

-- both strings of the row have lawful forms
abbrev pub HasForms : List ℕ → Row → Type 0
HasForms bytes row = HasLawfulForms (text_in bytes row.original) (text_in bytes row.translation)

-- the number of NULs in a string
abbrev pub nuls : List ℕ → ℕ
nuls text = count_by (λ b. b == 0) text

-- the translation of an original without a plural
abbrev pub single_translation : List ℕ → Row → Option Span
single_translation bytes row = if nuls (text_in bytes row.original) == 0 then Some row.translation else None
