-- The elements of patterns and the patterns of choices, one by one (java.text.MessageFormat, "Patterns and Their
-- Interpretation"; java.text.ChoiceFormat, "Patterns").
use Rattle.std.specs.Prelude.{◌≡◌, ℕ, false, ◌==◌, if◌then◌else◌, List, [], ◌∷◌, ◌++◌, take, drop, Option, None, Some}
use Rattle.numbered_arguments.specs.declared.Numbered.{Numbered}
use Rattle.java_formats.specs.declared.Sort.{Sort}
use Rattle.java_formats.specs.declared.Sort.TheVariants.{Pattern, Choices}
use Rattle.java_formats.specs.JavaQuotes.{open_brace, bar, at_most, len_before, inner_len, number_len, unquoted_text}
use Rattle.java_formats.specs.JavaElements.{element, behind_word}

-- what comes next in a text: the argument that it takes, the text nested in it, and what follows; at the end nothing
pub record Step : Type 0 where
  pub asked : Option Numbered
  pub nested : Option (List ℕ)
  pub rest : Option (List ℕ)

abbrev pub end : Step
end = record { asked = None; nested = None; rest = None }

-- ---- patterns

abbrev pub element_step : List ℕ → Option (Numbered × Option (List ℕ)) → Option Step
element_step rest None = None
element_step rest (Some e) = Some (record { asked = Some e.0; nested = e.1; rest = Some rest })

abbrev pub closed_step : List ℕ → List ℕ → Option Step
closed_step inner [] = None
closed_step inner (b ∷ rest) = element_step rest (element inner)

-- behind an opening brace
abbrev pub braces_step : List ℕ → Option Step
braces_step text = closed_step (take (inner_len 0 text) text) (drop (inner_len 0 text) text)

-- at the first brace that isn't quoted, or at the end
abbrev pub brace_step : List ℕ → Option Step
brace_step [] = Some end
brace_step (b ∷ more) = if b == open_brace then braces_step more else None

abbrev pub pattern_step : List ℕ → Option Step
pattern_step text = brace_step (drop (len_before Pattern false text) text)

-- ---- choices

abbrev pub behind_separator : List ℕ → Option (List ℕ)
behind_separator [] = None
behind_separator (b ∷ more) =
    if b == bar then None else if b == 60 then Some more else if b == 35 then Some more
    else behind_word at_most (b ∷ more)

abbrev pub behind_bar : List ℕ → List ℕ
behind_bar [] = []
behind_bar (b ∷ more) = more

-- the pattern up to the first `|` that isn't quoted
abbrev pub part_step : Option (List ℕ) → Option Step
part_step None = None
part_step (Some text) = Some (record {
  asked = None;
  nested = Some (take (len_before Choices false text) text);
  rest = Some (behind_bar (drop (len_before Choices false text) text));
})

-- at the end of the choice's number: one without a separator is no choice, and ends the text
abbrev pub number_step : ℕ → List ℕ → Option Step
number_step len [] = Some end
number_step len (b ∷ more) = if len == 0 then None else part_step (behind_separator (b ∷ more))

abbrev pub choice_step : List ℕ → Option Step
choice_step text = number_step (number_len false false text) (drop (number_len false false text) text)

-- ---- both

abbrev pub step : Sort → List ℕ → Option Step
step Pattern text = pattern_step text
step Choices text = choice_step text

-- the choices of an element are as they stand there, and the pattern of a choice is so without its quotes
abbrev pub nested_in : Sort → List ℕ → Sort × List ℕ
nested_in Pattern choices = (Choices, choices)
nested_in Choices pattern = (Pattern, unquoted_text pattern)

abbrev pub rest_texts : Sort → Option (List ℕ) → List (Sort × List ℕ)
rest_texts sort None = []
rest_texts sort (Some rest) = (sort, rest) ∷ []

abbrev pub nested_texts : Sort → Option (List ℕ) → List (Sort × List ℕ)
nested_texts sort None = []
nested_texts sort (Some nested) = nested_in sort nested ∷ []

-- the texts that stand for a text after a step in it
abbrev pub texts_behind : Sort → Step → List (Sort × List ℕ)
texts_behind sort s = rest_texts sort s.rest ++ nested_texts sort s.nested

-- the steps lead from the old texts to the new ones, each in the first text that there is
abbrev pub Leads : List (Sort × List ℕ) → List Step → List (Sort × List ℕ) → Type 0
Leads old [] new = old ≡ new
Leads [] (s ∷ steps) new = ⊥
Leads (text ∷ more) (s ∷ steps) new =
    (step text.0 text.1 ≡ Some s) × Leads (texts_behind text.0 s ++ more) steps new
