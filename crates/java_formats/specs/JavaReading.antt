-- Private: how far a pattern was read.
use Rattle.std.specs.Prelude.{◌≡◌, ℕ, ◌+◌, List, [], ◌∷◌, ◌++◌, length, option_map}
use Rattle.format_arguments.specs.declared.FormatFault.{FormatFault}
use Rattle.format_arguments.specs.declared.FormatFault.TheVariants.{Invalid, Memory}
use Rattle.java_formats.specs.declared.Sort.{Sort}
use Rattle.java_formats.specs.declared.reading.Text as code_text
use Rattle.java_formats.specs.declared.reading.Found.{Found}
use Rattle.java_formats.specs.declared.steps.Step as code_step
use Rattle.java_formats.specs.JavaSteps.{Step, Leads}
use Rattle.java_formats.specs.JavaFormat.{asked_in}

abbrev pub step_view : code_step.Step → Step
step_view s = record {
  asked = s.asked;
  nested = option_map (λ text. text.now) s.nested;
  rest = option_map (λ text. text.now) s.rest;
}

-- the texts that wait, the last one first
abbrev pub waiting_texts : List code_text.Text → List (Sort × List ℕ)
waiting_texts [] = []
waiting_texts (text ∷ more) = waiting_texts more ++ (text.sort, text.bytes.items) ∷ []

-- each text counts one more than its bytes
abbrev pub weight : List (Sort × List ℕ) → ℕ
weight [] = 0
weight (text ∷ more) = 1 + length text.1 + weight more

-- steps lead from the texts to those that wait now, and what they take was added
abbrev pub Reads : List (Sort × List ℕ) → Found → Found → Type 0
Reads texts old new =
    (steps : List Step) × Leads texts steps (waiting_texts new.pending.items)
    × (new.asked.items ≡ old.asked.items ++ asked_in steps)

-- no steps lead through the texts; Memory says nothing about them
abbrev pub Blocks : List (Sort × List ℕ) → FormatFault → Type 0
Blocks texts Invalid = (steps : List Step) → ¬ Leads texts steps []
Blocks texts Memory = Unit {0}
