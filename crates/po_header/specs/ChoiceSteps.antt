-- Private: the steps with which the code chooses a form.
use Rattle.std.specs.Prelude.{◌≡◌, ℕ, ◌<◌, ◌%◌, Bool, ◌&&◌, ◌==◌, nat_le, if◌then◌else◌}
use Rattle.std.specs.Prelude.{List, [], ◌∷◌, ◌++◌, length, slice_index_or, Option, None, Some}
use Rattle.po_header.specs.declared.steps.Step.{Step}
use Rattle.po_header.specs.declared.steps.Step.TheVariants.{Value, Test}
use Rattle.po_header.specs.declared.token.Operator.{Operator}
use Rattle.po_header.specs.declared.tree.Node.{Node}
use Rattle.po_header.specs.Nodes.{node_tree}
use Rattle.po_header.specs.TreeValue.{value, choice, operator_value}

-- n, or its remainder if the modulus isn't 0
abbrev pub remainder_of : ℕ → ℕ → ℕ
remainder_of modulus n = if modulus == 0 then n else n % modulus

abbrev pub is_within : ℕ → ℕ → ℕ → Bool
is_within low high x = nat_le low x && nat_le x high

abbrev pub value_at : List (Option ℕ) → ℕ → Option ℕ
value_at found i = slice_index_or found i None

-- the value of a step after steps with these values
abbrev pub step_value : List (Option ℕ) → ℕ → Step → Option ℕ
step_value found n (Value v) = Some v
step_value found n (Test modulus low high inside outside) =
    if is_within low high (remainder_of modulus n) then value_at found inside else value_at found outside

abbrev pub values_from : List (Option ℕ) → ℕ → List Step → List (Option ℕ)
values_from found n [] = found
values_from found n (s ∷ steps) = values_from (found ++ (step_value found n s ∷ [])) n steps

-- the values of all steps
abbrev pub step_values : ℕ → List Step → List (Option ℕ)
step_values n steps = values_from [] n steps

-- the value at n of the step with this index
abbrev pub value_reached : List Step → ℕ → ℕ → Option ℕ
value_reached steps i n = value_at (step_values n steps) i

-- steps were appended, and the one with this index has these values
pub record AddsSteps (old new : List Step) (i : ℕ) (f : ℕ → Option ℕ) : Type 0 where
  pub more : List Step
  pub grown : new ≡ old ++ more
  pub there : i < length new
  pub reaches : (n : ℕ) → value_reached new i n ≡ f n

-- the value of a node
abbrev pub node_value : Node → ℕ → Option ℕ
node_value node n = value (node_tree node) n

-- the value of one of two steps, chosen by the value of a node
abbrev pub chosen_step : List Step → Node → ℕ → ℕ → ℕ → Option ℕ
chosen_step steps node here there n = choice (node_value node n) (value_reached steps here n)
    (value_reached steps there n)

-- the step continues at here if n, or its remainder, compares so with the bound, else at there
abbrev pub IsTest : Step → Operator → ℕ → ℕ → ℕ → ℕ → Type 0
IsTest step operator modulus bound here there =
    (found : List (Option ℕ)) (n : ℕ) → step_value found n step
    ≡ choice (operator_value operator (Some (remainder_of modulus n)) (Some bound)) (value_at found here)
    (value_at found there)
