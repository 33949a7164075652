-- Texts that directives stand in, for the formats of any language.
use Rattle.std.specs.Prelude.{◌≡◌, ℕ, Bool, true, not, ◌==◌, ◌<◌, List, [], ◌∷◌, ◌++◌, length}
use Rattle.std.specs.List.{list_all, flat_map}
use Rattle.format_arguments.specs.declared.FormatFault.{FormatFault}
use Rattle.format_arguments.specs.declared.FormatFault.TheVariants.{Invalid, Memory}
use Rattle.format_arguments.specs.Arguments.{Argument, is_consistent}

abbrev pub is_plain : ℕ → ℕ → Bool
is_plain mark b = not (b == mark)

-- text is bytes other than the mark, followed by rest
pub record SkipsPlain (mark : ℕ) (text rest : List ℕ) : Type 0 where
  pub plain : List ℕ
  pub text_is : text ≡ plain ++ rest
  pub no_mark : list_all (is_plain mark) plain ≡ true

-- each directive begins with one byte, the mark; `At d text rest` says that text is the directive d, followed by rest,
-- and `asks d` are the arguments that d asks for
module _ {D : Type 0} (mark : ℕ) (At : D → List ℕ → List ℕ → Type 0) where
  -- the text is these directives, with plain text before, between and behind them
  abbrev pub IsFormat : List D → List ℕ → Type 0
  IsFormat [] text = SkipsPlain mark text []
  IsFormat (d ∷ more) text =
      (at : List ℕ) × (after : List ℕ) × SkipsPlain mark text at × At d at after × IsFormat more after

  -- the text is a format that asks for these arguments, in this order
  abbrev pub Asks : (D → List Argument) → List ℕ → List Argument → Type 0
  Asks asks text asked = (directives : List D) × IsFormat directives text × (asked ≡ flat_map asks directives)
      × (is_consistent asked ≡ true)

  -- the text has this fault; Memory says nothing about the text
  abbrev pub Fails : (D → List Argument) → List ℕ → FormatFault → Type 0
  Fails asks text Invalid = (asked : List Argument) → ¬ Asks asks text asked
  Fails asks text Memory = Unit {0}

-- what holds of the directives of each language: one begins with the mark, and a text begins with at most one
pub record AreDirectives {D : Type 0} (mark : ℕ) (At : D → List ℕ → List ℕ → Type 0) : Type 0 where
  pub begins : (d : D) (text rest : List ℕ) → At d text rest → (behind : List ℕ) × (text ≡ mark ∷ behind)
  pub one : (d e : D) (text rest more : List ℕ) → At d text rest → At e text more → (d ≡ e) × (rest ≡ more)
  pub shorter : (d : D) (text rest : List ℕ) → At d text rest → length rest < length text
