-- Texts whose directives ask for arguments by number, or for the next one.
use Rattle.std.specs.Prelude.{◌≡◌, ℕ, Bool, true, List}
use Rattle.std.specs.List.{flat_map}
use Rattle.format_arguments.specs.declared.FormatFault.{FormatFault}
use Rattle.format_arguments.specs.declared.FormatFault.TheVariants.{Invalid, Memory}
use Rattle.format_arguments.specs.Text.{IsFormat}
use Rattle.numbered_arguments.specs.declared.Numbered.{Numbered}
use Rattle.numbered_arguments.specs.declared.Request.{Request}
use Rattle.numbered_arguments.specs.NumberedArguments.{numbered_requests}

-- `At d text rest` says that text is the directive d, followed by rest, `requests d` is what d asks for, and
-- `fits asked` says that the language lets one format ask for all of these
module _ {D : Type 0} (mark : ℕ) (At : D → List ℕ → List ℕ → Type 0) (requests : D → List Request)
    (fits : List Request → Bool) where
  -- the text is a format that asks for these arguments, in this order
  abbrev pub AsksFor : List ℕ → List Numbered → Type 0
  AsksFor text asked = (directives : List D) × IsFormat mark At directives text
      × (asked ≡ numbered_requests (flat_map requests directives)) × (fits (flat_map requests directives) ≡ true)

  -- the text has this fault; Memory says nothing about the text
  abbrev pub Refuses : List ℕ → FormatFault → Type 0
  Refuses text Invalid = (asked : List Numbered) → ¬ AsksFor text asked
  Refuses text Memory = Unit {0}
