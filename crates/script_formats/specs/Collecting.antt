-- What directives ask for, with numbers, and which languages let one format have arguments with numbers and without.
use Rattle.std.specs.Prelude.{◌≡◌, Bool, true, not, ◌&&◌, List, ◌++◌, is_some, is_none}
use Rattle.std.specs.List.{list_any}
use Rattle.numbered_arguments.specs.declared.Request.{Request}
use Rattle.numbered_arguments.specs.NumberedArguments.{list_of}
use Rattle.numbered_arguments.specs.NumberingStates.{HasNumbered}
use Rattle.script_formats.specs.declared.Notation.{Notation}
use Rattle.script_formats.specs.declared.Notation.TheVariants.{JavaScript, Tcl, Awk, Boost}
use Rattle.script_formats.specs.declared.directive.Directive.{Directive}
use Rattle.script_formats.specs.declared.adding.Used.{Used}
use Rattle.script_formats.specs.declared.adding.Collected.{Collected}

-- what a directive asks for, in this order
abbrev pub asks : Directive → List Request
asks d = list_of d.index ++ list_of d.separator ++ list_of d.vector ++ list_of d.width ++ list_of d.precision
    ++ list_of d.argument

abbrev pub is_own : Request → Bool
is_own r = is_some r.number

abbrev pub is_next : Request → Bool
is_next r = is_none r.number

-- whether a format may have arguments with numbers of their own, and without
abbrev pub allows : Notation → Bool → Bool → Bool
allows JavaScript own next = not (own && next)
allows Tcl own next = not (own && next)
allows Awk own next = not (own && next)
allows Boost own next = not (own && next)
allows _ own next = true

-- ---- the code's state

pub record HasUsed (requests : List Request) (used : Used) : Type 0 where
  pub own : used.own ≡ list_any is_own requests
  pub next : used.next ≡ list_any is_next requests

abbrev pub AddsUses : Used → Used → List Request → Type 0
AddsUses old new more = (requests : List Request) → HasUsed requests old → HasUsed (requests ++ more) new

pub record HasCollected (requests : List Request) (collected : Collected) : Type 0 where
  pub numbered : HasNumbered requests collected.numbering
  pub used : HasUsed requests collected.used

-- these were also collected
abbrev pub Adds : Collected → Collected → List Request → Type 0
Adds old new more = (requests : List Request) → HasCollected requests old → HasCollected (requests ++ more) new
