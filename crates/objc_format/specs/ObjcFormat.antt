-- Formats of Objective-C, and the arguments that they ask for.
pub use Rattle.script_formats.specs.Collecting.{is_own, is_next}
use Rattle.std.specs.Prelude.{◌≡◌, ℕ, ◌-◌, nat_lt, Bool, true, false, not, ◌&&◌, if◌then◌else◌, List, Option, None}
use Rattle.std.specs.Prelude.{Some}
use Rattle.std.specs.List.{filter_map, flat_map, list_all, list_any}
use Rattle.format_arguments.specs.Text.{IsFormat}
use Rattle.numbered_arguments.specs.declared.Kind.TheVariants.{Any}
use Rattle.numbered_arguments.specs.declared.Numbered.{Numbered}
use Rattle.numbered_arguments.specs.declared.Request.{Request}
use Rattle.numbered_arguments.specs.NumberedArguments.{numbered_requests, is_consistent, fits_in}
use Rattle.objc_format.specs.declared.ObjcFault.{ObjcFault}
use Rattle.objc_format.specs.declared.ObjcFault.TheVariants as faults
use Rattle.objc_format.specs.declared.directive.Directive.{Directive}
use Rattle.objc_format.specs.ObjcDirectives.{percent, asks, DirectiveAt}

-- ---- lists

-- some have a number of their own, and some don't
abbrev pub mixes : List Request → Bool
mixes requests = list_any is_own requests && list_any is_next requests

-- the argument before this one, of whatever kind; None: it is the first
abbrev pub before : Numbered → Option Numbered
before a = if nat_lt 1 a.number then Some (record { number = a.number - 1; kind = Any }) else None

-- no number is left out: with each argument, the one before it is asked for too
abbrev pub is_gapless : List Numbered → Bool
is_gapless asked = fits_in (filter_map before asked) asked

abbrev pub is_list : List Numbered → Bool
is_list asked = is_consistent asked && is_gapless asked

-- all arguments have numbers, or none has; each number has one kind, and none is left out
abbrev pub fits : List Request → Bool
fits requests = not (mixes requests) && is_list (numbered_requests requests)

-- ---- texts

abbrev pub is_read : Directive → Bool
is_read d = d.is_read

-- the text is a format that asks for these arguments, and all its directives are read
abbrev pub HasSignature : List ℕ → List Numbered → Type 0
HasSignature text asked = (directives : List Directive) × IsFormat percent DirectiveAt directives text
    × (list_all is_read directives ≡ true) × (asked ≡ numbered_requests (flat_map asks directives))
    × (fits (flat_map asks directives) ≡ true)

-- up to a directive that is not read the text is directives and plain text
abbrev pub IsUnread : List ℕ → Type 0
IsUnread text = (directives : List Directive) × IsFormat percent DirectiveAt directives text
    × (list_all is_read directives ≡ false)

-- the text has this fault; Memory says nothing about the text
abbrev pub HasFault : List ℕ → ObjcFault → Type 0
HasFault text faults.Invalid = ((asked : List Numbered) → ¬ HasSignature text asked) × ¬ IsUnread text
HasFault text faults.Unread = IsUnread text
HasFault text faults.Memory = Unit {0}
