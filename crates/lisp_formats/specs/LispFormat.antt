-- Formats of Scheme and of Lisp, and the arguments that they ask for.
use Rattle.std.specs.Prelude.{◌≡◌, ℕ, Bool, true, false, List, [], ◌∷◌, ◌++◌}
use Rattle.std.specs.List.{fold, list_all}
use Rattle.format_arguments.specs.Text.{IsFormat}
use Rattle.lisp_formats.specs.declared.Notation.{Notation}
use Rattle.lisp_formats.specs.declared.Kind.{Kind}
use Rattle.lisp_formats.specs.declared.Kind.TheVariants.{Any}
use Rattle.lisp_formats.specs.declared.LispFault.{LispFault}
use Rattle.lisp_formats.specs.declared.LispFault.TheVariants as faults
use Rattle.lisp_formats.specs.declared.conversions.Target.{Target}
use Rattle.lisp_formats.specs.declared.conversions.Target.TheVariants.{Nothing, Next, Previous, Unread}
use Rattle.lisp_formats.specs.LispDirectives.{Directive, tilde, DirectiveAt}

-- ---- arguments

-- the previous argument once more, or the first one: it may be of any kind
abbrev pub with_previous : List Kind → List Kind
with_previous [] = Any ∷ []
with_previous (kind ∷ more) = kind ∷ more

abbrev pub with_target : List Kind → Target → List Kind
with_target asked Nothing = asked
with_target asked (Next kind) = asked ++ kind ∷ []
with_target asked Previous = with_previous asked
with_target asked Unread = asked

-- what was asked for, and what a directive asks for behind it
abbrev pub with_directive : List Kind → Directive → List Kind
with_directive asked d = with_target (asked ++ d.variables) d.target

-- what directives ask for, in their order
abbrev pub asked_by : List Directive → List Kind
asked_by directives = fold with_directive [] directives

-- ---- texts

abbrev pub is_read_target : Target → Bool
is_read_target Unread = false
is_read_target _ = true

abbrev pub is_read : Directive → Bool
is_read d = is_read_target d.target

-- the text is a format that asks for arguments of these kinds, in this order, and all its directives are read
abbrev pub HasSignature : Notation → List ℕ → List Kind → Type 0
HasSignature notation text asked = (directives : List Directive)
    × IsFormat tilde (DirectiveAt notation) directives text × (list_all is_read directives ≡ true)
    × (asked ≡ asked_by directives)

-- up to a directive that is not read the text is a format
abbrev pub IsUnread : Notation → List ℕ → Type 0
IsUnread notation text = (directives : List Directive) × IsFormat tilde (DirectiveAt notation) directives text
    × (list_all is_read directives ≡ false)

-- up to the first directive that can't be read the text has this fault; Memory says nothing about the text
abbrev pub HasFault : Notation → List ℕ → LispFault → Type 0
HasFault notation text faults.Invalid =
    ((asked : List Kind) → ¬ HasSignature notation text asked) × ¬ IsUnread notation text
HasFault notation text faults.Unread = IsUnread notation text
HasFault notation text faults.Memory = Unit {0}
