-- Directives: their parameters, modifiers and conversion (Common Lisp HyperSpec, section 22.3; GNU Guile,
-- "Formatted Output").
pub use Rattle.byte_text.specs.Characters.{tilde}
use Rattle.std.specs.Prelude.{◌≡◌, ℕ, Bool, true, false, ◌||◌, ◌==◌, if◌then◌else◌, List, [], ◌∷◌, ◌++◌, Option, None}
use Rattle.std.specs.Prelude.{Some}
use Rattle.std.specs.List.{list_any}
use Rattle.format_arguments.specs.Bytes.{run, behind}
use Rattle.lisp_formats.specs.declared.Notation.{Notation}
use Rattle.lisp_formats.specs.declared.Kind.{Kind}
use Rattle.lisp_formats.specs.declared.Kind.TheVariants.{OptionalCharacter, OptionalInteger, Nil}
use Rattle.lisp_formats.specs.declared.parameters.Parameter.{Parameter}
use Rattle.lisp_formats.specs.declared.parameters.Parameter.TheVariants as parameter
use Rattle.lisp_formats.specs.declared.conversions.Conversion.{Conversion}
use Rattle.lisp_formats.specs.declared.conversions.Target.{Target}
use Rattle.lisp_formats.specs.declared.conversions.Target.TheVariants as targets
use Rattle.lisp_formats.specs.declared.directives.Directive as code
use Rattle.lisp_formats.specs.LispParameters.{AreParameters}
use Rattle.lisp_formats.specs.LispConversions.{conversion_of, expected_kinds, target_of}

-- what a directive asks for: the arguments for its parameters, and then its own
pub record Directive : Type 0 where
  pub variables : List Kind
  pub target : Target

abbrev pub view : code.Directive → Directive
view d = record { variables = d.variables.items; target = d.target }

-- ---- parameters

-- the kind of the next parameter, and those behind it; a parameter behind the expected ones has to be nil
abbrev pub next_expected : List Kind → Kind × List Kind
next_expected [] = (Nil, [])
next_expected (kind ∷ more) = (kind, more)

-- the parameter may stand where this kind is expected; an argument may always
abbrev pub allows : Kind → Parameter → Bool
allows OptionalInteger parameter.Number = true
allows kind parameter.Number = false
allows OptionalCharacter parameter.Character = true
allows kind parameter.Character = false
allows kind _ = true

-- the argument for a parameter
abbrev pub argument_for : Kind → Parameter → List Kind
argument_for kind parameter.Variable = kind ∷ []
argument_for kind _ = []

abbrev pub and_then : List Kind → Option (List Kind) → Option (List Kind)
and_then kinds None = None
and_then kinds (Some more) = Some (kinds ++ more)

-- the arguments for the parameters, where these kinds are expected; None: a parameter may not stand there
abbrev pub variables : List Kind → List Parameter → Option (List Kind)
variables kinds [] = Some []
variables kinds (p ∷ more) =
    if allows (next_expected kinds).0 p
    then and_then (argument_for (next_expected kinds).0 p) (variables (next_expected kinds).1 more) else None

-- ---- modifiers

abbrev pub is_colon : ℕ → Bool
is_colon b = b == 58

abbrev pub is_modifier : ℕ → Bool
is_modifier b = is_colon b || b == 64

-- whether there is a colon, and what follows the modifiers
abbrev pub modifiers : List ℕ → Bool × List ℕ
modifiers text = (list_any is_colon (run is_modifier text), behind is_modifier text)

-- ---- directives

abbrev pub directive_from : Target → List ℕ → Option (List Kind) → Option (Directive × List ℕ)
directive_from target rest None = None
directive_from target rest (Some variables) = Some (record { variables = variables; target = target }, rest)

-- behind a directive that is not read nothing is read
abbrev pub directive_to : Conversion → List Parameter → List ℕ → Target → Option (Directive × List ℕ)
directive_to conversion parameters rest targets.Unread = Some (record { variables = []; target = targets.Unread }, [])
directive_to conversion parameters rest target = directive_from target rest
    (variables (expected_kinds conversion) parameters)

abbrev pub behind_parameters : Conversion → Bool → List Parameter → List ℕ → Option (Directive × List ℕ)
behind_parameters conversion colon parameters rest =
    directive_to conversion parameters rest (target_of conversion colon parameters)

abbrev pub converted_if : Option Conversion → Bool → List Parameter → List ℕ → Option (Directive × List ℕ)
converted_if None colon parameters rest = None
converted_if (Some conversion) colon parameters rest = behind_parameters conversion colon parameters rest

abbrev pub behind_modifiers : Notation → List Parameter → Bool → List ℕ → Option (Directive × List ℕ)
behind_modifiers notation parameters colon [] = None
behind_modifiers notation parameters colon (letter ∷ rest) =
    converted_if (conversion_of notation letter) colon parameters rest

-- what stands behind the parameters: modifiers and a conversion
abbrev pub back : Notation → List Parameter → List ℕ → Option (Directive × List ℕ)
back notation parameters text = behind_modifiers notation parameters (modifiers text).0 (modifiers text).1

-- text is a `~` and this directive, followed by rest
abbrev pub DirectiveAt : Notation → Directive → List ℕ → List ℕ → Type 0
DirectiveAt notation d text rest = (inner : List ℕ) × (parameters : List Parameter) × (after : List ℕ)
    × (text ≡ tilde ∷ inner) × AreParameters parameters inner after
    × (back notation parameters after ≡ Some (d, rest))
