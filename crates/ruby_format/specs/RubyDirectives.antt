-- Directives of Ruby's formats, and what each refers to.
use Rattle.std.specs.Prelude.{◌≡◌, ℕ, zero, suc, ◌||◌, if◌then◌else◌, List, [], ◌∷◌, ◌++◌, Option, None, Some, is_some}
use Rattle.std.specs.Prelude.{option_map}
use Rattle.format_arguments.specs.declared.Kind.{Kind}
use Rattle.format_arguments.specs.declared.Kind.TheVariants.{Text, Integer}
use Rattle.ruby_format.specs.declared.parts.Amount.{Amount}
use Rattle.ruby_format.specs.declared.parts.Amount.TheVariants as amounts
use Rattle.ruby_format.specs.RubyPieces.{percent, Way, Next, Number, Name, Part, Flag, To, Width, Precision, part_at}
use Rattle.ruby_format.specs.RubyPieces.{Ending, Nothing, Asks, Braces, ending_at}

-- the kind is that of the argument that it asks for, if it asks for one beside its width and its precision
pub record Directive : Type 0 where
  pub to : Way
  pub width : Option Amount
  pub precision : Option Amount
  pub kind : Option Kind

-- ---- what a part may follow

-- a directive without parts
abbrev pub blank : Directive
blank = record { to = Next; width = None; precision = None; kind = None }

-- a number or a name comes once
abbrev pub with_way : Directive → Way → Way → Option Directive
with_way d Next way = Some (record d { to = way })
with_way d _ way = None

-- flags come before a width, a width once before a precision, and a precision once
abbrev pub with_part : Directive → Part → Option Directive
with_part d Flag = if is_some d.width || is_some d.precision then None else Some d
with_part d (To way) = with_way d d.to way
with_part d (Width amount) =
    if is_some d.width || is_some d.precision then None else Some (record d { width = Some amount })
with_part d (Precision amount) = if is_some d.precision then None else Some (record d { precision = Some amount })

abbrev pub with_kind : Kind → Directive → Directive
with_kind kind d = record d { kind = Some kind }

-- `%{name}` is the same as `%<name>s`
abbrev pub with_ending : Directive → Ending → Option Directive
with_ending d Nothing = Some d
with_ending d (Asks kind) = Some (with_kind kind d)
with_ending d (Braces name) = option_map (with_kind Text) (with_way d d.to (Name name))

-- ---- directives

-- text is n parts, each of which may follow those before it, followed by rest; they make one directive of the other
abbrev pub PartsAt : ℕ → Directive → Directive → List ℕ → List ℕ → Type 0
PartsAt zero from to text rest = (from ≡ to) × (text ≡ rest)
PartsAt (suc n) from to text rest = (part : Part) × (after : List ℕ) × (next : Directive)
    × (part_at text ≡ Some (part, after)) × (with_part from part ≡ Some next) × PartsAt n next to after rest

-- text is parts, as many as there are, followed by rest
pub record HasParts (d : Directive) (text rest : List ℕ) : Type 0 where
  pub count : ℕ
  pub parts_at : PartsAt count blank d text rest
  pub no_more : part_at rest ≡ None

-- text is `%`, parts and an end, followed by rest
pub record DirectiveAt (d : Directive) (text rest : List ℕ) : Type 0 where
  pub inner : List ℕ
  pub parts : Directive
  pub behind_parts : List ℕ
  pub ending : Ending
  pub begins : text ≡ percent ∷ inner
  pub has_parts : HasParts parts inner behind_parts
  pub ending_at : ending_at behind_parts ≡ Some (ending, rest)
  pub ends : with_ending parts ending ≡ Some d

-- ---- what a directive refers to

-- an argument, which is asked for if there is a kind
pub record Reference : Type 0 where
  pub to : Way
  pub kind : Option Kind

abbrev pub reference : Way → Option Kind → Reference
reference to kind = record { to = to; kind = kind }

abbrev pub amount_refers : Option Amount → List Reference
amount_refers (Some amounts.Next) = reference Next (Some Integer) ∷ []
amount_refers (Some (amounts.Number number)) = reference (Number number) (Some Integer) ∷ []
amount_refers _ = []

-- `%%` refers to nothing, and `%1$%` to an argument that it doesn't ask for
abbrev pub end_refers : Way → Option Kind → List Reference
end_refers Next None = []
end_refers to kind = reference to kind ∷ []

abbrev pub references : Directive → List Reference
references d = amount_refers d.width ++ amount_refers d.precision ++ end_refers d.to d.kind
