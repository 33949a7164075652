-- Directives with and without macros, and what each asks for.
use Rattle.std.specs.Prelude.{ℕ, List, [], ◌∷◌, ◌++◌, map, Option}
use Rattle.c_signature.specs.Pieces.{Amount}
use Rattle.c_signature.specs.Directives as c
pub use Rattle.c_signature.specs.Directives.{Head, HeadAt, own_argument}
use Rattle.c_signature.specs.Signature as plain
pub use Rattle.c_macros.specs.declared.requests.Request.{Request}
pub use Rattle.c_macros.specs.Macros.{MacroAt, Kind, Plain}

-- a directive of the C standard, or one with a macro in place of its length modifier and conversion
pub data Directive : Type 0 where
  Spelled : (directive : c.Directive) → Directive
  Named : (head : Head) (kind : Kind) → Directive

-- text is `%`, a number, flags, a width, a precision and a macro that takes this kind, followed by rest
pub record NamedAt (head : Head) (kind : Kind) (text rest : List ℕ) : Type 0 where
  pub behind_head : List ℕ
  pub head_at : HeadAt head text behind_head
  pub macro_at : MacroAt kind behind_head rest

-- text is the directive, followed by rest
abbrev pub DirectiveAt : Directive → List ℕ → List ℕ → Type 0
DirectiveAt (Spelled d) text rest = c.DirectiveAt d text rest
DirectiveAt (Named head kind) text rest = NamedAt head kind text rest

-- ---- what directives ask for

abbrev pub request : Option ℕ → Kind → Request
request number kind = record { number = number; kind = kind }

abbrev pub plain_request : plain.Request → Request
plain_request r = request r.number (Plain r.kind)

-- C standard, 7.21.6.1, 5: a `*` takes an `int`
abbrev pub amounts : Amount → List Request
amounts amount = map plain_request (plain.amount_requests amount)

-- C standard, 7.21.6.1, 5: the width's argument comes first, then the precision's, then the directive's own
abbrev pub requests : Directive → List Request
requests (Spelled d) =
    amounts d.head.width ++ amounts d.head.precision
    ++ map plain_request (plain.argument_requests d.head.number (own_argument d))
requests (Named head kind) = amounts head.width ++ amounts head.precision ++ request head.number kind ∷ []
