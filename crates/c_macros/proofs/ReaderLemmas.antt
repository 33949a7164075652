-- What the readers of heads, tails and directives return, and what is no directive.
use Rattle.std.proofs.Common.{◌≡◌, ℕ, ◌-◌, ◌≤◌, List, [], ◌∷◌, ◌++◌, map, length, Option, None, Some}
use Rattle.std.proofs.Common.{refl, sym, ap, subst, ◌∙◌, arith}
use Rattle.std.proofs.lemmas.List.{append-nil}
use Rattle.c_signature.specs.Pieces.{Modifier, Longest, ModifierForm}
use Rattle.c_signature.specs.Conversions.{Argument, Undefined, Nothing, One, argument_of}
use Rattle.c_signature.specs.Directives.{Head, TailAt, IsAllowed}
use Rattle.c_signature.specs.Signature as plain
use Rattle.c_signature.proofs.DirectiveLemmas.{head_one, tail_needs, tail_allows}
use Rattle.c_signature.specs.Readers.{argument_view}
use Rattle.c_signature.specs.declared.conversions.Argument as code_argument
use Rattle.c_macros.specs.declared.directives.Head as code_head
use Rattle.c_macros.specs.declared.directives.Directive as code_directive
use Rattle.c_macros.specs.Macros.{MacroAt, Kind}
use Rattle.c_macros.specs.MacroDirectives.{Directive, Spelled, Named, DirectiveAt, plain_request, amounts, Request}
use Rattle.c_macros.specs.MacroScanning.{head_view, ReadsHead, HasNoTail, ReadsTail}
use Rattle.c_macros.specs.MacroScanning.{ReadsDirective, own_of, own_requests, directive_from}
use Rattle.c_macros.proofs.MacroDirectiveLemmas.{places}

-- ---- tails

pub no_conversion : (number : Option ℕ) (m : Modifier) (text : List ℕ) → Longest ModifierForm m text []
    → HasNoTail number text
no_conversion number m text at d rest same x = tail_needs d m text rest at x

pub not_allowed : (number : Option ℕ) (m : Modifier) (conversion : ℕ) (text rest : List ℕ)
    → Longest ModifierForm m text (conversion ∷ rest) → (IsAllowed (argument_of conversion m) number → ⊥)
    → HasNoTail number text
not_allowed number m conversion text rest at refused d more same x =
    tail_allows d d.head m conversion text rest more at
    (λ allowed. refused (subst (λ (n : Option ℕ). IsAllowed (argument_of conversion m) n) same allowed)) refl x

pub tail_read : (number : Option ℕ) (argument : code_argument.Argument) (m : Modifier) (conversion : ℕ)
    (text rest : List ℕ) → Longest ModifierForm m text (conversion ∷ rest)
    → argument_view argument ≡ argument_of conversion m → IsAllowed (argument_view argument) number
    → ReadsTail number argument text rest
tail_read number argument m conversion text rest at is allowed = (
  m,
  conversion,
  is,
  λ head same. record {
    behind_modifier = conversion ∷ rest;
    modifier_at = at;
    conversion_at = refl;
    allowed = subst (λ (n : Option ℕ). IsAllowed (argument_of conversion m) n) (sym same)
        (subst (λ (a : Argument). IsAllowed a number) is allowed);
  },
)

-- ---- directives

pub no_directive : (h : code_head.Head) (text rest : List ℕ) → ReadsHead h text rest
    → ((kind : Kind) (more : List ℕ) → MacroAt kind rest more → ⊥) → HasNoTail h.number rest
    → (d : Directive) (more : List ℕ) → DirectiveAt d text more → ⊥
no_directive h text rest (at, left) no_macro no_tail (Spelled d) more x =
    let heads = head_one d.head (head_view h) text x.behind_head rest x.head at in
    let number : d.head.number ≡ h.number = ap (λ (a : Head). a.number) heads.0 in
    no_tail d more number (subst (λ (t : List ℕ). TailAt d t more) heads.1 x.tail)
no_directive h text rest (at, left) no_macro no_tail (Named k kind) more x =
    let heads = head_one k (head_view h) text x.behind_head rest x.head_at at in
    no_macro kind more (subst (λ (t : List ℕ). MacroAt kind t more) heads.1 x.macro_at)

-- a head's flags are in its text
flags_fit : (h : code_head.Head) (text rest : List ℕ) → ReadsHead h text rest
    → (length h.flags.now ≤ h.flags_left) × (h.flags_left ≤ length text) × (length rest ≤ length text)
flags_fit h text rest (at, left) =
    let there = places (head_view h) text rest at in (
      omega (arith, left, there.flags),
      omega (arith, left, there.number),
      omega (arith, there.flags, there.number, there.tail),
    )

pub named_read : (code : code_directive.Directive) (kind : Kind) (left len : ℕ) (text tail rest : List ℕ)
    → ReadsHead code.head text tail → MacroAt kind tail rest → code.own ≡ Some kind
    → code.named ≡ Some (record { left = left; len = len }) → left ≡ length tail → len ≡ length tail - length rest
    → ReadsDirective code text rest
named_read code kind left len text tail rest (at, flags_left) macro own named e f =
    let fit = flags_fit code.head text tail (at, flags_left) in (
      Named (head_view code.head) kind,
      rw own refl,
      record { flags = fit.0; left = fit.1; named = rw (named, e) fit.2 },
      λ total. (
        record { behind_head = tail; head_at = at; macro_at = macro },
        rw (named, flags_left, e, f) refl,
      ),
    )

own_asked : (number : Option ℕ) (a : Argument) → map plain_request (plain.argument_requests number a)
    ≡ own_requests number (own_of a)
own_asked number Undefined = refl
own_asked number Nothing = refl
own_asked number (One kind) = refl

pub spelled_read : (code : code_directive.Directive) (argument : code_argument.Argument) (text tail rest : List ℕ)
    → ReadsHead code.head text tail → ReadsTail code.head.number argument tail rest
    → code.own ≡ own_of (argument_view argument) → code.named ≡ None → ReadsDirective code text rest
spelled_read code argument text tail rest (at, flags_left) (m, conversion, is, tails) own named =
    let h = head_view code.head in
    let fit = flags_fit code.head text tail (at, flags_left) in
    let asked : map plain_request (plain.argument_requests code.head.number (argument_of conversion m))
    ≡ own_requests code.head.number code.own =
    ap (λ (a : Argument). map plain_request (plain.argument_requests code.head.number a)) (sym is)
    ∙ own_asked code.head.number (argument_view argument)
    ∙ ap (λ (o : Option Kind). own_requests code.head.number o) (sym own) in (
      Spelled (directive_from h m conversion),
      ap (λ (t : List Request). amounts h.width ++ amounts h.precision ++ t) asked,
      record { flags = fit.0; left = fit.1; named = rw named tt },
      λ total. (
        record { behind_head = tail; head = at; tail = tails h refl },
        rw (named, flags_left) (append-nil _),
      ),
    )
