-- A text begins with at most one directive.
use Rattle.std.proofs.Common.{◌≡◌, ℕ, zero, ◌<◌, List, [], ◌∷◌, length, Option, None, Some, refl, sym, ap, subst, ◌∙◌}
use Rattle.std.proofs.Common.{arith}
use Rattle.format_arguments.specs.Bytes.{BeginsNot}
use Rattle.format_arguments.specs.Text.{AreDirectives}
use Rattle.numbered_arguments.specs.declared.Kind.{Kind}
use Rattle.numbered_arguments.specs.declared.Request.{Request}
use Rattle.php_format.specs.PhpPieces.{percent, NumberAt, FlagsAt, kind_of}
use Rattle.php_format.specs.PhpDirectives.{RequestAt, DirectiveAt, behind_size_of}
use Rattle.php_format.proofs.PhpPartLemmas.{number_one, number_within, flags_one, all_flags_within, size_within}

-- every reading of the text comes to the same place behind the flags
pub reach : (r : Request) (text more : List ℕ) (x : RequestAt r (percent ∷ text) more) (number : Option ℕ)
    (behind_number : List ℕ) → NumberAt number text behind_number → (behind_flags : List ℕ)
    → FlagsAt behind_number behind_flags → (r.number ≡ number) × (x.behind_flags ≡ behind_flags)
reach r text more x number behind_number n behind_flags f =
    let begins : x.behind_percent ≡ text = cc x.begins in
    let numbers = number_one r.number number text x.behind_number behind_number
    (subst (λ (t : List ℕ). NumberAt r.number t x.behind_number) begins x.number_at) n in (
      numbers.0,
      flags_one behind_number x.behind_flags behind_flags
          (subst (λ (t : List ℕ). FlagsAt t x.behind_flags) numbers.1 x.flags_at) f,
    )

-- every reading of the text comes to the same conversion and kind
pub ends : (r : Request) (text more : List ℕ) (x : RequestAt r (percent ∷ text) more) (behind_flags : List ℕ)
    → x.behind_flags ≡ behind_flags → (conversion : ℕ) (rest : List ℕ)
    → behind_size_of behind_flags ≡ conversion ∷ rest → (kind_of conversion ≡ Some r.kind) × (more ≡ rest)
ends r text more x behind_flags f conversion rest g =
    let whole : x.conversion ∷ more ≡ conversion ∷ rest = sym x.conversion_at ∙ ap behind_size_of f ∙ g in
    let same : x.conversion ≡ conversion = cc whole in
    (subst (λ (c : ℕ). kind_of c ≡ Some r.kind) same x.kind_is, cc whole)

same_request : (r s : Request) → r.number ≡ s.number → r.kind ≡ s.kind → r ≡ s
same_request r s a b = rw (a, b) refl

request_one : (r s : Request) (text rest more : List ℕ) → RequestAt r text rest → RequestAt s text more
    → (r ≡ s) × (rest ≡ more)
request_one r s text rest more x y =
    let here : RequestAt r (percent ∷ y.behind_percent) rest =
    subst (λ (t : List ℕ). RequestAt r t rest) y.begins x in
    let same = reach r y.behind_percent rest here s.number y.behind_number y.number_at y.behind_flags y.flags_at in
    let last = ends r y.behind_percent rest here y.behind_flags same.1 y.conversion more y.conversion_at in
    let kinds : r.kind ≡ s.kind = cc (last.0, y.kind_is) in
    (same_request r s same.0 kinds, last.1)

differ : (kind : Kind) → None ≡ Some kind → ⊥
differ kind e = absurd (cc e)

no_request : (r : Request) (text rest : List ℕ) → RequestAt r (percent ∷ (percent ∷ text)) rest → ⊥
no_request r text rest x =
    let number : NumberAt None (percent ∷ text) (percent ∷ text) = (λ more e. absurd (cc e), refl) in
    let flags : FlagsAt (percent ∷ text) (percent ∷ text) = (zero, refl, refl) in
    let same = reach r (percent ∷ text) rest x None (percent ∷ text) number (percent ∷ text) flags in
    let last = ends r (percent ∷ text) rest x (percent ∷ text) same.1 percent text refl in
    absurd (differ r.kind last.0)

directive_one : (d e : Option Request) (text rest more : List ℕ) → DirectiveAt d text rest → DirectiveAt e text more
    → (d ≡ e) × (rest ≡ more)
directive_one None None text rest more e f = (refl, cc (e, f))
directive_one None (Some r) text rest more e x =
    absurd (no_request r rest more (subst (λ (t : List ℕ). RequestAt r t more) e x))
directive_one (Some r) None text rest more x e =
    absurd (no_request r more rest (subst (λ (t : List ℕ). RequestAt r t rest) e x))
directive_one (Some r) (Some s) text rest more x y =
    let same = request_one r s text rest more x y in
    (ap (λ (q : Request). Some q) same.0, same.1)

directive_shorter : (d : Option Request) (text rest : List ℕ) → DirectiveAt d text rest → length rest < length text
directive_shorter None text rest e = omega (arith, ap length e)
directive_shorter (Some r) text rest x = omega (
  arith,
  ap length x.begins,
  number_within r.number x.behind_percent x.behind_number x.number_at,
  all_flags_within x.behind_number x.behind_flags x.flags_at,
  size_within x.behind_flags,
  ap length x.conversion_at,
)

directive_begins : (d : Option Request) (text rest : List ℕ) → DirectiveAt d text rest
    → (behind : List ℕ) × (text ≡ percent ∷ behind)
directive_begins None text rest e = (percent ∷ rest, e)
directive_begins (Some r) text rest x = (x.behind_percent, x.begins)

pub are_directives : AreDirectives percent DirectiveAt
are_directives = record {
  begins = directive_begins;
  one = directive_one;
  shorter = directive_shorter;
}

-- ---- where a reader finds nothing, the text begins with no directive

pub no_number : (text : List ℕ) → ((number : Option ℕ) (rest : List ℕ) → NumberAt number text rest → ⊥)
    → (r : Request) (more : List ℕ) → RequestAt r (percent ∷ text) more → ⊥
no_number text none r more x =
    let begins : x.behind_percent ≡ text = cc x.begins in
    none r.number x.behind_number (subst (λ (t : List ℕ). NumberAt r.number t x.behind_number) begins x.number_at)

pub no_conversion : (text : List ℕ) (number : Option ℕ) (behind_number behind_flags : List ℕ)
    → NumberAt number text behind_number → FlagsAt behind_number behind_flags → behind_size_of behind_flags ≡ []
    → (r : Request) (more : List ℕ) → RequestAt r (percent ∷ text) more → ⊥
no_conversion text number behind_number behind_flags n f none r more x =
    let same = reach r text more x number behind_number n behind_flags f in
    let whole : x.conversion ∷ more ≡ [] = sym x.conversion_at ∙ ap behind_size_of same.1 ∙ none in
    absurd (cc whole)

pub no_kind : (text : List ℕ) (number : Option ℕ) (behind_number behind_flags : List ℕ)
    → NumberAt number text behind_number → FlagsAt behind_number behind_flags → (conversion : ℕ) (rest : List ℕ)
    → behind_size_of behind_flags ≡ conversion ∷ rest → None ≡ kind_of conversion
    → (r : Request) (more : List ℕ) → RequestAt r (percent ∷ text) more → ⊥
no_kind text number behind_number behind_flags n f conversion rest ends_at none r more x =
    let same = reach r text more x number behind_number n behind_flags f in
    let last = ends r text more x behind_flags same.1 conversion rest ends_at in
    absurd (cc (last.0, none))

pub no_directive : (text : List ℕ) → BeginsNot percent text
    → ((r : Request) (rest : List ℕ) → RequestAt r (percent ∷ text) rest → ⊥) → (d : Option Request)
    (rest : List ℕ) → DirectiveAt d (percent ∷ text) rest → ⊥
no_directive text other none None rest e =
    let same : text ≡ percent ∷ rest = cc e in
    other rest same
no_directive text other none (Some r) rest x = none r rest x
