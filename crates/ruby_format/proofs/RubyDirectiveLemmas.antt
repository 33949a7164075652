-- A text begins with at most one directive.
use Rattle.std.proofs.Common.{◌≡◌, ℕ, zero, suc, ◌<◌, ◌≤◌, List, ◌∷◌, length, Option, None, Some, ap, subst, sym, ◌∙◌}
use Rattle.std.proofs.Common.{arith, refl}
use Rattle.format_arguments.specs.Text.{AreDirectives}
use Rattle.ruby_format.specs.RubyPieces.{percent, Part, part_at, Ending, ending_at}
use Rattle.ruby_format.specs.RubyDirectives.{Directive, blank, with_part, with_ending, PartsAt, HasParts, DirectiveAt}
use Rattle.ruby_format.proofs.RubyPartLemmas.{part_shorter, ending_shorter}

-- ---- parts

first_is : {X : Type 0} (found : Option (X × List ℕ)) (x y : X) (r s : List ℕ) → found ≡ Some (x, r)
    → found ≡ Some (y, s) → (x ≡ y) × (r ≡ s)
first_is {X} found x y r s e f =
    let whole : Some (x, r) ≡ Some (y, s) = sym e ∙ f in
    let pair : (x, r) ≡ (y, s) = cc whole in
    (ap (λ (p : X × List ℕ). p.0) pair, ap (λ (p : X × List ℕ). p.1) pair)

-- where some parts were read, all parts are those and others behind them
parts_on : (n m : ℕ) (from here to : Directive) (text rest behind : List ℕ) → PartsAt n from here text rest
    → PartsAt m from to text behind → part_at behind ≡ None → (k : ℕ) × PartsAt k here to rest behind
parts_on zero m from here to text rest behind (e, f) y none = (
  m,
  subst (λ (t : List ℕ). PartsAt m here to t behind) f
      (subst (λ (d : Directive). PartsAt m d to text behind) e y),
)
parts_on (suc n) zero from here to text rest behind (p, after, next, at, with, more) (e, f) none =
    let ended : part_at text ≡ None = ap part_at f ∙ none in
    absurd (cc (at, ended))
parts_on (suc n) (suc m) from here to text rest behind (p, after, next, at, with, more) (q, past, step, also, so, less)
    none =
    let same = first_is (part_at text) p q after past at also in
    let nexts : Some next ≡ Some step = sym with ∙ ap (λ (x : Part). with_part from x) same.0 ∙ so in
    let one : step ≡ next = cc nexts in
    parts_on n m next here to after rest behind more
    (subst (λ (t : List ℕ). PartsAt m next to t behind) (sym same.1)
    (subst (λ (d : Directive). PartsAt m d to past behind) one less)) none

-- where no part follows, those are all parts
parts_end : (n : ℕ) (here to : Directive) (rest behind : List ℕ) → part_at rest ≡ None → PartsAt n here to rest behind
    → (here ≡ to) × (rest ≡ behind)
parts_end zero here to rest behind none same = same
parts_end (suc n) here to rest behind none (p, after, next, at, with, more) = absurd (cc (at, none))

pub parts_more : (n : ℕ) (from here next : Directive) (text rest after : List ℕ) (part : Part)
    → PartsAt n from here text rest → part_at rest ≡ Some (part, after) → with_part here part ≡ Some next
    → PartsAt (suc n) from next text after
parts_more zero from here next text rest after part (e, f) at with =
    (part, after, next, ap part_at f ∙ at, ap (λ (d : Directive). with_part d part) e ∙ with, (refl, refl))
parts_more (suc n) from here next text rest after part (p, later, other, also, so, more) at with =
    (p, later, other, also, so, parts_more n other here next later rest after part more at with)

-- every reading of the text goes on from here
goes_on : (n : ℕ) (here to : Directive) (text rest behind : List ℕ) → PartsAt n blank here text rest
    → (y : HasParts to text behind) → (k : ℕ) × PartsAt k here to rest behind
goes_on n here to text rest behind parts y =
    parts_on n y.count blank here to text rest behind parts y.parts_at y.no_more

parts_one : (here to : Directive) (text rest behind : List ℕ) → HasParts here text rest → HasParts to text behind
    → (here ≡ to) × (rest ≡ behind)
parts_one here to text rest behind x y =
    let on = goes_on x.count here to text rest behind x.parts_at y in
    parts_end on.0 here to rest behind x.no_more on.1

-- the parts of every reading of this text
parts_of : (d : Directive) (text behind : List ℕ) (x : DirectiveAt d (percent ∷ text) behind)
    → HasParts x.parts text x.behind_parts
parts_of d text behind x =
    let begins : x.inner ≡ text = cc x.begins in
    subst (λ (t : List ℕ). HasParts x.parts t x.behind_parts) begins x.has_parts

-- ---- directives

directive_one : (d e : Directive) (text rest more : List ℕ) → DirectiveAt d text rest → DirectiveAt e text more
    → (d ≡ e) × (rest ≡ more)
directive_one d e text rest more x y =
    let z : DirectiveAt e (percent ∷ x.inner) more = subst (λ (t : List ℕ). DirectiveAt e t more) x.begins y in
    let same = parts_one x.parts z.parts x.inner x.behind_parts z.behind_parts x.has_parts
    (parts_of e x.inner more z) in
    let ends = first_is (ending_at x.behind_parts) x.ending z.ending rest more x.ending_at
    (ap ending_at same.1 ∙ z.ending_at) in
    let whole : Some d ≡ Some e = sym x.ends ∙ ap (λ (p : Directive). with_ending p x.ending) same.0
    ∙ ap (λ (f : Ending). with_ending z.parts f) ends.0 ∙ z.ends in
    (cc whole, ends.1)

parts_within : (n : ℕ) (from to : Directive) (text rest : List ℕ) → PartsAt n from to text rest
    → length rest ≤ length text
parts_within zero from to text rest (e, f) = omega (arith, ap length f)
parts_within (suc n) from to text rest (p, after, next, at, with, more) =
    omega (arith, part_shorter text p after at, parts_within n next to after rest more)

directive_shorter : (d : Directive) (text rest : List ℕ) → DirectiveAt d text rest → length rest < length text
directive_shorter d text rest x = omega (
  arith,
  ap length x.begins,
  parts_within x.has_parts.count blank x.parts x.inner x.behind_parts x.has_parts.parts_at,
  ending_shorter x.behind_parts x.ending rest x.ending_at,
)

pub are_directives : AreDirectives percent DirectiveAt
are_directives = record {
  begins = λ d text rest x. (x.inner, x.begins);
  one = directive_one;
  shorter = directive_shorter;
}

-- ---- where a reader finds nothing, the text begins with no directive

not_on : (k : ℕ) (here to : Directive) (rest behind after : List ℕ) (part : Part) → part_at rest ≡ Some (part, after)
    → with_part here part ≡ None → part_at behind ≡ None → PartsAt k here to rest behind → ⊥
not_on zero here to rest behind after part at none end (e, f) =
    let ended : part_at rest ≡ None = ap part_at f ∙ end in
    absurd (cc (at, ended))
not_on (suc k) here to rest behind after part at none end (p, later, next, also, with, more) =
    let same = first_is (part_at rest) part p after later at also in
    let some : with_part here part ≡ Some next = ap (λ (q : Part). with_part here q) same.0 ∙ with in
    absurd (cc (some, none))

pub no_part : (n : ℕ) (here : Directive) (text rest : List ℕ) → PartsAt n blank here text rest → (part : Part)
    (after : List ℕ) → part_at rest ≡ Some (part, after) → with_part here part ≡ None → (d : Directive)
    (behind : List ℕ) → DirectiveAt d (percent ∷ text) behind → ⊥
no_part n here text rest parts part after at none d behind x =
    let all = parts_of d text behind x in
    let on = goes_on n here x.parts text rest x.behind_parts parts all in
    not_on on.0 here x.parts rest x.behind_parts after part at none all.no_more on.1

pub no_ending : (here : Directive) (text rest : List ℕ) → HasParts here text rest → ending_at rest ≡ None
    → (d : Directive) (behind : List ℕ) → DirectiveAt d (percent ∷ text) behind → ⊥
no_ending here text rest parts none d behind x =
    let same = parts_one here x.parts text rest x.behind_parts parts (parts_of d text behind x) in
    let some : ending_at rest ≡ Some (x.ending, behind) = ap ending_at same.1 ∙ x.ending_at in
    absurd (cc (some, none))

pub no_whole : (here : Directive) (text rest : List ℕ) → HasParts here text rest → (ending : Ending)
    (after : List ℕ) → ending_at rest ≡ Some (ending, after) → with_ending here ending ≡ None
    → (d : Directive) (behind : List ℕ) → DirectiveAt d (percent ∷ text) behind → ⊥
no_whole here text rest parts ending after at none d behind x =
    let same = parts_one here x.parts text rest x.behind_parts parts (parts_of d text behind x) in
    let ends = first_is (ending_at rest) ending x.ending after behind at (ap ending_at same.1 ∙ x.ending_at) in
    let some : with_ending here ending ≡ Some d = ap (λ (p : Directive). with_ending p ending) same.0
    ∙ ap (λ (f : Ending). with_ending x.parts f) ends.0 ∙ x.ends in
    absurd (cc (some, none))
