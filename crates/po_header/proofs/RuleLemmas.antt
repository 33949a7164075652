-- A text has exactly one plural rule.
use Rattle.po_header.proofs.Kit.{◌≡◌, ℕ, List, Option, Some, None, refl, sym, ap, subst, arith, inl, inr, Token, Tree}
use Rattle.po_header.proofs.Kit.{Derives}
use Rattle.std.specs.Prelude.{◌⊎◌, codes}
use Rattle.po_header.specs.Searching.{behind_first}
use Rattle.po_header.specs.Expression.{expression, IsTooLong, IsReadAs, IsMalformed}
use Rattle.po_header.specs.Rule.{Rule, Given, Absent, Broken, HasRule, HasBoth, IsGiven, IsBroken, leading_number}
use Rattle.po_header.proofs.Feeding.{Derives-one}
use Rattle.po_header.proofs.OneSpelling.{Spells-one}
use Rattle.po_header.proofs.TextLemmas.{Follows-one, Follows-lacks, follows_is, lacks_is}

-- a text is read as at most one tree
pub IsReadAs-one : (text : List ℕ) (tree other : Tree) → IsReadAs text tree → IsReadAs text other → tree ≡ other
IsReadAs-one text tree other h g =
    let same = Spells-one (expression text) h.tokens g.tokens h.spells g.spells in
    Derives-one h.tokens tree other h.derives (subst (λ (ts : List Token). Derives ts other) (sym same) g.derives)

given_one : (text : List ℕ) (n m : ℕ) (tree other : Tree) → IsGiven text n tree → IsGiven text m other → Given n tree
    ≡ Given m other
given_one text n m tree other h g =
    let count = Follows-one _ text _ _ h.both.count_is g.both.count_is in
    let expr = Follows-one _ text _ _ h.both.expr_is g.both.expr_is in
    let x = h.number in let y = g.number in let z = ap leading_number count in
    let number : n ≡ m = cc (x, y, z) in
    let trees = IsReadAs-one h.expr tree other h.read (subst (λ (t : List ℕ). IsReadAs t other) (sym expr) g.read) in
    cc (number, trees)

given_fails : (text : List ℕ) (n : ℕ) (tree : Tree) → (h : IsGiven text n tree) → (leading_number h.count ≡ None)
    ⊎ (IsTooLong h.expr ⊎ IsMalformed h.expr) → ⊥
given_fails text n tree h (inl none) = let x = h.number in absurd (cc (x, none))
given_fails text n tree h (inr (inl long)) = h.short long
given_fails text n tree h (inr (inr none)) = none tree h.read

given_broken : (text : List ℕ) (n : ℕ) (tree : Tree) → IsGiven text n tree → IsBroken text → ⊥
given_broken text n tree h g =
    let count = Follows-one _ text _ _ h.both.count_is g.both.count_is in
    let expr = Follows-one _ text _ _ h.both.expr_is g.both.expr_is in
    given_fails text n tree h
    (subst (λ (t : List ℕ). (leading_number h.count ≡ None) ⊎ (IsTooLong t ⊎ IsMalformed t)) (sym expr)
    (subst (λ (t : List ℕ). (leading_number t ≡ None) ⊎ (IsTooLong g.expr ⊎ IsMalformed g.expr)) (sym count) g.fails))

pub absent_both : (text count expr : List ℕ) → HasRule text Absent → HasBoth text count expr → ⊥
absent_both text count expr (inl none) h = Follows-lacks _ text count h.count_is none
absent_both text count expr (inr none) h = Follows-lacks _ text expr h.expr_is none

pub HasRule-one : (text : List ℕ) (rule other : Rule) → HasRule text rule → HasRule text other → rule ≡ other
HasRule-one text (Given n tree) (Given m other) h g = given_one text n m tree other h g
HasRule-one text (Given n tree) Absent h g = absurd (absent_both text _ _ g h.both)
HasRule-one text (Given n tree) Broken h g = absurd (given_broken text n tree h g)
HasRule-one text Absent (Given m other) h g = absurd (absent_both text _ _ h g.both)
HasRule-one text Absent Absent h g = refl
HasRule-one text Absent Broken h g = absurd (absent_both text _ _ h g.both)
HasRule-one text Broken (Given m other) h g = absurd (given_broken text m other g h)
HasRule-one text Broken Absent h g = absurd (absent_both text _ _ g h.both)
HasRule-one text Broken Broken h g = refl

-- ---- at least one rule

option_cases : {A : Type 0} (o : Option A) → (o ≡ None) ⊎ ((x : A) × (o ≡ Some x))
option_cases None = inl refl
option_cases (Some x) = inr (x, refl)

-- a text with both `nplurals=` and `plural=` has a rule
some_of_both : (text count expr : List ℕ) → HasBoth text count expr → ((rule : Rule) → HasRule text rule → ⊥) → ⊥
some_of_both text count expr both none = elim (option_cases (leading_number count)) [
  | inl e ↦ none Broken (record { count = count; expr = expr; both = both; fails = inl e })
  | inr (n, e) ↦
      let short : ¬ IsTooLong expr = λ long. none Broken (record
      { count = count; expr = expr; both = both; fails = inr (inl long) }) in
      none Broken (record {
        count = count;
        expr = expr;
        both = both;
        fails = inr (inr (λ tree read. none (Given n tree) (record
            { count = count; expr = expr; both = both; number = e; short = short; read = read })));
      })
]

pub HasRule-some : (text : List ℕ) → ((rule : Rule) × HasRule text rule → ⊥) → ⊥
HasRule-some text none = elim (option_cases (behind_first (codes "nplurals=") text)) [
  | inl e ↦ none (Absent, inl (lacks_is (codes "nplurals=") text (omega arith) e))
  | inr (count, e) ↦ elim (option_cases (behind_first (codes "plural=") text)) [
    | inl f ↦ none (Absent, inr (lacks_is (codes "plural=") text (omega arith) f))
    | inr (expr, f) ↦ some_of_both text count expr (record {
      count_is = follows_is _ text count e;
      expr_is = follows_is
          _ text expr f;
    }) (λ rule has. none (rule, has))
  ]
]
