-- Why the entries of a text are refused, at one line.
use Rattle.std.proofs.Common.{◌≡◌, ℕ, ◌<◌, List, ◌∷◌, ◌++◌, length, length-append, map, get_or, Option, None, Some}
use Rattle.std.proofs.Common.{refl, sym, ap, ◌∙◌, subst, arith, inl, inr}
use Rattle.std.specs.Prelude.{◌⊎◌, ◌==◌, Contains, IfSome, if◌then◌else◌}
use Rattle.std.proofs.lemmas.Bool.{cases_lt, false≢true}
use Rattle.std.proofs.lemmas.List.{map-append, get_or_append_left, get_or_at}
use Rattle.po_text.specs.Entries as po
use Rattle.po_header.specs.Rule.{Rule, Given, Absent, Broken, HasRuleIn}
use Rattle.po_header.proofs.RuleLemmas.{HasRule-one}
use Rattle.po_checks.specs.Checks.{IsPlural, HasSystemDependentText, HasOtherArguments, HasOtherCount, HasOtherNewlines}
use Rattle.po_checks.specs.Checks.{IsFirstWithoutForm}
use Rattle.po_checks.specs.Found.{FailsFrom}
use Rattle.po_checks.specs.Kept.{key_of, kept_entries, kept_header, header_line_of, NamesAcceptedCharset, HasHeaderRule}
use Rattle.po_checks.specs.Fails.{HasDistinctKeys, IsDuplicateAt, IsForeignAt, RuleRefuses, HeaderRefuses, Fails, rank}
use Rattle.po_checks.specs.Fails.{IsFirst}
use Rattle.po_checks.specs.declared.options.Options.{Options}
use Rattle.po_checks.specs.declared.fault.LoadKind.{LoadKind}
use Rattle.po_checks.specs.declared.fault.LoadKind.TheVariants.{TooLarge, NotUtf8, BadEscape, OpenString, BadWord}
use Rattle.po_checks.specs.declared.fault.LoadKind.TheVariants.{BadText, BadOrder, BadIndex, Duplicate, Charset}
use Rattle.po_checks.specs.declared.fault.LoadKind.TheVariants.{SystemDependent, NoRule, BadRule, FormCount}
use Rattle.po_checks.specs.declared.fault.LoadKind.TheVariants.{PluralRange, FormatMismatch, NewlineMismatch, Memory}
use Rattle.po_checks.proofs.FirstLines.{cuts, first_one}

-- ---- one line of the first duplicate

-- among distinct keys, none occurs again
not_again : (front : List po.Entry) (e : po.Entry) (others entries : List po.Entry) → entries ≡ front ++ e ∷ others
    → HasDistinctKeys entries → Contains (map key_of front) (key_of e) → ⊥
not_again front e others entries split distinct has =
    let keys : map key_of entries ≡ map key_of front ++ key_of e ∷ map key_of others = ap (map key_of) split
    ∙ map-append key_of front (e ∷ others) in
    let long : length (map key_of front) < length (map key_of front ++ key_of e ∷ map key_of others) = omega
    (arith, length-append (map key_of front) (key_of e ∷ map key_of others)) in
    let short : length (map key_of front) < length (map key_of entries) = rw keys long in
    let k : List ℕ = key_of e in
    let early : get_or (map key_of entries) has.0 k ≡ k = ap (λ (ks : List (List ℕ)). get_or ks has.0 k) keys
    ∙ get_or_append_left (map key_of front) (k ∷ map key_of others) k has.0 has.1 ∙ has.2 in
    let late : get_or (map key_of entries) (length (map key_of front)) k
    ≡ k = ap (λ (ks : List (List ℕ)). get_or ks (length (map key_of front)) k) keys
    ∙ get_or_at (map key_of front) k (map key_of others) k (length (map key_of front)) refl in
    distinct has.0 (length (map key_of front)) k has.1 short (early ∙ sym late)

duplicate_one : (entries : List po.Entry) (line m : ℕ) → IsDuplicateAt entries line → IsDuplicateAt entries m → line ≡ m
duplicate_one entries line m p q = elim (cuts p.before q.before p.e q.e p.after q.after (sym p.split ∙ q.split)) [
  | inl same ↦ p.line_is ∙ ap (λ (e : po.Entry). e.line) same ∙ sym q.line_is
  | inr (inl (mid, is)) ↦ absurd (not_again p.before p.e mid q.before is q.distinct_before p.again)
  | inr (inr (mid, is)) ↦ absurd (not_again q.before q.e mid p.before is p.distinct_before q.again)
]

-- a list with a duplicate has no distinct keys
pub duplicate_or : (entries : List po.Entry) (line : ℕ) → IsDuplicateAt entries line → HasDistinctKeys entries → ⊥
duplicate_or entries line d distinct = not_again d.before d.e d.after entries d.split distinct d.again

-- ---- one line of the header

some_same : (x y : po.Entry) → Some x ≡ Some y → x ≡ y
some_same x y e = cc

foreign_one : (o : Options) (es : List po.Entry) (line m : ℕ) → IsForeignAt o es line → IsForeignAt o es m → line ≡ m
foreign_one o es line m f g = f.line_is ∙ ap (λ (e : po.Entry). e.line) (some_same f.header g.header (sym f.is ∙ g.is))
    ∙ sym g.line_is

-- a header that names an accepted charset isn't foreign
pub foreign_or : (o : Options) (es : List po.Entry) (line : ℕ) → IsForeignAt o es line
    → IfSome (kept_header o es) NamesAcceptedCharset → ⊥
foreign_or o es line f named = f.foreign (subst (λ (x : Option po.Entry). IfSome x NamesAcceptedCharset) f.is named)

rule_in_one : (text : Option (List ℕ)) (rule other : Rule) → HasRuleIn text rule → HasRuleIn text other → rule ≡ other
rule_in_one None rule other p q = p ∙ sym q
rule_in_one (Some text) rule other p q = HasRule-one text rule other p q

-- what the header refuses, its only rule refuses
pub by_rule : (o : Options) (es : List po.Entry) (rule : Rule) (kind : LoadKind) (line : ℕ) → HasHeaderRule o es rule
    → HeaderRefuses o es kind line → RuleRefuses rule (kept_entries o es) (header_line_of o es) kind line
by_rule o es rule kind line has (other, has', r) = subst
    (λ (x : Rule). RuleRefuses x (kept_entries o es) (header_line_of o es)
    kind line) (rule_in_one _ other rule has' has) r

least_one : (nplurals : ℕ) (tree : _) (n m : ℕ) → IsFirstWithoutForm nplurals tree n
    → IsFirstWithoutForm nplurals tree m → n ≡ m
least_one nplurals tree n m p q = elim (cases_lt n m) [
  | inl lt ↦ absurd (false≢true (sym p.none ∙ q.least n lt))
  | inr ge ↦ elim (cases_lt m n) [
    | inl lt ↦ absurd (false≢true (sym q.none ∙ p.least m lt))
    | inr le ↦ omega (arith, ge, le)
  ]
]

absent_one : (rule : Rule) (es : List po.Entry) (at line m : ℕ) → RuleRefuses rule es at NoRule line
    → RuleRefuses rule es at NoRule m → line ≡ m
absent_one Absent es at line m p q = first_one IsPlural es line m p q
absent_one _ es at line m p q = absurd p

broken_one : (rule : Rule) (es : List po.Entry) (at line m : ℕ) → RuleRefuses rule es at BadRule line
    → RuleRefuses rule es at BadRule m → line ≡ m
broken_one Broken es at line m p q = p.1 ∙ sym q.1
broken_one _ es at line m p q = absurd p

count_one : (rule : Rule) (es : List po.Entry) (at line m : ℕ) → RuleRefuses rule es at FormCount line
    → RuleRefuses rule es at FormCount m → line ≡ m
count_one (Given nplurals tree) es at line m p q = first_one (HasOtherCount nplurals) es line m p q
count_one _ es at line m p q = absurd p

range_one : (rule : Rule) (es : List po.Entry) (at n k line m : ℕ) → RuleRefuses rule es at (PluralRange n) line
    → RuleRefuses rule es at (PluralRange k) m → (n ≡ k) × (line ≡ m)
range_one (Given nplurals tree) es at n k line m p q = (least_one nplurals tree n k p.0 q.0, p.1 ∙ sym q.1)
range_one _ es at n k line m p q = absurd p

-- ---- one kind

-- the number that a kind names
abbrev number_in : LoadKind → ℕ
number_in (PluralRange n) = n
number_in _ = 0

-- the kind of this rank, with a number that it may name
abbrev kind_ranked : ℕ → ℕ → LoadKind
kind_ranked k n =
    if k == 1 then TooLarge else if k == 2 then NotUtf8 else if k == 3 then BadEscape else if k == 4 then OpenString
    else
    if k == 5 then BadWord else if k == 6 then BadText else if k == 7 then BadOrder else if k == 8 then BadIndex else
    if k == 9 then Duplicate else if k == 10 then Charset else if k == 11 then SystemDependent else if k == 12 then
    NoRule else
    if k == 13 then BadRule else if k == 14 then FormCount else if k == 15 then PluralRange n else
    if k == 16 then FormatMismatch else if k == 17 then NewlineMismatch else Memory

kind_again : (kind : LoadKind) → kind ≡ kind_ranked (rank kind) (number_in kind)
kind_again (PluralRange n) = refl
kind_again _ = refl

fails_one : (o : Options) (es : List po.Entry) (kind : LoadKind) (n line m : ℕ) → Fails o es kind line
    → Fails o es (kind_ranked (rank kind) n) m → (kind ≡ kind_ranked (rank kind) n) × (line ≡ m)
fails_one o es Duplicate n line m f g = (refl, duplicate_one es line m f g)
fails_one o es Charset n line m f g = (refl, foreign_one o es line m f g)
fails_one o es SystemDependent n line m f g = (refl, first_one HasSystemDependentText (kept_entries o es) line m f g)
fails_one o es NoRule n line m (c, (rule, has, r)) (d, g) = (
  refl,
  absent_one rule (kept_entries o es) (header_line_of o es)
      line m r (by_rule o es rule NoRule m has g),
)
fails_one o es BadRule n line m (c, (rule, has, r)) (d, g) =
    (refl, broken_one rule (kept_entries o es) (header_line_of o es) line m r (by_rule o es rule BadRule m has g))
fails_one o es FormCount n line m (c, (rule, has, r)) (d, g) =
    (refl, count_one rule (kept_entries o es) (header_line_of o es) line m r (by_rule o es rule FormCount m has g))
fails_one o es (PluralRange k) n line m (c, (rule, has, r)) (d, g) =
    let one = range_one rule (kept_entries o es) (header_line_of o es) k n line m r
    (by_rule o es rule (PluralRange n) m has g)
    in
    (ap (λ i. PluralRange i) one.0, one.1)
fails_one o es FormatMismatch n line m f g = (refl, first_one HasOtherArguments (kept_entries o es) line m f.1 g.1)
fails_one o es NewlineMismatch n line m f g = (refl, first_one HasOtherNewlines (kept_entries o es) line m f.1 g.1)
fails_one o es _ n line m f g = absurd f

pub first_refusal_one : (o : Options) (es : List po.Entry) (kind other : LoadKind) (line m : ℕ)
    → IsFirst (Fails o es) kind line → IsFirst (Fails o es) other m → (kind ≡ other) × (line ≡ m)
first_refusal_one o es kind other line m p q = elim (cases_lt (rank kind) (rank other)) [
  | inl lt ↦ absurd (q.first kind line lt p.holds)
  | inr ge ↦ elim (cases_lt (rank other) (rank kind)) [
    | inl lt ↦ absurd (p.first other m lt q.holds)
    | inr le ↦
        let same : rank other ≡ rank kind = omega (arith, ge, le) in
        let is : other ≡ kind_ranked (rank kind) (number_in other) = kind_again other
        ∙ ap (λ k. kind_ranked k (number_in other)) same in
        let one = fails_one o es kind (number_in other) line m p.holds
        (subst (λ (k : LoadKind). Fails o es k m) is q.holds) in
        (one.0 ∙ sym is, one.1)
  ]
]

-- ---- refusals in their order

fails_below_nine : (o : Options) (es : List po.Entry) (kind : LoadKind) (line : ℕ) → rank kind < 9
    → Fails o es kind line → ⊥
fails_below_nine o es Duplicate line lt f = omega (arith, lt)
fails_below_nine o es _ line lt f = first_of (omega (arith, lt), assumption f)

fails_below_ten : (o : Options) (es : List po.Entry) (kind : LoadKind) (line : ℕ) → rank kind < 10
    → Fails o es kind line → IsDuplicateAt es line
fails_below_ten o es Duplicate line lt f = f
fails_below_ten o es _ line lt f = absurd (first_of (omega (arith, lt), assumption f))

fails_below_eleven : (o : Options) (es : List po.Entry) (kind : LoadKind) (line : ℕ) → rank kind < 11
    → Fails o es kind line → IsDuplicateAt es line ⊎ IsForeignAt o es line
fails_below_eleven o es Duplicate line lt f = inl f
fails_below_eleven o es Charset line lt f = inr f
fails_below_eleven o es _ line lt f = absurd (first_of (omega (arith, lt), assumption f))

-- a duplicate comes first
pub first_is_duplicate : (o : Options) (es : List po.Entry) (line : ℕ) → IsDuplicateAt es line
    → IsFirst (Fails o es) Duplicate line
first_is_duplicate o es line d = record { holds = d; first = λ other at lt f. fails_below_nine o es other at lt f }

-- then the charset
pub first_is_foreign : (o : Options) (es : List po.Entry) (line : ℕ) → HasDistinctKeys es → IsForeignAt o es line
    → IsFirst (Fails o es) Charset line
first_is_foreign o es line distinct f = record {
  holds = f;
  first = λ other at lt g. duplicate_or es at
      (fails_below_ten o es other at lt g) distinct;
}

-- then the checks
abbrev PassesFirst : Options → List po.Entry → Type 0
PassesFirst o es = HasDistinctKeys es × IfSome (kept_header o es) NamesAcceptedCharset

passes_first : (o : Options) (es : List po.Entry) (kind : LoadKind) (line : ℕ) → PassesFirst o es → rank kind < 11
    → Fails o es kind line → ⊥
passes_first o es kind line passes lt f = elim (fails_below_eleven o es kind line lt f) [
  | inl d ↦ duplicate_or es line d passes.0
  | inr g ↦ foreign_or o es line g passes.1
]

pub first_is_check : (o : Options) (es : List po.Entry) (kind : LoadKind) (line : ℕ) → HasDistinctKeys es
    → IfSome (kept_header o es) NamesAcceptedCharset → IsFirst (FailsFrom 11 o es) kind line
    → IsFirst (Fails o es) kind line
first_is_check o es kind line distinct named f = record {
  holds = f.holds.1;
  first = λ other at lt g. elim (cases_lt (rank other) 11) [
    | inl early ↦ passes_first o es other at (distinct, named) early g
    | inr late ↦ f.first other at lt (late, g)
  ];
}

pub all_pass : (o : Options) (es : List po.Entry) → HasDistinctKeys es → IfSome (kept_header o es) NamesAcceptedCharset
    → ((kind : LoadKind) (line : ℕ) → ¬ FailsFrom 11 o es kind line) → (kind : LoadKind) (line : ℕ)
    → ¬ Fails o es kind line
all_pass o es distinct named none kind line f = elim (cases_lt (rank kind) 11) [
  | inl early ↦ passes_first o es kind line (distinct, named) early f
  | inr late ↦ none kind line (late, f)
]
