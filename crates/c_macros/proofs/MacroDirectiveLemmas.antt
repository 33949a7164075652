-- Directives with and without macros: a text begins with at most one, and its parts have one place.
use Rattle.std.proofs.Common.{◌≡◌, ℕ, ◌+◌, ◌<◌, ◌≤◌, ◌-◌, List, [], ◌∷◌, ◌++◌, length, refl, sym, ap, subst, ◌∙◌, arith}
use Rattle.std.proofs.lemmas.List.{length-append}
use Rattle.format_arguments.specs.Text.{AreDirectives}
use Rattle.c_signature.specs.Pieces.{Longest, NumberForm, percent}
use Rattle.c_signature.specs.Directives as c
use Rattle.c_signature.specs.Directives.{Head, HeadAt, TailAt}
use Rattle.c_signature.proofs.PartLemmas.{longest_one, number_value}
use Rattle.c_signature.proofs.DirectiveLemmas as plain
use Rattle.c_signature.proofs.DirectiveLemmas.{head_one}
use Rattle.c_signature.proofs.FormatLemmas as plain_format
use Rattle.c_macros.specs.Macros.{MacroAt, Kind}
use Rattle.c_macros.specs.MacroDirectives.{Directive, Spelled, Named, NamedAt, DirectiveAt}
use Rattle.c_macros.specs.MacroSplits.{HasPartsAt, Parted, PartedAt, flag_splits, head_splits, macro_split, Split}
use Rattle.c_macros.proofs.MacroLemmas.{macro_one, macro_shorter}

longest_within : {V : Type 0} (Form : V → List ℕ → Type 0) (v : V) (text rest : List ℕ) → Longest Form v text rest
    → length rest ≤ length text
longest_within Form v text rest p = omega (arith, length-append p.front rest, ap length p.text_is)

-- where the parts of a head are
pub record Places (h : Head) (text rest : List ℕ) (x : HeadAt h text rest) : Type 0 where
  pub number : length x.behind_number < length text
  pub flags : length h.flags + length x.behind_flags ≡ length x.behind_number
  pub tail : length rest ≤ length x.behind_flags

pub places : (h : Head) (text rest : List ℕ) (x : HeadAt h text rest) → Places h text rest x
places h text rest x =
    let begins = ap length x.begins in
    let number = longest_within _ _ _ _ x.number_at in
    let width = longest_within _ _ _ _ x.width_at in
    let precision = longest_within _ _ _ _ x.precision_at in
    record {
      number = omega (arith, begins, number);
      flags = omega (
        arith,
        ap length x.flags_at.text_is,
        length-append x.flags_at.front x.behind_flags,
        ap length x.flags_at.form.0,
      );
      tail = omega (arith, width, precision);
    }

-- where a macro is, no directive without one is
named_alone : (head : Head) (kind : Kind) (d : c.Directive) (text rest more : List ℕ) → NamedAt head kind text rest
    → c.DirectiveAt d text more → ⊥
named_alone head kind d text rest more x y =
    let begins = x.head_at.begins in
    let refused = plain.refuses_macro head x.head_at.behind_percent x.behind_head
    (subst (λ (t : List ℕ). HeadAt head t x.behind_head) begins x.head_at) x.macro_at.begins in
    refused.0.none d more (subst (λ (t : List ℕ). c.DirectiveAt d t more) begins y)

-- the flags of one text have one place
one_place : (h k : Head) (text rest more : List ℕ) (x : HeadAt h text rest) (y : HeadAt k text more) → (total : ℕ)
    → h ≡ k → head_splits total h text rest x ≡ head_splits total k text more y
one_place h k text rest more x y total same =
    let behind : x.behind_percent ≡ y.behind_percent = cc (x.begins, y.begins) in
    let numbers = longest_one NumberForm number_value h.number k.number y.behind_percent x.behind_number y.behind_number
    (subst (λ (t : List ℕ). Longest NumberForm h.number t x.behind_number) behind x.number_at) y.number_at in
    let flags : h.flags ≡ k.flags = ap (λ (a : Head). a.flags) same in
    ap (λ (t : List ℕ). flag_splits (total - length t) h.flags) numbers.1
    ∙ ap (λ (t : List ℕ). flag_splits (total - length y.behind_number) t) flags

parts_one : (total : ℕ) (d e : Directive) (p q : List Split) (text rest more : List ℕ)
    → HasPartsAt total d p text rest → HasPartsAt total e q text more → (d ≡ e) × (p ≡ q) × (rest ≡ more)
parts_one total (Spelled d) (Spelled e) p q text rest more (x, f) (y, g) =
    let same = plain.directive_one d e text rest more x y in
    let heads : d.head ≡ e.head = ap (λ (a : c.Directive). a.head) same.0 in (
      ap Spelled same.0,
      f ∙ one_place d.head e.head text x.behind_head y.behind_head x.head y.head total heads ∙ sym g,
      same.1,
    )
parts_one total (Spelled d) (Named k l) p q text rest more (x, f) (y, g) = absurd
    (named_alone k l d text more rest y x)
parts_one total (Named h k) (Spelled e) p q text rest more (x, f) (y, g) = absurd
    (named_alone h k e text rest more x y)
parts_one total (Named h k) (Named i l) p q text rest more (x, f) (y, g) =
    let heads = head_one h i text x.behind_head y.behind_head x.head_at y.head_at in
    let macros = macro_one k l y.behind_head rest more
    (subst (λ (t : List ℕ). MacroAt k t rest) heads.1 x.macro_at) y.macro_at in
    let flags = one_place h i text x.behind_head y.behind_head x.head_at y.head_at total heads.0 in
    let names : macro_split total x.behind_head rest ≡ macro_split total y.behind_head more =
    ap (λ (t : List ℕ). macro_split total t rest) heads.1
    ∙ ap (λ (t : List ℕ). macro_split total y.behind_head t) macros.1 in (
      ap (λ (a : Head). Named a k) heads.0 ∙ ap (λ (a : Kind). Named i a) macros.0,
      f ∙ ap (λ (s : List Split). s ++ macro_split total x.behind_head rest ∷ []) flags
          ∙ ap (λ (s : Split). head_splits total i text y.behind_head y.head_at ++ s ∷ []) names ∙ sym g,
      macros.1,
    )

parts_begin : (total : ℕ) (d : Directive) (p : List Split) (text rest : List ℕ) → HasPartsAt total d p text rest
    → (behind : List ℕ) × (text ≡ percent ∷ behind)
parts_begin total (Spelled d) p text rest (x, f) = (x.head.behind_percent, x.head.begins)
parts_begin total (Named h k) p text rest (x, f) = (x.head_at.behind_percent, x.head_at.begins)

pub parts_shorter : (total : ℕ) (d : Directive) (p : List Split) (text rest : List ℕ) → HasPartsAt total d p text rest
    → length rest < length text
parts_shorter total (Spelled d) p text rest (x, f) = plain_format.directive_shorter d text rest x
parts_shorter total (Named h k) p text rest (x, f) =
    let there = places h text x.behind_head x.head_at in
    omega (arith, there.number, there.flags, there.tail, macro_shorter k x.behind_head rest x.macro_at)

same_parted : (d e : Parted) → d.directive ≡ e.directive → d.parts ≡ e.parts → d ≡ e
same_parted d e f g = rw (f, g) refl

pub are_parted : (total : ℕ) → AreDirectives percent (PartedAt total)
are_parted total = record {
  begins = λ d text rest x. parts_begin total d.directive d.parts text rest x;
  one = λ d e text rest more x y.
      let same = parts_one total d.directive e.directive d.parts e.parts text rest more x y in
      (same_parted d e same.0 same.1, same.2);
  shorter = λ d text rest x. parts_shorter total d.directive d.parts text rest x;
}

-- each directive has its parts
pub with_parts : (total : ℕ) (d : Directive) (text rest : List ℕ) → DirectiveAt d text rest
    → (p : List Split) × HasPartsAt total d p text rest
with_parts total (Spelled d) text rest x = (head_splits total d.head text x.behind_head x.head, (x, refl))
with_parts total (Named h k) text rest x =
    (head_splits total h text x.behind_head x.head_at ++ macro_split total x.behind_head rest ∷ [], (x, refl))

pub without_parts : (total : ℕ) (d : Directive) (p : List Split) (text rest : List ℕ) → HasPartsAt total d p text rest
    → DirectiveAt d text rest
without_parts total (Spelled d) p text rest (x, f) = x
without_parts total (Named h k) p text rest (x, f) = x

pub are_directives : AreDirectives percent DirectiveAt
are_directives = record {
  begins = λ d text rest x. let there = with_parts 0 d text rest x in parts_begin 0 d there.0 text rest there.1;
  one = λ d e text rest more x y.
      let there = with_parts 0 d text rest x in
      let also = with_parts 0 e text more y in
      let same = parts_one 0 d e there.0 also.0 text rest more there.1 also.1 in
      (same.0, same.2);
  shorter = λ d text rest x. let there = with_parts 0 d text rest x in parts_shorter 0 d there.0 text rest there.1;
}
