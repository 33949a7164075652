-- Macros: a text begins with at most one, and which readings are none.
use Rattle.std.proofs.Common.{◌≡◌, ℕ, ◌<◌, true, List, [], ◌∷◌, ◌++◌, length}
use Rattle.std.proofs.Common.{Some, refl, sym, ap, subst, ◌∙◌, arith, append_assoc}
use Rattle.std.specs.Prelude.{codes}
use Rattle.std.proofs.lemmas.List.{append_cancel_left, length-append}
use Rattle.c_signature.specs.Directives.{is_name_byte, is_macro_conversion}
use Rattle.c_signature.specs.Readers.{IsRun}
use Rattle.c_signature.proofs.Runs.{one_run}
use Rattle.c_macros.specs.Macros.{kind_of, MacroAt, Kind}

-- the parts of a macro, by the run of the bytes of its name
pub macro_reads : (t behind name over more : List ℕ) (conversion : ℕ) (kind : Kind) → t ≡ conversion ∷ behind
    → IsRun is_name_byte behind name over → MacroAt kind (codes "<PRI" ++ t) more
    → (is_macro_conversion conversion ≡ true) × (over ≡ 62 ∷ more) × (kind_of conversion name ≡ Some kind)
macro_reads t behind name over more conversion kind e run x =
    let m = x.begins in
    let parts : t ≡ m.conversion ∷ ((m.name ++ codes ">") ++ m.rest) = append_cancel_left (codes "<PRI") _ _
    m.text_is in
    let whole : conversion ∷ behind ≡ m.conversion ∷ ((m.name ++ codes ">") ++ m.rest) = sym e ∙ parts in
    let behinds : behind ≡ (m.name ++ codes ">") ++ m.rest = cc whole in
    let conversions : m.conversion ≡ conversion = cc whole in
    let names = one_run is_name_byte name over m.name (62 ∷ m.rest) run.passes run.stops m.name_is refl
    (sym run.text_is ∙ behinds ∙ append_assoc m.name (codes ">") m.rest) in (
      subst (λ (c : ℕ). is_macro_conversion c ≡ true) conversions m.conversion_is,
      names.1 ∙ ap (λ (s : List ℕ). 62 ∷ s) x.rest_is,
      subst (λ (n : List ℕ). kind_of conversion n ≡ Some kind) (sym names.0)
          (subst (λ (c : ℕ). kind_of c m.name ≡ Some kind) conversions x.kind_is),
    )

some_name : (conversion : ℕ) (name : List ℕ) (kind : Kind) → kind_of conversion name ≡ Some kind → 0 < length name
some_name conversion [] kind e = absurd (cc e)
some_name conversion (b ∷ more) kind e = omega arith

-- the macro that was read
pub macro_from : (t behind name over rest : List ℕ) (conversion : ℕ) (kind : Kind) → t ≡ conversion ∷ behind
    → IsRun is_name_byte behind name over → over ≡ 62 ∷ rest → is_macro_conversion conversion ≡ true
    → kind_of conversion name ≡ Some kind → MacroAt kind (codes "<PRI" ++ t) rest
macro_from t behind name over rest conversion kind e run close converts known = record {
  begins = record {
    conversion = conversion;
    name = name;
    rest = rest;
    text_is = ap (λ (s : List ℕ). codes "<PRI" ++ s) (e ∙ ap (λ (s : List ℕ). conversion ∷ s)
        (run.text_is ∙ ap (λ (s : List ℕ). name ++ s) close ∙ sym (append_assoc name (codes ">") rest)));
    conversion_is = converts;
    name_is = run.passes;
    some = some_name conversion name kind known;
  };
  kind_is = known;
  rest_is = refl;
}

-- a text begins with at most one macro
pub macro_one : (k l : Kind) (text rest more : List ℕ) → MacroAt k text rest → MacroAt l text more
    → (k ≡ l) × (rest ≡ more)
macro_one k l text rest more x y =
    let m = x.begins in
    let n = y.begins in
    let whole : codes "<PRI" ++ m.conversion ∷ ((m.name ++ codes ">") ++ m.rest)
    ≡ codes "<PRI" ++ n.conversion ∷ ((n.name ++ codes ">") ++ n.rest) = sym m.text_is ∙ n.text_is in
    let parts : m.conversion ∷ ((m.name ++ codes ">") ++ m.rest) ≡ n.conversion ∷ ((n.name ++ codes ">") ++ n.rest) =
    append_cancel_left (codes "<PRI") _ _ whole in
    let behinds : (m.name ++ codes ">") ++ m.rest ≡ (n.name ++ codes ">") ++ n.rest = cc parts in
    let conversions : m.conversion ≡ n.conversion = cc parts in
    let names = one_run is_name_byte m.name (62 ∷ m.rest) n.name (62 ∷ n.rest) m.name_is refl n.name_is refl
    (sym (append_assoc m.name (codes ">") m.rest) ∙ behinds ∙ append_assoc n.name (codes ">") n.rest) in
    let rests : m.rest ≡ n.rest = cc names.1 in
    let known : kind_of n.conversion n.name ≡ Some k =
    subst (λ (a : List ℕ). kind_of n.conversion a ≡ Some k) names.0
    (subst (λ (c : ℕ). kind_of c m.name ≡ Some k) conversions x.kind_is) in
    let kinds : Some k ≡ Some l = sym known ∙ y.kind_is in
    (cc kinds, sym x.rest_is ∙ rests ∙ y.rest_is)

pub macro_shorter : (kind : Kind) (text rest : List ℕ) → MacroAt kind text rest → length rest < length text
macro_shorter kind text rest x =
    let m = x.begins in
    omega (
      arith,
      ap length m.text_is,
      length-append (m.name ++ codes ">") m.rest,
      length-append m.name (codes ">"),
      ap length x.rest_is,
    )
