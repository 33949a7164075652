-- A text begins with at most one directive, which is longer than nothing.
use Rattle.std.proofs.Common.{◌≡◌, ℕ, Bool, List, [], ◌∷◌, length, Option, None, Some, refl, sym, ap, subst, ◌∙◌}
use Rattle.std.proofs.Common.{arith, Result, Ok, Err, IfOk}
use Rattle.std.specs.Prelude.{MatchOption, option_map}
use Rattle.format_arguments.specs.Bytes.{behind}
use Rattle.format_arguments.specs.Text.{AreDirectives}
use Rattle.lisp_formats.specs.declared.Notation.{Notation}
use Rattle.lisp_formats.specs.declared.Kind.{Kind}
use Rattle.lisp_formats.specs.declared.parameters.Parameter.{Parameter}
use Rattle.lisp_formats.specs.declared.conversions.Conversion.{Conversion}
use Rattle.lisp_formats.specs.declared.conversions.Target.{Target}
use Rattle.lisp_formats.specs.declared.conversions.Target.TheVariants.{Nothing, Next, Previous, Unread}
use Rattle.lisp_formats.specs.LispParameters.{AreParameters}
use Rattle.lisp_formats.specs.LispConversions.{conversion_of, expected_kinds, target_of}
use Rattle.lisp_formats.specs.LispDirectives.{Directive, tilde, variables, is_modifier, modifiers, directive_from}
use Rattle.lisp_formats.specs.LispDirectives.{directive_to, converted_if, behind_modifiers, back, DirectiveAt}
use Rattle.lisp_formats.proofs.LispParameterLemmas.{Within, some_is, behind_within, parameters_within, one_parameters}

-- ---- what follows a directive is no longer than the text

made_within : (target : Target) (rest : List ℕ) (kinds : Option (List Kind))
    → Within Directive rest (directive_from target rest kinds)
made_within target rest None p e = absurd (cc e)
made_within target rest (Some kinds) p e =
    some_is Directive (record { variables = kinds; target = target }, rest) p (length rest) e (omega arith)

targeted_within : (conversion : Conversion) (ps : List Parameter) (rest : List ℕ) (target : Target)
    → Within Directive rest (directive_to conversion ps rest target)
targeted_within conversion ps rest Unread p e =
    some_is Directive (record { variables = []; target = Unread }, []) p (length rest) e (omega arith)
targeted_within conversion ps rest Nothing p e = made_within Nothing rest (variables (expected_kinds conversion) ps) p e
targeted_within conversion ps rest (Next kind) p e =
    made_within (Next kind) rest (variables (expected_kinds conversion) ps) p e
targeted_within conversion ps rest Previous p e = made_within Previous rest (variables (expected_kinds conversion) ps)
    p e

converted_within : (found : Option Conversion) (colon : Bool) (ps : List Parameter) (rest : List ℕ)
    → Within Directive rest (converted_if found colon ps rest)
converted_within None colon ps rest p e = absurd (cc e)
converted_within (Some conversion) colon ps rest p e =
    targeted_within conversion ps rest (target_of conversion colon ps) p e

modified_within : (notation : Notation) (ps : List Parameter) (colon : Bool) (text : List ℕ)
    → Within Directive text (behind_modifiers notation ps colon text)
modified_within notation ps colon [] p e = absurd (cc e)
modified_within notation ps colon (letter ∷ rest) p e =
    omega (arith, converted_within (conversion_of notation letter) colon ps rest p e)

back_within : (notation : Notation) (ps : List Parameter) (text : List ℕ)
    → Within Directive text (back notation ps text)
back_within notation ps text p e = omega (
  arith,
  behind_within is_modifier text,
  modified_within notation ps (modifiers text).0 (modifiers text).1 p e,
)

-- ---- nothing follows a directive that is not read

abbrev Ends : Option (Directive × List ℕ) → Type 0
Ends found = (p : Directive × List ℕ) → found ≡ Some p → p.0.target ≡ Unread → p.1 ≡ []

made_ends : (target : Target) (rest : List ℕ) (kinds : Option (List Kind)) → (target ≡ Unread → ⊥)
    → Ends (directive_from target rest kinds)
made_ends target rest None read p e unread = absurd (cc e)
made_ends target rest (Some kinds) read p e unread =
    let d : Directive = record { variables = kinds; target = target } in
    let same : p ≡ (d, rest) = cc (sym e) in
    absurd (read (sym (ap (λ (x : Directive × List ℕ). x.0.target) same) ∙ unread))

targeted_ends : (conversion : Conversion) (ps : List Parameter) (rest : List ℕ) (target : Target)
    → Ends (directive_to conversion ps rest target)
targeted_ends conversion ps rest Unread p e unread =
    let d : Directive = record { variables = []; target = Unread } in
    let same : p ≡ (d, []) = cc (sym e) in
    ap (λ (x : Directive × List ℕ). x.1) same
targeted_ends conversion ps rest Nothing p e unread =
    made_ends Nothing rest (variables (expected_kinds conversion) ps) (λ x. absurd (cc x)) p e unread
targeted_ends conversion ps rest (Next kind) p e unread =
    made_ends (Next kind) rest (variables (expected_kinds conversion) ps) (λ x. absurd (cc x)) p e unread
targeted_ends conversion ps rest Previous p e unread =
    made_ends Previous rest (variables (expected_kinds conversion) ps) (λ x. absurd (cc x)) p e unread

converted_ends : (found : Option Conversion) (colon : Bool) (ps : List Parameter) (rest : List ℕ)
    → Ends (converted_if found colon ps rest)
converted_ends None colon ps rest p e unread = absurd (cc e)
converted_ends (Some conversion) colon ps rest p e unread =
    targeted_ends conversion ps rest (target_of conversion colon ps) p e unread

modified_ends : (notation : Notation) (ps : List Parameter) (colon : Bool) (text : List ℕ)
    → Ends (behind_modifiers notation ps colon text)
modified_ends notation ps colon [] p e unread = absurd (cc e)
modified_ends notation ps colon (letter ∷ rest) p e unread =
    converted_ends (conversion_of notation letter) colon ps rest p e unread

pub unread_ends : (notation : Notation) (d : Directive) (text rest : List ℕ) → DirectiveAt notation d text rest
    → d.target ≡ Unread → rest ≡ []
unread_ends notation d text rest (inner, ps, after, f, x, g) unread =
    modified_ends notation ps (modifiers after).0 (modifiers after).1 (d, rest) g unread

-- ---- directives

directive_one : (notation : Notation) (d e : Directive) (text rest more : List ℕ) → DirectiveAt notation d text rest
    → DirectiveAt notation e text more → (d ≡ e) × (rest ≡ more)
directive_one notation d e text rest more (a, ps, r, f, x, g) (b, qs, s, h, y, i) =
    let same : a ≡ b = cc (f, h) in
    let one = one_parameters ps qs a r s x (subst (λ (t : List ℕ). AreParameters qs t s) (sym same) y) in
    let found : Some (d, rest) ≡ Some (e, more) = sym g ∙ ap (λ (zs : List Parameter). back notation zs r) one.0
    ∙ ap (back notation qs) one.1 ∙ i in
    let whole : (d, rest) ≡ (e, more) = cc found in
    (ap (λ (p : Directive × List ℕ). p.0) whole, ap (λ (p : Directive × List ℕ). p.1) whole)

pub are_directives : (notation : Notation) → AreDirectives tilde (DirectiveAt notation)
are_directives notation = record {
  begins = λ d text rest (a, ps, r, f, x, g). (a, f);
  one = directive_one notation;
  shorter = λ d text rest (a, ps, r, f, x, g). omega (
    arith,
    ap length f,
    parameters_within ps a r x,
    back_within notation ps r (d, rest) g,
  );
}

-- ---- reading one

pub no_parameters : (notation : Notation) (text : List ℕ)
    → ((ps : List Parameter) (rest : List ℕ) → AreParameters ps text rest → ⊥) → (d : Directive) (rest : List ℕ)
    → DirectiveAt notation d (tilde ∷ text) rest → ⊥
no_parameters notation text none d rest (a, ps, r, f, x, g) =
    let same : text ≡ a = cc f in
    none ps r (subst (λ (t : List ℕ). AreParameters ps t r) (sym same) x)

nothing_behind : (notation : Notation) (text after : List ℕ) (ps : List Parameter) → AreParameters ps text after
    → None ≡ back notation ps after → (d : Directive) (rest : List ℕ) → DirectiveAt notation d (tilde ∷ text) rest → ⊥
nothing_behind notation text after ps are none d rest (a, qs, r, f, x, g) =
    let same : text ≡ a = cc f in
    let one = one_parameters ps qs text after r are (subst (λ (t : List ℕ). AreParameters qs t r) (sym same) x) in
    absurd (cc (none, ap (λ (zs : List Parameter). back notation zs after) one.0, ap (back notation qs) one.1, g))

-- what a reader finds is a directive, and where it finds none there is none
pub read_is : {X : Type 0} (notation : Notation) (text after : List ℕ) (ps : List Parameter)
    (view : X → Directive × List ℕ) (found : Option X) → AreParameters ps text after
    → option_map view found ≡ back notation ps after
    → MatchOption found ((d : Directive) (rest : List ℕ) → ¬ DirectiveAt notation d (tilde ∷ text) rest)
    (λ x. DirectiveAt notation (view x).0 (tilde ∷ text) (view x).1)
read_is notation text after ps view None are e = nothing_behind notation text after ps are e
read_is notation text after ps view (Some x) are e = (text, ps, after, refl, are, sym e)

pub read_is_ok : {X E : Type 0} (notation : Notation) (text after : List ℕ) (ps : List Parameter)
    (view : X → Directive × List ℕ) (result : Result (Option X) E) → AreParameters ps text after
    → IfOk result (λ found. option_map view found ≡ back notation ps after)
    → IfOk result (λ found. MatchOption found
    ((d : Directive) (rest : List ℕ) → ¬ DirectiveAt notation d (tilde ∷ text) rest)
    (λ x. DirectiveAt notation (view x).0 (tilde ∷ text) (view x).1))
read_is_ok notation text after ps view (Ok found) are e = read_is notation text after ps view found are e
read_is_ok notation text after ps view (Err error) are e = e
