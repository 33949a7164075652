-- A text begins with at most one directive.
use Rattle.std.proofs.Common.{◌≡◌, ℕ, ◌<◌, List, ◌∷◌, length, Option, None, Some, refl, sym, ap, ◌∙◌, arith}
use Rattle.std.specs.Prelude.{MatchOption, option_map}
use Rattle.format_arguments.specs.Text.{AreDirectives}
use Rattle.script_formats.specs.declared.Notation.{Notation}
use Rattle.script_formats.specs.declared.Notation.TheVariants.{Perl, JavaScript, Tcl, Awk, Lua, ObjectPascal, Boost}
use Rattle.script_formats.specs.declared.directive.Directive.{Directive}
use Rattle.script_formats.specs.ScriptDirectives.{percent, directive, DirectiveAt}
use Rattle.script_formats.proofs.PartLemmas.{Within}
use Rattle.script_formats.proofs.PerlLemmas as perl
use Rattle.script_formats.proofs.JavaScriptLemmas as javascript
use Rattle.script_formats.proofs.TclLemmas as tcl
use Rattle.script_formats.proofs.AwkLemmas as awk
use Rattle.script_formats.proofs.LuaLemmas as lua
use Rattle.script_formats.proofs.PascalLemmas as pascal
use Rattle.script_formats.proofs.BoostLemmas as boost

within : (notation : Notation) (text : List ℕ) → Within Directive text (directive notation text)
within Perl text = perl.directive_within text
within JavaScript text = javascript.directive_within text
within Tcl text = tcl.directive_within text
within Awk text = awk.directive_within text
within Lua text = lua.directive_within text
within ObjectPascal text = pascal.directive_within text
within Boost text = boost.directive_within text

directive_one : (notation : Notation) (d e : Directive) (text rest more : List ℕ) → DirectiveAt notation d text rest
    → DirectiveAt notation e text more → (d ≡ e) × (rest ≡ more)
directive_one notation d e text rest more (a, f, g) (b, h, i) =
    let same : a ≡ b = cc (f, h) in
    let found : Some (d, rest) ≡ Some (e, more) = sym g ∙ ap (directive notation) same ∙ i in
    let whole : (d, rest) ≡ (e, more) = cc found in
    (ap (λ (p : Directive × List ℕ). p.0) whole, ap (λ (p : Directive × List ℕ). p.1) whole)

directive_shorter : (notation : Notation) (d : Directive) (text rest : List ℕ) → DirectiveAt notation d text rest
    → length rest < length text
directive_shorter notation d text rest (a, f, g) = omega (arith, ap length f, within notation a (d, rest) g)

directive_begins : (notation : Notation) (d : Directive) (text rest : List ℕ) → DirectiveAt notation d text rest
    → (behind : List ℕ) × (text ≡ percent ∷ behind)
directive_begins notation d text rest (a, f, g) = (a, f)

pub are_directives : (notation : Notation) → AreDirectives percent (DirectiveAt notation)
are_directives notation = record {
  begins = directive_begins notation;
  one = directive_one notation;
  shorter = directive_shorter notation;
}

no_directive : (notation : Notation) (text : List ℕ) → None ≡ directive notation text → (d : Directive)
    (rest : List ℕ) → DirectiveAt notation d (percent ∷ text) rest → ⊥
no_directive notation text none d rest (a, f, g) =
    let same : text ≡ a = cc f in
    absurd (cc (g, none, ap (directive notation) same))

-- what a reader finds is a directive, and where it finds none there is none
pub read_is : {X : Type 0} (notation : Notation) (text : List ℕ) (view : X → Directive × List ℕ) (found : Option X)
    → option_map view found ≡ directive notation text
    → MatchOption found ((d : Directive) (rest : List ℕ) → ¬ DirectiveAt notation d (percent ∷ text) rest)
    (λ x. DirectiveAt notation (view x).0 (percent ∷ text) (view x).1)
read_is notation text view None e = no_directive notation text e
read_is notation text view (Some x) e = (text, refl, sym e)
