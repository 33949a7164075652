-- What follows a part of a directive of Lua's is no longer than the text.
use Rattle.std.proofs.Common.{◌≡◌, ℕ, ◌≤◌, List, [], ◌∷◌, length, Option, None, Some, refl, arith}
use Rattle.std.specs.Char.{is_ascii_digit}
use Rattle.format_arguments.specs.Bytes.{behind}
use Rattle.numbered_arguments.specs.declared.Kind.{Kind}
use Rattle.script_formats.specs.declared.directive.Directive.{Directive}
use Rattle.script_formats.specs.ScriptParts.{argument, printing_directive, behind_percent, behind_precision}
use Rattle.script_formats.specs.LuaDirectives.{asked_by, made_if, conversion_at, unless_percent, directive}
use Rattle.script_formats.proofs.PartLemmas.{Within, some_is, behind_within, precision_within, percent_within}

made_within : (rest : List ℕ) (kind : Option Kind) → Within Directive rest (made_if rest kind)
made_within rest None q e = absurd (cc e)
made_within rest (Some kind) q e =
    some_is Directive (printing_directive None None (argument None (Some kind)), rest) q (length rest) e (omega arith)

converted_within : (text : List ℕ) → Within Directive text (conversion_at text)
converted_within [] q e = absurd (cc e)
converted_within (b ∷ more) q e = omega (arith, made_within more (asked_by b) q e)

asking_within : (text : List ℕ) (plain : Option (List ℕ))
    → ((rest : List ℕ) → plain ≡ Some rest → length rest ≤ length text)
    → Within Directive text (unless_percent text plain)
asking_within text None h q e =
    let wide = behind is_ascii_digit text in
    omega (
      arith,
      behind_within is_ascii_digit text,
      precision_within wide,
      converted_within (behind_precision wide) q e,
    )
asking_within text (Some rest) h q e =
    some_is Directive (printing_directive None None None, rest) q (length text) e (h rest refl)

pub directive_within : (text : List ℕ) → Within Directive text (directive text)
directive_within text = asking_within text (behind_percent text) (percent_within text)
