-- What follows a part of a directive of JavaScript's is no longer than the text.
use Rattle.std.proofs.Common.{ℕ, List, [], ◌∷◌, length, Option, None, Some, refl, arith}
use Rattle.std.specs.Char.{is_ascii_digit}
use Rattle.format_arguments.specs.Bytes.{behind}
use Rattle.numbered_arguments.specs.declared.Kind.{Kind}
use Rattle.script_formats.specs.declared.directive.Directive.{Directive}
use Rattle.script_formats.specs.ScriptParts.{argument, printing_directive, index_at, behind_precision}
use Rattle.script_formats.specs.JavaScriptDirectives.{is_flag, asked_by, made_if, behind_number, back, back_of}
use Rattle.script_formats.specs.JavaScriptDirectives.{directive}
use Rattle.script_formats.proofs.PartLemmas.{Within, some_is, behind_within, index_within, precision_within}

made_within : (number : Option ℕ) (rest : List ℕ) (kind : Option (Option Kind))
    → Within Directive rest (made_if number rest kind)
made_within number rest None q e = absurd (cc e)
made_within number rest (Some kind) q e =
    some_is Directive (printing_directive None None (argument number kind), rest) q (length rest) e (omega arith)

converted_within : (number : Option ℕ) (text : List ℕ) → Within Directive text (behind_number number text)
converted_within number [] q e = absurd (cc e)
converted_within number (b ∷ more) q e = omega (arith, made_within number more (asked_by b) q e)

back_within : (number : Option ℕ) (text : List ℕ) → Within Directive text (back number text)
back_within number text q e =
    let flags = behind is_flag text in
    let wide = behind is_ascii_digit flags in
    omega (
      arith,
      behind_within is_flag text,
      behind_within is_ascii_digit flags,
      precision_within wide,
      converted_within number (behind_precision wide) q e,
    )

back_of_within : (text : List ℕ) (found : Option (Option ℕ × List ℕ)) → Within (Option ℕ) text found
    → Within Directive text (back_of found)
back_of_within text None h q e = absurd (cc e)
back_of_within text (Some x) h q e = omega (arith, h x refl, back_within x.0 x.1 q e)

pub directive_within : (text : List ℕ) → Within Directive text (directive text)
directive_within text = back_of_within text (index_at text) (index_within text)
