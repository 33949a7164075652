-- Directives of each language.
pub use Rattle.byte_text.specs.Characters.{percent}
use Rattle.std.specs.Prelude.{◌≡◌, ℕ, List, ◌∷◌, Option, Some}
use Rattle.numbered_arguments.specs.declared.Kind.{Kind}
use Rattle.numbered_arguments.specs.declared.Request.{Request}
use Rattle.script_formats.specs.declared.Notation.{Notation}
use Rattle.script_formats.specs.declared.Notation.TheVariants.{Perl, JavaScript, Tcl, Awk, Lua, ObjectPascal, Boost}
use Rattle.script_formats.specs.declared.directive.Directive.{Directive}
use Rattle.script_formats.specs.ScriptParts as parts
use Rattle.script_formats.specs.PerlDirectives as perl
use Rattle.script_formats.specs.JavaScriptDirectives as javascript
use Rattle.script_formats.specs.TclDirectives as tcl
use Rattle.script_formats.specs.AwkDirectives as awk
use Rattle.script_formats.specs.LuaDirectives as lua
use Rattle.script_formats.specs.PascalDirectives as pascal
use Rattle.script_formats.specs.BoostDirectives as boost

abbrev pub argument : Option ℕ → Option Kind → Option Request
argument number kind = parts.argument number kind

abbrev pub printing_directive : Option Request → Option Request → Option Request → Directive
printing_directive width precision asked = parts.printing_directive width precision asked

abbrev pub directive : Notation → List ℕ → Option (Directive × List ℕ)
directive Perl text = perl.directive text
directive JavaScript text = javascript.directive text
directive Tcl text = tcl.directive text
directive Awk text = awk.directive text
directive Lua text = lua.directive text
directive ObjectPascal text = pascal.directive text
directive Boost text = boost.directive text

-- text is a `%` and this directive, followed by rest
abbrev pub DirectiveAt : Notation → Directive → List ℕ → List ℕ → Type 0
DirectiveAt notation d text rest =
    (inner : List ℕ) × (text ≡ percent ∷ inner) × (directive notation inner ≡ Some (d, rest))
