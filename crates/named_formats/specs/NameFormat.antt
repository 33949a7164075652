-- Formats, the arguments that they ask for, and when those of two formats agree, as GNU gettext has it.
use Rattle.std.specs.Prelude.{ℕ, Bool, true, List}
use Rattle.format_arguments.specs.declared.FormatFault.{FormatFault}
use Rattle.format_arguments.specs.declared.Strictness.{Strictness}
use Rattle.format_arguments.specs.declared.Strictness.TheVariants.{Same, Lenient}
use Rattle.format_arguments.specs.Arguments as arguments
use Rattle.format_arguments.specs.Arguments.{Argument}
use Rattle.format_arguments.specs.Text.{Asks, Fails}
use Rattle.python_brace_format.specs.BraceDirectives.{asks}
use Rattle.named_formats.specs.declared.Notation.{Notation}
use Rattle.named_formats.specs.declared.Notation.TheVariants.{PerlBrace, Shell}
use Rattle.named_formats.specs.NameDirectives.{mark, DirectiveAt}

-- the text is a format that asks for these arguments
abbrev pub HasSignature : Notation → List ℕ → List Argument → Type 0
HasSignature notation text asked = Asks (mark notation) (DirectiveAt notation) asks text asked

-- the text has this fault
abbrev pub HasFault : Notation → List ℕ → FormatFault → Type 0
HasFault notation text fault = Fails (mark notation) (DirectiveAt notation) asks text fault

-- In the shell the names are the same; leniently, the translation leaves some out. In Perl the translation may add
-- names, so that it is the original which leaves some out; leniently, it may have any.
abbrev pub agree : Notation → List Argument → List Argument → Strictness → Bool
agree PerlBrace original translation Same = arguments.agree translation original Lenient
agree PerlBrace original translation Lenient = true
agree Shell original translation rule = arguments.agree original translation rule
