-- Directives that name an argument, and what each asks for (GNU gettext manual, "Perl Format Strings", "Shell Format
-- Strings"; POSIX, "Shell Command Language", 2.6.2, "Parameter Expansion"; Perl's Locale::TextDomain, "__x").
pub use Rattle.byte_text.specs.Characters.{dollar}
use Rattle.std.specs.Prelude.{◌≡◌, ℕ, ◌==◌, if◌then◌else◌, List, [], ◌∷◌, Option, None, Some}
use Rattle.format_arguments.specs.Bytes.{run, behind}
use Rattle.python_brace_format.specs.BraceFields.{is_letter, is_word}
use Rattle.python_brace_format.specs.BraceSpecifiers.{open_brace, close_brace}
use Rattle.named_formats.specs.declared.Notation.{Notation}
use Rattle.named_formats.specs.declared.Notation.TheVariants.{PerlBrace, Shell}

-- the byte that a directive begins with
abbrev pub mark : Notation → ℕ
mark PerlBrace = open_brace
mark Shell = dollar

-- ---- what stands behind that byte: a name, and what follows

-- letters, digits and `_`, not beginning with a digit
abbrev pub split_name : List ℕ → Option (List ℕ × List ℕ)
split_name [] = None
split_name (b ∷ more) =
    if is_letter b then Some (run is_word (b ∷ more), behind is_word (b ∷ more)) else None

-- the closing brace has to follow
abbrev pub with_brace : Option (List ℕ × List ℕ) → Option (List ℕ × List ℕ)
with_brace None = None
with_brace (Some (name, [])) = None
with_brace (Some (name, b ∷ more)) = if b == close_brace then Some (name, more) else None

abbrev pub split_closed_name : List ℕ → Option (List ℕ × List ℕ)
split_closed_name text = with_brace (split_name text)

-- a name, or one in braces
abbrev pub shell : List ℕ → Option (List ℕ × List ℕ)
shell [] = None
shell (b ∷ more) = if b == open_brace then split_closed_name more else split_name (b ∷ more)

abbrev pub name_in : Notation → List ℕ → Option (List ℕ × List ℕ)
name_in PerlBrace text = split_closed_name text
name_in Shell text = shell text

-- ---- directives

-- where no name follows, a brace of Perl is plain text, and the shell has no such directive
abbrev pub behind_plain : Notation → List ℕ → Option (List ℕ)
behind_plain PerlBrace text = Some text
behind_plain Shell text = None

-- text is the directive of this name, or a brace that is plain text, followed by rest
abbrev pub DirectiveAt : Notation → Option (List ℕ) → List ℕ → List ℕ → Type 0
DirectiveAt notation (Some name) text rest =
    (inner : List ℕ) × (text ≡ mark notation ∷ inner) × (name_in notation inner ≡ Some (name, rest))
DirectiveAt notation None text rest =
    (inner : List ℕ) × (text ≡ mark notation ∷ inner) × (name_in notation inner ≡ None)
    × (behind_plain notation inner ≡ Some rest)
