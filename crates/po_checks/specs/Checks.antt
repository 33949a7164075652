-- What is checked in the kept entries of a PO text (GNU gettext manual, "msgfmt Invocation": `--check`).
use Rattle.std.specs.Prelude.{◌≡◌, ◌≢◌, ◌⊎◌, ℕ, ◌-◌, ◌<◌, ◌≤◌, ◌==◌, nat_lt, Bool, true, false, is_some, IsTrue, List}
use Rattle.std.specs.Prelude.{[], ◌∷◌, ◌++◌, length, Option, Some, None, slice_get}
use Rattle.std.specs.List.{AllByRecursion, Any}
use Rattle.std.specs.Option.{option_map_or}
use Rattle.po_text.specs.Entries as po
use Rattle.po_header.specs.Grammar.{Tree}
use Rattle.po_header.specs.TreeValue.{value}
use Rattle.c_signature.specs.Agreement.{Agrees}
use Rattle.c_signature.specs.Signature.{Lists, IsInvalid, IsSystemDependent}
use Rattle.c_signature.specs.declared.ArgKind.{ArgKind}
use Rattle.c_signature.specs.declared.Strictness.{Strictness}
use Rattle.c_signature.specs.declared.Strictness.TheVariants.{Same, Prefix}

-- ---- the first entry

-- P holds for none of the entries
abbrev pub NoneOf : (po.Entry → Type 0) → List po.Entry → Type 0
NoneOf P entries = AllByRecursion (λ e. ¬ P e) entries

-- the first entry for which P holds is on this line
pub record FirstAt (P : po.Entry → Type 0) (entries : List po.Entry) (line : ℕ) : Type 0 where
  pub before : List po.Entry
  pub e : po.Entry
  pub after : List po.Entry
  pub split : entries ≡ before ++ e ∷ after
  pub none_before : NoneOf P before
  pub holds : P e
  pub line_is : line ≡ e.line

-- ---- the texts of an entry

abbrev pub text_if : Option (List ℕ) → List (List ℕ)
text_if None = []
text_if (Some text) = text ∷ []

-- the texts of an entry: its msgid, its msgid_plural if it has one, and its forms
abbrev pub texts : po.Entry → List (List ℕ)
texts e = e.id ∷ text_if e.plural ++ e.forms

-- ---- formats (GNU gettext manual, "c-format")

-- the entry is flagged `c-format`, and one of its texts names a macro whose size differs from system to system
pub record HasSystemDependentText (e : po.Entry) : Type 0 where
  pub flagged : e.c_format ≡ true
  pub some : Any IsSystemDependent (texts e)

-- the text that the forms are compared with: the msgid_plural, or the msgid if there is none
abbrev pub original_or : List ℕ → Option (List ℕ) → List ℕ
original_or id None = id
original_or id (Some plural) = plural

abbrev pub format_original : po.Entry → List ℕ
format_original e = original_or e.id e.plural

-- without a plural the arguments have to be equal; a form of a plural message may leave out the last ones
abbrev pub strictness : Option (List ℕ) → Strictness
strictness None = Same
strictness (Some plural) = Prefix

-- the form isn't a valid format, or its arguments don't agree with the original's
abbrev pub Differs : List ArgKind → Strictness → List ℕ → Type 0
Differs original rule form = IsInvalid form ⊎ ((kinds : List ArgKind) × Lists form kinds × ¬ Agrees original kinds rule)

-- some form differs from the original; an original that isn't a valid format isn't compared
pub record FormsDiffer (e : po.Entry) : Type 0 where
  pub kinds : List ArgKind
  pub original : Lists (format_original e) kinds
  pub some : Any (Differs kinds (strictness e.plural)) e.forms

-- the entry is flagged `c-format`, and some form differs from the original
pub record HasOtherArguments (e : po.Entry) : Type 0 where
  pub flagged : e.c_format ≡ true
  pub differ : FormsDiffer e

-- ---- plural forms (GNU gettext manual, "Plural forms")

abbrev pub IsPlural : po.Entry → Type 0
IsPlural e = IsTrue (is_some e.plural)

-- a plural message with another number of forms than the rule says
pub record HasOtherCount (nplurals : ℕ) (e : po.Entry) : Type 0 where
  pub plural : IsPlural e
  pub differs : length e.forms ≢ nplurals

-- whether the rule gives n one of the forms: the expression has a value, which is the index of a form
abbrev pub has_form : ℕ → Tree → ℕ → Bool
has_form nplurals tree n = option_map_or (λ form. nat_lt form nplurals) (value tree n) false

-- n is the least number from 0 to 1000 that the rule gives none of the forms
pub record IsFirstWithoutForm (nplurals : ℕ) (tree : Tree) (n : ℕ) : Type 0 where
  pub within : n ≤ 1000
  pub none : has_form nplurals tree n ≡ false
  pub least : (m : ℕ) → m < n → has_form nplurals tree m ≡ true

-- ---- newlines

abbrev pub is_newline : Option ℕ → Bool
is_newline None = false
is_newline (Some b) = b == 10

abbrev pub begins_with_newline : List ℕ → Bool
begins_with_newline text = is_newline (slice_get text 0)

abbrev pub ends_with_newline : List ℕ → Bool
ends_with_newline text = is_newline (slice_get text (length text - 1))

-- some of the texts pass the test, and others don't
pub record IsMixed (test : List ℕ → Bool) (ts : List (List ℕ)) : Type 0 where
  pub some : Any (λ text. test text ≡ true) ts
  pub others : Any (λ text. test text ≡ false) ts

-- some texts of the entry begin with a newline and others don't, or some end with one and others don't; an entry with
-- the empty msgid isn't checked
pub record HasOtherNewlines (e : po.Entry) : Type 0 where
  pub named : e.id ≢ []
  pub mixed : IsMixed begins_with_newline (texts e) ⊎ IsMixed ends_with_newline (texts e)
