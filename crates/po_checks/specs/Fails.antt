-- Why the entries of a PO text are refused, at which line, and in which order (GNU gettext manual, "msgfmt
-- Invocation").
use Rattle.std.specs.Prelude.{◌≡◌, ◌≢◌, ℕ, ◌<◌, AllPairs, IsTrue, List, ◌∷◌, ◌++◌, map, Contains, Some}
use Rattle.std.specs.List.{Any}
use Rattle.po_text.specs.Entries as po
use Rattle.po_header.specs.Rule.{Rule, Given, Absent, Broken}
use Rattle.po_checks.specs.Checks.{FirstAt, HasSystemDependentText, HasOtherArguments, IsPlural, HasOtherCount}
use Rattle.po_checks.specs.Checks.{IsFirstWithoutForm, HasOtherNewlines}
use Rattle.po_checks.specs.Kept.{key_of, kept_entries, kept_header, header_line_of, HasHeaderRule, NamesAcceptedCharset}
use Rattle.po_checks.specs.declared.options.Options.{Options}
use Rattle.po_checks.specs.declared.fault.LoadKind.{LoadKind}
use Rattle.po_checks.specs.declared.fault.LoadKind.TheVariants.{TooLarge, NotUtf8, BadEscape, OpenString, BadWord}
use Rattle.po_checks.specs.declared.fault.LoadKind.TheVariants.{BadText, BadOrder, BadIndex, Duplicate, Charset}
use Rattle.po_checks.specs.declared.fault.LoadKind.TheVariants.{SystemDependent, NoRule, BadRule, FormCount}
use Rattle.po_checks.specs.declared.fault.LoadKind.TheVariants.{PluralRange, FormatMismatch, NewlineMismatch, Memory}

-- no two entries have the same key
abbrev pub HasDistinctKeys : List po.Entry → Type 0
HasDistinctKeys entries = AllPairs (λ k l. k ≢ l) (map key_of entries)

-- the first entry with the key of an earlier one, kept or not, is on this line
pub record IsDuplicateAt (entries : List po.Entry) (line : ℕ) : Type 0 where
  pub before : List po.Entry
  pub e : po.Entry
  pub after : List po.Entry
  pub split : entries ≡ before ++ e ∷ after
  pub distinct_before : HasDistinctKeys before
  pub again : Contains (map key_of before) (key_of e)
  pub line_is : line ≡ e.line

-- the kept header is on this line, and names a charset that isn't accepted
pub record IsForeignAt (options : Options) (entries : List po.Entry) (line : ℕ) : Type 0 where
  pub header : po.Entry
  pub is : kept_header options entries ≡ Some header
  pub foreign : ¬ NamesAcceptedCharset header
  pub line_is : line ≡ header.line

-- the entries break the rule for plural forms, or the rule is missing or can't be read; `at` is the header's line
abbrev pub RuleRefuses : Rule → List po.Entry → ℕ → LoadKind → ℕ → Type 0
RuleRefuses Absent entries at NoRule line = FirstAt IsPlural entries line
RuleRefuses Broken entries at BadRule line = Any IsPlural entries × (line ≡ at)
RuleRefuses (Given nplurals tree) entries at FormCount line = FirstAt (HasOtherCount nplurals) entries line
RuleRefuses (Given nplurals tree) entries at (PluralRange n) line = IsFirstWithoutForm nplurals tree n × (line ≡ at)
RuleRefuses _ entries at _ line = ⊥

-- the rule in the kept header refuses the kept entries
abbrev pub HeaderRefuses : Options → List po.Entry → LoadKind → ℕ → Type 0
HeaderRefuses options entries kind line = (rule : Rule) × HasHeaderRule options entries rule
    × RuleRefuses rule (kept_entries options entries) (header_line_of options entries) kind line

-- the entries are refused with this kind at this line; the kinds from `NoRule` on apply only at the checked level
abbrev pub Fails : Options → List po.Entry → LoadKind → ℕ → Type 0
Fails options entries Duplicate line = IsDuplicateAt entries line
Fails options entries Charset line = IsForeignAt options entries line
Fails options entries SystemDependent line = FirstAt HasSystemDependentText (kept_entries options entries) line
Fails options entries NoRule line = IsTrue options.checked × HeaderRefuses options entries NoRule line
Fails options entries BadRule line = IsTrue options.checked × HeaderRefuses options entries BadRule line
Fails options entries FormCount line = IsTrue options.checked × HeaderRefuses options entries FormCount line
Fails options entries (PluralRange n) line = IsTrue options.checked × HeaderRefuses options entries (PluralRange n) line
Fails options entries FormatMismatch line = IsTrue options.checked
    × FirstAt HasOtherArguments (kept_entries options entries) line
Fails options entries NewlineMismatch line = IsTrue options.checked
    × FirstAt HasOtherNewlines (kept_entries options entries) line
Fails options entries _ line = ⊥

-- the order in which refusals are reported
abbrev pub rank : LoadKind → ℕ
rank TooLarge = 1
rank NotUtf8 = 2
rank BadEscape = 3
rank OpenString = 4
rank BadWord = 5
rank BadText = 6
rank BadOrder = 7
rank BadIndex = 8
rank Duplicate = 9
rank Charset = 10
rank SystemDependent = 11
rank NoRule = 12
rank BadRule = 13
rank FormCount = 14
rank (PluralRange n) = 15
rank FormatMismatch = 16
rank NewlineMismatch = 17
rank Memory = 18

-- this is the first failure, by rank
pub record IsFirst (Failing : LoadKind → ℕ → Type 0) (kind : LoadKind) (line : ℕ) : Type 0 where
  pub holds : Failing kind line
  pub first : (other : LoadKind) (at : ℕ) → rank other < rank kind → ¬ Failing other at
