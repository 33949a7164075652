-- What the checks have found among the kept entries read so far, and the first fault that follows from it.
use Rattle.std.specs.Prelude.{◌≡◌, ℕ, ◌≤◌, ◌==◌, Bool, IsTrue, if◌then◌else◌, List, [], ◌∷◌, ◌++◌, Option, Some, None}
use Rattle.po_text.specs.Entries as po
use Rattle.po_header.specs.Rule.{Rule}
use Rattle.po_checks.specs.Checks.{NoneOf, FirstAt, HasSystemDependentText, HasOtherArguments, IsPlural, HasOtherCount}
use Rattle.po_checks.specs.Checks.{HasOtherNewlines}
use Rattle.po_checks.specs.Kept.{kept_entries, header_line_of, HasHeaderRule}
use Rattle.po_checks.specs.Fails.{rank, Fails, IsFirst}
use Rattle.po_checks.specs.declared.findings.Findings.{Findings}
use Rattle.po_checks.specs.declared.plurals.FirstPlural.{FirstPlural}
use Rattle.po_checks.specs.declared.plurals.Plurals.{Plurals}
use Rattle.po_checks.specs.declared.options.Options.{Options}
use Rattle.po_checks.specs.declared.fault.LoadFault.{LoadFault}
use Rattle.po_checks.specs.declared.fault.LoadKind.{LoadKind}

-- the line of the first entry for which P holds, if there is one
abbrev pub FirstLine : (po.Entry → Type 0) → List po.Entry → Option ℕ → Type 0
FirstLine P entries None = NoneOf P entries
FirstLine P entries (Some line) = FirstAt P entries line

-- the first fault, by rank, if there is one
abbrev pub FirstFault : (LoadKind → ℕ → Type 0) → Option LoadFault → Type 0
FirstFault Failing None = (kind : LoadKind) (line : ℕ) → ¬ Failing kind line
FirstFault Failing (Some fault) = IsFirst Failing fault.kind fault.line

-- the line of the first plural entry with another number of forms than nplurals, as kept in `FirstPlural`
abbrev pub line_for : Option FirstPlural → ℕ → Option ℕ
line_for None nplurals = None
line_for (Some first) nplurals = if first.forms == nplurals then first.other else Some first.line

abbrev pub line_of : Option FirstPlural → Option ℕ
line_of None = None
line_of (Some first) = Some first.line

-- the plural entries are those among these entries
pub record HasPlurals (entries : List po.Entry) (plurals : Plurals) : Type 0 where
  pub first : FirstLine IsPlural entries (line_of plurals.first)
  pub other : (nplurals : ℕ) → FirstLine (HasOtherCount nplurals) entries (line_for plurals.first nplurals)

-- the findings about these entries: formats at both levels, and the rest at the checked level
pub record AreFound (checked : Bool) (entries : List po.Entry) (findings : Findings) : Type 0 where
  pub dependent : FirstLine HasSystemDependentText entries findings.system_dependent
  pub mismatch : FirstLine HasOtherArguments entries findings.mismatch
  pub newlines : IsTrue checked → FirstLine HasOtherNewlines entries findings.newlines
  pub plurals : IsTrue checked → HasPlurals entries findings.plurals

-- the findings about the kept entries
abbrev pub HasFound : Options → List po.Entry → Findings → Type 0
HasFound options entries findings = AreFound options.checked (kept_entries options entries) findings

-- the entries are refused with this kind, whose rank is at least n
abbrev pub FailsFrom : ℕ → Options → List po.Entry → LoadKind → ℕ → Type 0
FailsFrom n options entries kind line = (n ≤ rank kind) × Fails options entries kind line

-- the findings include one more entry
abbrev pub LooksAt : Options → po.Entry → Findings → Findings → Type 0
LooksAt options e old new = (entries : List po.Entry) → HasFound options entries old
    → HasFound options (entries ++ e ∷ []) new

-- the first fault by the findings and by the rule and line of the header, among the refusals from the eleventh on
abbrev pub IsFault : Findings → Options → Rule → ℕ → Option LoadFault → Type 0
IsFault findings options rule at fault = (entries : List po.Entry) → HasFound options entries findings
    → HasHeaderRule options entries rule → at ≡ header_line_of options entries
    → FirstFault (FailsFrom 11 options entries) fault
