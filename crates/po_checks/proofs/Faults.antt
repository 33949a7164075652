-- The first fault of the checks.
use Rattle.std.proofs.Common.{◌≡◌, ℕ, ◌<◌, ◌≤◌, true, false, List, Option, Some, None, refl, sym, ◌∙◌, subst, inl, inr}
use Rattle.std.proofs.Common.{arith}
use Rattle.std.specs.Prelude.{◌⊎◌, IsTrue, option_map}
use Rattle.std.proofs.lemmas.Bool.{cases_lt, false≢true}
use Rattle.po_text.specs.Entries as po
use Rattle.po_header.specs.Grammar.{Tree}
use Rattle.po_header.specs.Rule.{Rule, Given, Absent, Broken}
use Rattle.po_checks.specs.Checks.{NoneOf, FirstAt, IsPlural, HasSystemDependentText, HasOtherArguments, HasOtherCount}
use Rattle.po_checks.specs.Checks.{HasOtherNewlines, has_form, IsFirstWithoutForm}
use Rattle.po_checks.specs.Found.{FirstFault, FailsFrom, FirstLine}
use Rattle.po_checks.specs.Kept.{kept_entries, header_line_of, HasHeaderRule}
use Rattle.po_checks.specs.Fails.{RuleRefuses, HeaderRefuses, Fails, rank, IsFirst}
use Rattle.po_checks.specs.declared.options.Options.{Options}
use Rattle.po_checks.specs.declared.fault.LoadFault.{LoadFault}
use Rattle.po_checks.specs.declared.fault.LoadKind.{LoadKind}
use Rattle.po_checks.specs.declared.fault.LoadKind.TheVariants.{Duplicate, SystemDependent, NoRule, BadRule}
use Rattle.po_checks.specs.declared.fault.LoadKind.TheVariants.{FormCount, PluralRange, FormatMismatch, NewlineMismatch}
use Rattle.po_checks.proofs.FirstLines.{first_not_none, any_from_first, any_not_none}
use Rattle.po_checks.proofs.Refusals.{by_rule}

-- ---- by the rule

pub no_rule : (es : List po.Entry) (at line : ℕ) → FirstAt IsPlural es line
    → IsFirst (RuleRefuses Absent es at) NoRule line
no_rule es at line f = record { holds = f; first = λ other m lt. none other m lt }
  where
    none : (other : LoadKind) (m : ℕ) → rank other < 12 → RuleRefuses Absent es at other m → ⊥
    none NoRule m lt r = omega (arith, lt)
    none _ m lt r = r

pub any_rule : (es : List po.Entry) (at : ℕ) → NoneOf IsPlural es → (kind : LoadKind) (line : ℕ)
    → ¬ RuleRefuses Absent es at kind line
any_rule es at none NoRule line r = first_not_none IsPlural es line r none
any_rule es at none _ line r = r

pub bad_rule : (es : List po.Entry) (at line : ℕ) → FirstAt IsPlural es line
    → IsFirst (RuleRefuses Broken es at) BadRule at
bad_rule es at line f = record {
  holds = (any_from_first IsPlural es line f, refl);
  first = λ other m lt. none other m
      lt;
}
  where
    none : (other : LoadKind) (m : ℕ) → rank other < 13 → RuleRefuses Broken es at other m → ⊥
    none BadRule m lt r = omega (arith, lt)
    none _ m lt r = r

pub any_broken : (es : List po.Entry) (at : ℕ) → NoneOf IsPlural es → (kind : LoadKind) (line : ℕ)
    → ¬ RuleRefuses Broken es at kind line
any_broken es at none BadRule line r = any_not_none IsPlural es none r.0
any_broken es at none _ line r = r

pub form_count : (nplurals : ℕ) (tree : Tree) (es : List po.Entry) (at line : ℕ)
    → FirstAt (HasOtherCount nplurals) es line → IsFirst (RuleRefuses (Given nplurals tree) es at) FormCount line
form_count nplurals tree es at line f = record { holds = f; first = λ other m lt. none other m lt }
  where
    none : (other : LoadKind) (m : ℕ) → rank other < 14 → RuleRefuses (Given nplurals tree) es at other m → ⊥
    none FormCount m lt r = omega (arith, lt)
    none _ m lt r = first_of (omega (arith, lt), assumption r)

pub plural_range : (nplurals : ℕ) (tree : Tree) (es : List po.Entry) (at n : ℕ) → NoneOf (HasOtherCount nplurals) es
    → IsFirstWithoutForm nplurals tree n → IsFirst (RuleRefuses (Given nplurals tree) es at) (PluralRange n) at
plural_range nplurals tree es at n no_other f = record { holds = (f, refl); first = λ other m lt. none other m lt }
  where
    none : (other : LoadKind) (m : ℕ) → rank other < 15 → RuleRefuses (Given nplurals tree) es at other m → ⊥
    none FormCount m lt r = first_not_none (HasOtherCount nplurals) es m r no_other
    none (PluralRange k) m lt r = omega (arith, lt)
    none _ m lt r = r

pub rule_passes : (nplurals : ℕ) (tree : Tree) (es : List po.Entry) (at : ℕ) → NoneOf (HasOtherCount nplurals) es
    → ((n : ℕ) → n ≤ 1000 → has_form nplurals tree n ≡ true) → (kind : LoadKind) (line : ℕ)
    → ¬ RuleRefuses (Given nplurals tree) es at kind line
rule_passes nplurals tree es at no_other each FormCount line r = first_not_none (HasOtherCount nplurals) es line r
    no_other
rule_passes nplurals tree es at no_other each (PluralRange n) line r = false≢true (sym r.0.none ∙ each n r.0.within)
rule_passes nplurals tree es at no_other each _ line r = r

-- ---- at the checked level

-- the faults from the twelfth on
abbrev Late : Options → List po.Entry → LoadKind → ℕ → Type 0
Late o es kind line = (HeaderRefuses o es kind line × (rank kind < 16))
    ⊎ ((FirstAt HasOtherArguments (kept_entries o es) line × (rank kind ≡ 16))
    ⊎ (FirstAt HasOtherNewlines (kept_entries o es) line × (rank kind ≡ 17)))

late : (o : Options) (es : List po.Entry) (kind : LoadKind) (line : ℕ) → 12 ≤ rank kind → Fails o es kind line
    → Late o es kind line
late o es NoRule line le f = inl (f.1, omega arith)
late o es BadRule line le f = inl (f.1, omega arith)
late o es FormCount line le f = inl (f.1, omega arith)
late o es (PluralRange n) line le f = inl (f.1, omega arith)
late o es FormatMismatch line le f = inr (inl (f.1, refl))
late o es NewlineMismatch line le f = inr (inr (f.1, refl))
late o es _ line le f = absurd (first_of (omega (arith, le), assumption f))

-- what is known about the rule in the header at the checked level
pub record IsChecked (o : Options) (es : List po.Entry) (rule : Rule) (at : ℕ) : Type 0 where
  pub checked : IsTrue o.checked
  pub rule_is : HasHeaderRule o es rule
  pub at_is : at ≡ header_line_of o es

rule_fails : (o : Options) (es : List po.Entry) (rule : Rule) (kind : LoadKind) (line : ℕ) → IsTrue o.checked
    → HasHeaderRule o es rule → RuleRefuses rule (kept_entries o es) (header_line_of o es) kind line
    → FailsFrom 12 o es kind line × (rank kind < 16)
rule_fails o es rule NoRule line checked has r = ((omega arith, (checked, (rule, has, r))), omega arith)
rule_fails o es rule BadRule line checked has r = ((omega arith, (checked, (rule, has, r))), omega arith)
rule_fails o es rule FormCount line checked has r = ((omega arith, (checked, (rule, has, r))), omega arith)
rule_fails o es rule (PluralRange n) line checked has r = ((omega arith, (checked, (rule, has, r))), omega arith)
rule_fails o es Absent _ line checked has r = absurd r
rule_fails o es _ _ line checked has r = absurd r

refuses_at : (o : Options) (es : List po.Entry) (rule : Rule) (at : ℕ) (kind : LoadKind) (line : ℕ) → at
    ≡ header_line_of o es → RuleRefuses rule (kept_entries o es) at kind line
    → RuleRefuses rule (kept_entries o es) (header_line_of o es) kind line
refuses_at o es rule at kind line is r = subst (λ m. RuleRefuses rule (kept_entries o es) m kind line) is r

at_refuses : (o : Options) (es : List po.Entry) (rule : Rule) (at : ℕ) (kind : LoadKind) (line : ℕ)
    → IsChecked o es rule at → HeaderRefuses o es kind line → RuleRefuses rule (kept_entries o es) at kind line
at_refuses o es rule at kind line c r = subst (λ m. RuleRefuses rule (kept_entries o es) m kind line) (sym c.at_is)
    (by_rule o es rule kind line c.rule_is r)

pub by_the_rule : (o : Options) (es : List po.Entry) (rule : Rule) (at : ℕ) (kind : LoadKind) (line : ℕ)
    → IsChecked o es rule at → IsFirst (RuleRefuses rule (kept_entries o es) at) kind line
    → IsFirst (FailsFrom 12 o es) kind line
by_the_rule o es rule at kind line c f =
    let here = rule_fails o es rule kind line c.checked c.rule_is (refuses_at o es rule at kind line c.at_is f.holds) in
    record {
      holds = here.0;
      first = λ other m lt g. elim (late o es other m g.0 g.1) [
        | inl (r, below) ↦ f.first other m lt (at_refuses o es rule at other m c r)
        | inr (inl (r, is)) ↦ absurd (omega (arith, lt, here.1, is))
        | inr (inr (r, is)) ↦ absurd (omega (arith, lt, here.1, is))
      ];
    }

-- the rule refuses nothing
abbrev pub RulePasses : Options → List po.Entry → Rule → ℕ → Type 0
RulePasses o es rule at = (kind : LoadKind) (line : ℕ) → ¬ RuleRefuses rule (kept_entries o es) at kind line

pub by_arguments : (o : Options) (es : List po.Entry) (rule : Rule) (at line : ℕ) → IsChecked o es rule at
    → RulePasses o es rule at → FirstAt HasOtherArguments (kept_entries o es) line
    → IsFirst (FailsFrom 12 o es) FormatMismatch line
by_arguments o es rule at line c passes f = record {
  holds = (omega arith, (c.checked, f));
  first = λ other m lt g. elim (late o es other m g.0 g.1) [
    | inl (r, below) ↦ passes other m (at_refuses o es rule at other m c r)
    | inr (inl (r, is)) ↦ absurd (omega (arith, lt, is))
    | inr (inr (r, is)) ↦ absurd (omega (arith, lt, is))
  ];
}

pub by_newlines : (o : Options) (es : List po.Entry) (rule : Rule) (at line : ℕ) → IsChecked o es rule at
    → RulePasses o es rule at → NoneOf HasOtherArguments (kept_entries o es)
    → FirstAt HasOtherNewlines (kept_entries o es) line
    → IsFirst (FailsFrom 12 o es) NewlineMismatch line
by_newlines o es rule at line c passes none f = record {
  holds = (omega arith, (c.checked, f));
  first = λ other m lt g. elim (late o es other m g.0 g.1) [
    | inl (r, below) ↦ passes other m (at_refuses o es rule at other m c r)
    | inr (inl (r, is)) ↦ first_not_none HasOtherArguments (kept_entries o es) m r none
    | inr (inr (r, is)) ↦ absurd (omega (arith, lt, is))
  ];
}

pub by_nothing : (o : Options) (es : List po.Entry) (rule : Rule) (at : ℕ) → IsChecked o es rule at
    → RulePasses o es rule at → NoneOf HasOtherArguments (kept_entries o es)
    → NoneOf HasOtherNewlines (kept_entries o es)
    → (kind : LoadKind) (line : ℕ) → ¬ FailsFrom 12 o es kind line
by_nothing o es rule at c passes none none' kind line g = elim (late o es kind line g.0 g.1) [
  | inl (r, below) ↦ passes kind line (at_refuses o es rule at kind line c r)
  | inr (inl (r, is)) ↦ first_not_none HasOtherArguments (kept_entries o es) line r none
  | inr (inr (r, is)) ↦ first_not_none HasOtherNewlines (kept_entries o es) line r none'
]

-- the last of the checks
pub by_last : (o : Options) (es : List po.Entry) (rule : Rule) (at : ℕ) (newlines : Option ℕ) → IsChecked o es rule at
    → RulePasses o es rule at → NoneOf HasOtherArguments (kept_entries o es)
    → FirstLine HasOtherNewlines (kept_entries o es) newlines
    → FirstFault (FailsFrom 12 o es) (option_map (λ line. record { kind = NewlineMismatch; line = line }) newlines)
by_last o es rule at None c passes none none' = by_nothing o es rule at c passes none none'
by_last o es rule at (Some line) c passes none f = by_newlines o es rule at line c passes none f

-- without a rule
pub by_absence : (es : List po.Entry) (at : ℕ) (line : Option ℕ) → FirstLine IsPlural es line
    → FirstFault (RuleRefuses Absent es at) (option_map (λ line. record { kind = NoRule; line = line }) line)
by_absence es at None none = any_rule es at none
by_absence es at (Some line) f = no_rule es at line f

-- ---- at both levels

pub by_dependence : (o : Options) (es : List po.Entry) (line : ℕ)
    → FirstAt HasSystemDependentText (kept_entries o es) line
    → IsFirst (FailsFrom 11 o es) SystemDependent line
by_dependence o es line f = record { holds = (omega arith, f); first = λ other m lt g. absurd (omega (arith, lt, g.0)) }

eleventh : (o : Options) (es : List po.Entry) (kind : LoadKind) (line : ℕ) → 11 ≤ rank kind → rank kind < 12
    → Fails o es kind line → FirstAt HasSystemDependentText (kept_entries o es) line
eleventh o es SystemDependent line le lt f = f
eleventh o es _ line le lt f = absurd (first_of (omega (arith, le, lt), assumption f))

not_eleventh : (o : Options) (es : List po.Entry) (kind : LoadKind) (line : ℕ)
    → NoneOf HasSystemDependentText (kept_entries o es) → FailsFrom 11 o es kind line → FailsFrom 12 o es kind line
not_eleventh o es kind line none g = elim (cases_lt (rank kind) 12) [
  | inl lt ↦ absurd (first_not_none HasSystemDependentText (kept_entries o es) line
      (eleventh o es kind line g.0 lt g.1) none)
  | inr ge ↦ (ge, g.1)
]

pub from_eleventh : (o : Options) (es : List po.Entry) (fault : Option LoadFault)
    → NoneOf HasSystemDependentText (kept_entries o es) → FirstFault (FailsFrom 12 o es) fault
    → FirstFault (FailsFrom 11 o es) fault
from_eleventh o es None none f = λ kind line g. f kind line (not_eleventh o es kind line none g)
from_eleventh o es (Some fault) none f = record {
  holds = (omega (arith, f.holds.0), f.holds.1);
  first = λ other m lt g. f.first other m lt (not_eleventh o es other m none g);
}

unchecked_late : (o : Options) (es : List po.Entry) (kind : LoadKind) (line : ℕ) → 12 ≤ rank kind → Fails o es kind line
    → IsTrue o.checked
unchecked_late o es Duplicate line le f = absurd (omega (arith, le))
unchecked_late o es _ line le f = first_of (assumption f, grind (arith, le, f))

pub unchecked : (o : Options) (es : List po.Entry) → o.checked ≡ false
    → NoneOf HasSystemDependentText (kept_entries o es)
    → (kind : LoadKind) (line : ℕ) → ¬ FailsFrom 11 o es kind line
unchecked o es off none kind line g = let h = not_eleventh o es kind line none g in false≢true
    (sym off ∙ unchecked_late o es kind line h.0 h.1)
