-- A text in UTF-8 has one list of faults.
use Rattle.std.proofs.Common.{◌≡◌, ℕ, Bool, List, [], ◌∷◌, ◌++◌, refl, sym, ap, ◌∙◌, subst, Option, None, Some}
use Rattle.std.specs.Prelude.{◌↔◌}
use Rattle.std.specs.List.{AllByRecursion}
use Rattle.po_text.specs.Entries as po
use Rattle.po_text.proofs.Outcomes.{gives_one}
use Rattle.po_header.specs.Rule.{Rule, HasRuleIn}
use Rattle.po_header.proofs.RuleLemmas.{HasRule-one}
use Rattle.po_checks.specs.Kept.{header_text_of, kept_entries}
use Rattle.format_checks.proofs.OneList.{none_wrong, one_list}
use Rattle.po_formats.specs.Often.{often_served}
use Rattle.po_formats.specs.EntryFaults.{AreAllFaults, HasGoodFormats, checked_entry, all_questions, AreFaults, Fault}
use Rattle.po_formats.specs.PlainFaults.{HasFaults, Options}

all_one : (served : List Bool) (es : List po.Entry) (found others : List Fault) → AreAllFaults served es found
    → AreAllFaults served es others → found ≡ others
all_one served [] found others e f = e ∙ sym f
all_one served (e ∷ es) found others (a, r, its, more, cut) (b, s, also, rest, split) =
    let same : a ≡ b = one_list e.form_line (all_questions (checked_entry e) served) a b its also in
    let tails : r ≡ s = all_one served es r s more rest in
    cut ∙ ap (λ (x : List Fault). x ++ r) same ∙ ap (λ (x : List Fault). b ++ x) tails ∙ sym split

rule_one : (header : Option (List ℕ)) (rule other : Rule) → HasRuleIn header rule → HasRuleIn header other
    → rule ≡ other
rule_one None rule other x y = x ∙ sym y
rule_one (Some text) rule other x y = HasRule-one text rule other x y

pub faults_one : (text : List ℕ) (o : Options) (found others : List Fault) → HasFaults text o found
    → HasFaults text o others → found ≡ others
faults_one text o found others x y =
    let entries : x.entries ≡ y.entries = gives_one text x.entries y.entries x.gives y.gives in
    let has = subst (λ (es : List po.Entry). HasRuleIn (header_text_of o es) x.rule) entries x.rule_is in
    let rule : x.rule ≡ y.rule = rule_one (header_text_of o y.entries) x.rule y.rule has y.rule_is in
    let here = subst (λ (es : List po.Entry). AreAllFaults (often_served x.rule) (kept_entries o es) found) entries
    x.faults_are in
    all_one (often_served y.rule) (kept_entries o y.entries) found others
    (subst (λ (r : Rule). AreAllFaults (often_served r) (kept_entries o y.entries) found) rule here) y.faults_are

none_append : (xs ys : List Fault) → [] ≡ xs ++ ys → (xs ≡ []) × (ys ≡ [])
none_append [] ys e = (refl, sym e)
none_append (x ∷ xs) ys e = absurd (cc e)

all_good : (served : List Bool) (es : List po.Entry) → AreAllFaults served es []
    → AllByRecursion (HasGoodFormats served) es
all_good served [] x = record {}
all_good served (e ∷ es) (first, rest, its, more, cut) =
    let none = none_append first rest cut in (
      (none_wrong e.form_line (all_questions (checked_entry e) served)).0
          (subst (λ (f : List Fault). AreFaults e.form_line (all_questions (checked_entry e) served) f) none.0 its),
      all_good served es (subst (λ (f : List Fault). AreAllFaults served es f) none.1 more),
    )

none_found : (served : List Bool) (es : List po.Entry) → AllByRecursion (HasGoodFormats served) es
    → AreAllFaults served es []
none_found served [] x = refl
none_found served (e ∷ es) (good, more) = (
  [],
  [],
  (none_wrong e.form_line (all_questions (checked_entry e) served)).1 good,
  none_found served es more,
  refl,
)

pub none_good : (served : List Bool) (es : List po.Entry) → AreAllFaults served es []
    ↔ AllByRecursion (HasGoodFormats served) es
none_good served es = (all_good served es, none_found served es)
