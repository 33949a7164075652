-- Entries whose texts all take the same arguments.
use Rattle.std.proofs.Common.{◌≡◌, ℕ, List, [], ◌∷◌, ◌++◌, length, Option, Some, None}
use Rattle.std.proofs.Common.{refl, sym, ◌∙◌, subst, append-nil, inl, inr}
use Rattle.std.specs.List.{Any}
use Rattle.po_text.specs.Entries as po
use Rattle.c_signature.specs.Agreement.{Agrees}
use Rattle.c_signature.specs.Signature.{Lists, IsSystemDependent}
use Rattle.c_signature.specs.declared.ArgKind.{ArgKind}
use Rattle.c_signature.specs.declared.Strictness.{Strictness}
use Rattle.c_signature.specs.declared.Strictness.TheVariants.{Same, Prefix}
use Rattle.c_signature.proofs.OneOutcome.{lists_one, lists_valid, lists_independent}
use Rattle.po_checks.specs.Checks.{text_if, texts, original_or, strictness, Differs, FormsDiffer}
use Rattle.po_checks.specs.Findings.{Strays}
use Rattle.po_checks.proofs.FirstLines.{any_head, any_cases, any_append_cases, any_weaker}

-- ---- no text is system-dependent

dependent_strays : (id text : List ℕ) → IsSystemDependent text → Strays id text
dependent_strays id text d (kinds, original, form) = lists_independent text kinds form d

id_independent : (id : List ℕ) (forms : List (List ℕ)) → (length forms ≡ 0 → ⊥) → ¬ Any (Strays id) forms
    → ¬ IsSystemDependent id
id_independent id [] some none d = some refl
id_independent id (form ∷ more) some none d = none (any_head (Strays id) form more
    (λ (kinds, original, takes). lists_independent id kinds original d))

pub none_dependent : (e : po.Entry) → (length e.forms ≡ 0 → ⊥) → ¬ Any (Strays e.id) (text_if e.plural)
    → ¬ Any (Strays e.id) e.forms → ¬ Any IsSystemDependent (texts e)
none_dependent e some no_plural no_form any =
    elim (any_cases IsSystemDependent e.id (text_if e.plural ++ e.forms) any) [
      | inl here ↦ id_independent e.id e.forms some no_form here
      | inr later ↦ elim (any_append_cases IsSystemDependent (text_if e.plural) e.forms later) [
        | inl plural ↦ no_plural
            (any_weaker IsSystemDependent (Strays e.id) (dependent_strays e.id) (text_if e.plural) plural)
        | inr form ↦ no_form (any_weaker IsSystemDependent (Strays e.id) (dependent_strays e.id) e.forms form)
      ]
    ]

-- ---- no form differs

agree_alone : (kinds : List ArgKind) (rule : Strictness) → Agrees kinds kinds rule
agree_alone kinds Same = refl
agree_alone kinds Prefix = ([], sym (append-nil kinds))

form_agrees : (form : List ℕ) (kinds js : List ArgKind) (rule : Strictness) → js ≡ kinds → Lists form js
    → ¬ Differs kinds rule form
form_agrees form kinds js rule same lists (inl invalid) = lists_valid form js lists invalid
form_agrees form kinds js rule same lists (inr (others, also, lacks)) = lacks
    (subst (λ (ks : List ArgKind). Agrees kinds ks rule) (sym same ∙ lists_one form js others lists also)
    (agree_alone kinds rule))

-- the msgid takes the arguments of the original
original_takes : (id : List ℕ) (plural : Option (List ℕ)) (kinds js : List ArgKind)
    → ¬ Any (Strays id) (text_if plural) → Lists (original_or id plural) kinds → Lists id js → ¬ ¬ (js ≡ kinds)
original_takes id None kinds js none original takes differ = differ (lists_one id js kinds takes original)
original_takes id (Some plural) kinds js none original takes differ = none (any_head (Strays id) plural []
    (λ (both, first, second). differ (lists_one id js both takes first ∙ lists_one plural both kinds second original)))

pub none_differs : (e : po.Entry) → ¬ Any (Strays e.id) (text_if e.plural) → ¬ Any (Strays e.id) e.forms
    → ¬ FormsDiffer e
none_differs e no_plural no_form d = no_form
    (any_weaker (Differs d.kinds (strictness e.plural)) (Strays e.id) strays e.forms d.some)
  where
    strays : (form : List ℕ) → Differs d.kinds (strictness e.plural) form → Strays e.id form
    strays form differs (js, original, takes) = original_takes e.id e.plural d.kinds js no_plural d.original original
        (λ same. form_agrees form d.kinds js (strictness e.plural) same takes differs)
