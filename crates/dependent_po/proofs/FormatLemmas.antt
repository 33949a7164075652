-- The forms of an entry, compared with their original one after another.
use Rattle.std.proofs.Common.{◌≡◌, ℕ, ◌+◌, Bool, true, false, List, take, Some, sym, ◌∙◌, subst, inl, inr}
use Rattle.std.specs.Prelude.{◌⊎◌, ◌↔◌, IsTrue, slice_get}
use Rattle.std.specs.List.{Any}
use Rattle.std.proofs.lemmas.Bool.{false≢true}
use Rattle.po_text.specs.Entries as po
use Rattle.po_checks.proofs.Checking.{any_take}
use Rattle.po_checks.proofs.FirstLines.{any_none}
use Rattle.c_macros.proofs.FormatLemmas.{lists_one}
use Rattle.dependent_po.specs.Comparing.{FormDiffers, IsReadAs, Strictness, Agrees, Lists, IsInvalid, Kind, Format}
use Rattle.dependent_po.specs.Formats.{Differs, FormsDiffer, HasOtherArguments, format_original, strictness}
use Rattle.dependent_po.specs.declared.formats.Format.TheVariants.{Arguments, Invalid}

differ_is : (original : List Kind) (form : List ℕ) (f : Format) (rule : Strictness) → IsReadAs form f
    → FormDiffers original f rule ↔ Differs original rule form
differ_is original form (Arguments js) rule r = (
  (λ lacks. inr (js.items, r, lacks)),
  (λ d agrees. elim d [
    | inl invalid ↦ invalid js.items r
    | inr (kinds, lists, lacks) ↦ lacks (subst (λ k. Agrees original k rule) (lists_one form js.items kinds r lists)
        agrees)
  ]),
)
differ_is original form Invalid rule r = ((λ t. inl r), (λ d. tt))

pub no_form : (P : List ℕ → Type 0) (forms : List (List ℕ)) → IsTrue false ↔ Any P (take 0 forms)
no_form P forms = ((λ t. absurd (false≢true t)), (λ a. absurd (any_none P a)))

pub one_more_form : (original : List Kind) (rule : Strictness) (forms : List (List ℕ)) (k : ℕ) (text : List ℕ)
    (form : Format) (old new : Bool) → (IsTrue old ↔ Any (Differs original rule) (take k forms)) → slice_get forms k
    ≡ Some text → IsReadAs text form → (IsTrue new ↔ (FormDiffers original form rule ⊎ IsTrue old))
    → IsTrue new ↔ Any (Differs original rule) (take (k + 1) forms)
one_more_form original rule forms k text form old new so_far at r is = any_take (Differs original rule) forms k text _ _
    _ at (differ_is original text form rule r) so_far is

-- some form differs from the original, which is a format
pub original_is : (e : po.Entry) (kinds : List Kind) (text : List ℕ) (rule : Strictness) → Lists text kinds → text
    ≡ format_original e → rule ≡ strictness e.plural → (b : Bool) → (IsTrue b ↔ Any (Differs kinds rule) e.forms)
    → IsTrue b ↔ FormsDiffer e
original_is e kinds text rule lists text_is rule_is b is =
    let here : Lists (format_original e) kinds = subst (λ (t : List ℕ). Lists t kinds) text_is lists in
    let some : IsTrue b ↔ Any (Differs kinds (strictness e.plural)) e.forms = subst
    (λ (r : Strictness). IsTrue b ↔ Any (Differs kinds r) e.forms) rule_is is in (
      (λ t. record { kinds = kinds; original = here; some = some.0 t }),
      (λ d. some.1 (subst (λ (k : List Kind). Any (Differs k (strictness e.plural)) e.forms)
          (lists_one (format_original e) d.kinds kinds d.original here) d.some)),
    )

-- an original that is no format isn't compared
pub invalid_is : (e : po.Entry) (text : List ℕ) → IsInvalid text → text ≡ format_original e → IsTrue false
    ↔ FormsDiffer e
invalid_is e text invalid text_is = (
  (λ t. absurd (false≢true t)),
  (λ d. absurd (invalid d.kinds (subst (λ (t : List ℕ). Lists t d.kinds) (sym text_is) d.original))),
)

pub unflagged_is : (e : po.Entry) → e.c_format ≡ false → IsTrue false ↔ HasOtherArguments e
unflagged_is e lacks = ((λ t. absurd (false≢true t)), (λ h. absurd (false≢true (sym lacks ∙ h.flagged))))

pub flagged_is : (e : po.Entry) (b : Bool) → e.c_format ≡ true → (IsTrue b ↔ FormsDiffer e)
    → IsTrue b ↔ HasOtherArguments e
flagged_is e b flagged is = ((λ t. record { flagged = flagged; differ = is.0 t }), (λ h. is.1 h.differ))
