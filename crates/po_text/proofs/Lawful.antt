-- Lawful texts, and the forms of derived entries.
use Rattle.po_text.proofs.Kit.{◌≡◌, ℕ, List, [], ◌∷◌, ◌++◌, None, length, refl, sym, subst, inl, inr, arith}
use Rattle.po_text.proofs.Kit.{AllByRecursion, Contains-append_cases, Chain, IsLawful, Part, PlainPart, PluralPart}
use Rattle.po_text.proofs.Kit.{plural_of, forms_of, IsLawfulPart, IsOneOrMore, Entry, EntryAt}
use Rattle.std.proofs.lemmas.Str.{IsUtf8-append, IsUtf8-nil}
use Rattle.po_text.specs.Entries.{Remaining}
use Rattle.po_text.specs.Lawful.{HasItsForms}

pub lawful_nil : IsLawful []
lawful_nil = record { no_nul = λ (k, lt, is). absurd (omega (arith, lt)); utf8 = IsUtf8-nil }

pub lawful_append : (a b : List ℕ) → IsLawful a → IsLawful b → IsLawful (a ++ b)
lawful_append a b p q = record {
  no_nul = λ m. elim (Contains-append_cases a b 0 m) [ inl here ↦ p.no_nul here | inr there ↦ q.no_nul there ];
  utf8 = IsUtf8-append a b p.utf8 q.utf8;
}

part_forms : (part : Part) → IsLawfulPart part → IsOneOrMore (forms_of part)
    × (plural_of part ≡ None → length (forms_of part) ≡ 1)
part_forms (PlainPart form) h = (λ e. absurd (cc e), λ _. refl)
part_forms (PluralPart plural []) h = absurd (h.1 refl)
part_forms (PluralPart plural (form ∷ forms)) h = (λ e. absurd (cc e), λ e. absurd (cc e))

-- a derived entry has at least one form, and exactly one without a plural
pub derived_forms : (entries : List Entry) (now later : Remaining) → Chain EntryAt entries now later
    → AllByRecursion HasItsForms entries
derived_forms [] now later c = tt
derived_forms (e ∷ entries) now later (middle, at, more) =
    let forms = part_forms at.derivation.part at.lawful.part in (
      subst HasItsForms (sym at.entry) (record { some = forms.0; one = forms.1 }),
      derived_forms entries middle later
          more,
    )
