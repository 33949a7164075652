-- The entries of a PO text are lawful as entries of a catalogue.
use Rattle.catalogue_drafts.proofs.Kit.{◌≡◌, ℕ, List, [], ◌∷◌, ◌++◌, length, Option, Some, None, refl, ap, arith}
use Rattle.catalogue_drafts.proofs.Kit.{Contains}
use Rattle.catalogue_drafts.proofs.Kit.{IfSome, AllByRecursion, true, sym, subst, ◌∙◌, IsText, IsLawfulEntry}
use Rattle.catalogue_drafts.proofs.Kit.{message_of, is_kept, translation, Kept, texts_of, Options}
use Rattle.std.proofs.Common.{◌≢◌}
use Rattle.po_text.specs.Spelling as spelling
use Rattle.po_text.specs.Entries as po
use Rattle.po_text.specs.Lawful.{IsLawfulTexts, IsLawfulIf, HasNoFourIf, HasItsForms}
use Rattle.mo_image.specs.Entry.{LacksByte, IsKeyText, HasForms}
use Rattle.mo_image.proofs.EntryParts.{cut-some}
use Rattle.catalogue_drafts.specs.Drafts.{texts_if_kept}
use Rattle.catalogue_drafts.specs.Shares.{joined_texts, parts_of}
use Rattle.catalogue_drafts.proofs.Members.{has_head, has_tail}

lacks_from : (byte : ℕ) (text : List ℕ) → ¬ Contains text byte → LacksByte byte text
lacks_from byte [] none = tt
lacks_from byte (b ∷ text) none = (
  (λ e. none (has_head byte b text e)),
  lacks_from byte text
      (λ h. none (has_tail byte b text h)),
)

is_text : (text : List ℕ) → spelling.IsLawful text → IsText text
is_text text lawful = record { utf8 = lawful.utf8; no_nul = lacks_from 0 text lawful.no_nul }

is_key_text : (text : List ℕ) → spelling.IsLawful text → ¬ Contains text 4 → IsKeyText text
is_key_text text lawful none = record {
  utf8 = lawful.utf8;
  no_nul = lacks_from 0 text lawful.no_nul;
  no_separator =
      lacks_from 4 text none;
}

context_text : (context : Option (List ℕ)) → IsLawfulIf context → HasNoFourIf context → IfSome context IsKeyText
context_text None lawful none = tt
context_text (Some text) lawful none = is_key_text text lawful none

plural_text : (plural : Option (List ℕ)) → IsLawfulIf plural → IfSome plural IsText
plural_text None lawful = tt
plural_text (Some text) lawful = is_text text lawful

form_texts : (forms : List (List ℕ)) → AllByRecursion spelling.IsLawful forms → AllByRecursion IsText forms
form_texts [] lawful = tt
form_texts (form ∷ forms) lawful = (is_text form lawful.0, form_texts forms lawful.1)

forms_counted : (plural : Option (List ℕ)) (forms : List (List ℕ)) → forms ≢ [] → (plural ≡ None → length forms ≡ 1)
    → HasForms plural forms
forms_counted None forms some one = one refl
forms_counted (Some plural) [] some one = absurd (some refl)
forms_counted (Some plural) (form ∷ forms) some one = omega arith

pub message_lawful : (e : po.Entry) → IsLawfulTexts e → HasItsForms e → IsLawfulEntry (message_of e)
message_lawful e texts forms = record {
  context = context_text e.context texts.context texts.context_free;
  id = is_key_text e.id texts.id texts.id_free;
  plural = plural_text e.plural texts.plural;
  forms = form_texts e.forms texts.forms;
  counted = forms_counted e.plural e.forms forms.some forms.one;
}

-- ---- the texts that are kept of an entry

-- a plural and the forms behind it are cut where they were joined
pub joined_again : (plural forms : List ℕ) → spelling.IsLawful plural → joined_texts (plural ++ 0 ∷ forms)
    ≡ (Some plural, forms)
joined_again plural forms lawful = ap (parts_of (plural ++ 0 ∷ forms))
    (cut-some 0 plural forms (lacks_from 0 plural lawful.no_nul))

pub kept_plural : (o : Options) (e : po.Entry) (plural joined : List ℕ) → is_kept o e ≡ true → Some plural ≡ e.plural
    → IsLawfulIf e.plural → joined ≡ plural ++ 0 ∷ translation (message_of e)
    → Some (joined_texts joined) ≡ texts_if_kept o e
kept_plural o e plural joined kept is lawful joined_is =
    let forms : List ℕ = translation (message_of e) in
    let one : spelling.IsLawful plural = subst IsLawfulIf (sym is) lawful in
    let texts : joined_texts joined ≡ texts_of e = ap joined_texts joined_is ∙ joined_again plural forms one
    ∙ ap (λ (p : Option (List ℕ)). (p, forms)) is in
    rw kept (ap (λ (t : Kept). Some t) texts)
