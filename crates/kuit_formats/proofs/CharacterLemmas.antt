-- Characters of a text, one by one.
use Rattle.std.proofs.Common.{◌≡◌, ℕ, ◌<◌, ◌+◌, Bool, false, List, [], ◌∷◌, length, drop, get_or, Some, refl}
use Rattle.std.proofs.Common.{sym, ap, ◌∙◌, inl, inr}
use Rattle.std.specs.Prelude.{◌&&◌, slice_get}
use Rattle.std.specs.List.{list_all}
use Rattle.std.specs.Str.{chars, is_utf8, IsUtf8}
use Rattle.std.proofs.lemmas.Bool.{cases_Bool}
use Rattle.std.proofs.lemmas.List.{at_drop_more}
use Rattle.std.proofs.lemmas.Str.{is_utf8-from_IsUtf8, IsUtf8-from_is_utf8}
use Rattle.kuit_formats.specs.declared.characters.Place.TheVariants.{Text, Name}
use Rattle.kuit_formats.specs.KuitCharacters.{is_name_start, may_be_at, begins_name, is_name, are_characters}

pub first_is : (cs : List ℕ) (c : ℕ) → slice_get cs 0 ≡ Some c → begins_name cs ≡ is_name_start c
first_is [] c e = absurd (cc e)
first_is (x ∷ cs) c e = let same : x ≡ c = cc e in ap is_name_start same

pub all_drop : (p : ℕ → Bool) (cs : List ℕ) (n c : ℕ) → (n < length cs) × (c ≡ get_or cs n c)
    → list_all p (drop n cs) ≡ (p c && list_all p (drop (n + 1) cs))
all_drop p cs n c h = at_drop_more (list_all p) cs n c h.0
    ∙ ap (λ (x : ℕ). p x && list_all p (drop (n + 1) cs)) (sym h.1)

pub name_is : (bytes text : List ℕ) (is : Bool) → text ≡ bytes → IsUtf8 bytes
    → is ≡ (begins_name (chars text) && list_all (may_be_at Name) (chars text)) → is ≡ is_name bytes
name_is bytes text is e u f = rw (is_utf8-from_IsUtf8 bytes u)
    (f ∙ ap (λ (t : List ℕ). begins_name (chars t) && list_all (may_be_at Name) (chars t)) e)

pub characters_are : (bytes text : List ℕ) (are : Bool) → text ≡ bytes → IsUtf8 bytes
    → are ≡ list_all (may_be_at Text) (chars text) → are ≡ are_characters bytes
characters_are bytes text are e u f = rw (is_utf8-from_IsUtf8 bytes u)
    (f ∙ ap (λ (t : List ℕ). list_all (may_be_at Text) (chars t)) e)

not_utf8 : (bytes : List ℕ) → (IsUtf8 bytes → ⊥) → is_utf8 bytes ≡ false
not_utf8 bytes none = elim (cases_Bool (is_utf8 bytes)) [
  | inl e ↦ absurd (none (IsUtf8-from_is_utf8 bytes e))
  | inr e ↦ e
]

pub no_name : (bytes : List ℕ) → (IsUtf8 bytes → ⊥) → false ≡ is_name bytes
no_name bytes none = rw (not_utf8 bytes none) refl

pub no_characters : (bytes : List ℕ) → (IsUtf8 bytes → ⊥) → false ≡ are_characters bytes
no_characters bytes none = rw (not_utf8 bytes none) refl
