-- Where a reader finds nothing, the text begins with no such part.
use Rattle.std.proofs.Common.{◌≡◌, ℕ, List, ◌∷◌, Option, None, Some, sym, subst, inl, inr}
use Rattle.std.specs.Prelude.{MatchOption}
use Rattle.format_arguments.specs.Bytes.{BeginsNot}
use Rattle.python_brace_format.specs.BraceFields.{FieldAt}
use Rattle.python_brace_format.specs.BraceSpecifiers.{open_brace, close_brace, colon, NestedAt, SpecifierAt, FormatAt}
use Rattle.python_brace_format.specs.BraceDirectives.{ReplacementAt, DirectiveAt}
use Rattle.python_brace_format.proofs.FieldLemmas.{field_one}
use Rattle.python_brace_format.proofs.DirectiveLemmas.{reach}

pub match_also : {X : Type 0} (r : Option X) (N M : Type 0) (P Q : X → Type 0) → MatchOption r N P → (N → M)
    → ((x : X) → P x → Q x) → MatchOption r M Q
match_also None N M P Q h f g = f h
match_also (Some x) N M P Q h f g = g x h

-- ---- formats

pub no_nested : (text : List ℕ) → BeginsNot open_brace text → ((rest : List ℕ) → FieldAt text rest → ⊥)
    → (rest : List ℕ) → NestedAt text rest → ⊥
no_nested text other none rest (inl e) = other rest e
no_nested text other none rest (inr x) = none (close_brace ∷ rest) x

pub not_closed : (text closing : List ℕ) → BeginsNot open_brace text → FieldAt text closing
    → BeginsNot close_brace closing → (rest : List ℕ) → NestedAt text rest → ⊥
not_closed text closing other field none rest (inl e) = other rest e
not_closed text closing other field none rest (inr x) = none rest (field_one text closing (close_brace ∷ rest) field x)

pub no_specifier : (text inner : List ℕ) → text ≡ open_brace ∷ inner → ((rest : List ℕ) → NestedAt inner rest → ⊥)
    → (rest : List ℕ) → SpecifierAt text rest → ⊥
no_specifier text inner e none rest (inl (also, f, x)) =
    let same : also ≡ inner = cc (e, f) in
    none rest (subst (λ (t : List ℕ). NestedAt t rest) same x)
no_specifier text inner e none rest (inr (other, f)) = other inner e

pub no_format : (text after : List ℕ) → text ≡ colon ∷ after → ((rest : List ℕ) → SpecifierAt after rest → ⊥)
    → (rest : List ℕ) → FormatAt text rest → ⊥
no_format text after e none rest (inl (also, f, x)) =
    let same : also ≡ after = cc (e, f) in
    none rest (subst (λ (t : List ℕ). SpecifierAt t rest) same x)
no_format text after e none rest (inr (other, f)) = other after e

-- ---- replacement fields

pub no_field_in : (text : List ℕ) → ((rest : List ℕ) → FieldAt text rest → ⊥) → (name rest : List ℕ)
    → ReplacementAt name (open_brace ∷ text) rest → ⊥
no_field_in text none name rest x =
    let begins : x.inner ≡ text = cc x.begins in
    none x.behind_field (subst (λ (t : List ℕ). FieldAt t x.behind_field) begins x.field_at)

pub no_format_in : (text behind_field : List ℕ) → FieldAt text behind_field
    → ((rest : List ℕ) → FormatAt behind_field rest → ⊥) → (name rest : List ℕ)
    → ReplacementAt name (open_brace ∷ text) rest → ⊥
no_format_in text behind_field field none name rest x =
    let begins : x.inner ≡ text = cc x.begins in
    let same : x.behind_field ≡ behind_field = field_one text x.behind_field behind_field
    (subst (λ (t : List ℕ). FieldAt t x.behind_field) begins x.field_at) field in
    none (close_brace ∷ rest) (subst (λ (t : List ℕ). FormatAt t (close_brace ∷ rest)) same x.format_at)

pub not_closed_in : (text behind_field closing : List ℕ) → FieldAt text behind_field → FormatAt behind_field closing
    → BeginsNot close_brace closing → (name rest : List ℕ) → ReplacementAt name (open_brace ∷ text) rest → ⊥
not_closed_in text behind_field closing field format none name rest x =
    none rest (sym (reach name text rest behind_field closing x field format))

pub no_directive : (text : List ℕ) → BeginsNot open_brace text
    → ((name rest : List ℕ) → ReplacementAt name (open_brace ∷ text) rest → ⊥) → (name : Option (List ℕ))
    (rest : List ℕ) → DirectiveAt name (open_brace ∷ text) rest → ⊥
no_directive text other none None rest e =
    let same : text ≡ open_brace ∷ rest = cc e in
    other rest same
no_directive text other none (Some name) rest x = none name rest x
