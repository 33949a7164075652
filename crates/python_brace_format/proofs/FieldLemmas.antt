-- A text begins with at most one field, and the field is a front of it.
use Rattle.std.proofs.Common.{◌≡◌, ℕ, zero, suc, Bool, List, [], ◌∷◌, ◌++◌, Option, None, Some, refl, sym, ap, subst}
use Rattle.std.proofs.Common.{◌∙◌, ◌==◌, ◌<◌, append_assoc, length, inl, inr, arith}
use Rattle.std.specs.List.{prefix_len}
use Rattle.std.specs.Char.{is_ascii_digit}
use Rattle.std.proofs.lemmas.Bool.{cases_Bool}
use Rattle.std.proofs.lemmas.List.{take-append-drop, length-append}
use Rattle.format_arguments.specs.Bytes.{behind, run}
use Rattle.python_brace_format.specs.BraceFields.{is_letter, is_word, dot, open_bracket, close_bracket}
use Rattle.python_brace_format.specs.BraceFields.{behind_name, behind_number, first_of, behind_key, behind_closing}
use Rattle.python_brace_format.specs.BraceFields.{behind_element, behind_access, Accesses, FieldAt}

-- ---- what follows a part is an end of the text

abbrev pub IsEnd : List ℕ → List ℕ → Type 0
IsEnd text rest = (front : List ℕ) × (text ≡ front ++ rest)

pub end_of_end : (text middle rest : List ℕ) → IsEnd text middle → IsEnd middle rest → IsEnd text rest
end_of_end text middle rest (f, e) (g, h) =
    (f ++ g, e ∙ ap (λ (t : List ℕ). f ++ t) h ∙ sym (append_assoc f g rest))

pub end_more : (b : ℕ) (text rest : List ℕ) → IsEnd text rest → IsEnd (b ∷ text) rest
end_more b text rest (f, e) = (b ∷ f, ap (λ (t : List ℕ). b ∷ t) e)

pub behind_end : (test : ℕ → Bool) (text : List ℕ) → IsEnd text (behind test text)
behind_end test text = (run test text, sym (take-append-drop (prefix_len test text) text))

name_end : (text rest : List ℕ) → behind_name text ≡ Some rest → IsEnd text rest
name_end [] rest e = absurd (cc e)
name_end (b ∷ more) rest e = elim (cases_Bool (is_letter b)) [
  | inl passing ↦
      let same : behind is_word more ≡ rest = cc (rw passing at e) in
      subst (λ (r : List ℕ). IsEnd (b ∷ more) r) same (end_more b more _ (behind_end is_word more))
  | inr failing ↦ absurd (cc (rw failing at e))
]

number_end : (text rest : List ℕ) → behind_number text ≡ Some rest → IsEnd text rest
number_end [] rest e = absurd (cc e)
number_end (b ∷ more) rest e = elim (cases_Bool (is_ascii_digit b)) [
  | inl passing ↦
      let same : behind is_ascii_digit more ≡ rest = cc (rw passing at e) in
      subst (λ (r : List ℕ). IsEnd (b ∷ more) r) same (end_more b more _ (behind_end is_ascii_digit more))
  | inr failing ↦ absurd (cc (rw failing at e))
]

first_end : (text rest : List ℕ) (one other : Option (List ℕ)) → one ≡ behind_name text → other ≡ behind_number text
    → first_of one other ≡ Some rest → IsEnd text rest
first_end text rest None other f g e = number_end text rest (sym g ∙ e)
first_end text rest (Some r) other f g e = name_end text rest (sym f ∙ e)

key_end : (text rest : List ℕ) → behind_key text ≡ Some rest → IsEnd text rest
key_end text rest e = first_end text rest (behind_name text) (behind_number text) refl refl e

closing_end : (text rest : List ℕ) (key : Option (List ℕ)) → key ≡ behind_key text → behind_closing key ≡ Some rest
    → IsEnd text rest
closing_end text rest None f e = absurd (cc e)
closing_end text rest (Some []) f e = absurd (cc e)
closing_end text rest (Some (b ∷ more)) f e = elim (cases_Bool (b == close_bracket)) [
  | inl passing ↦
      let same : more ≡ rest = cc (rw passing at e) in
      end_of_end text (b ∷ more) rest (key_end text (b ∷ more) (sym f)) (b ∷ [], ap (λ (t : List ℕ). b ∷ t) same)
  | inr failing ↦ absurd (cc (rw failing at e))
]

element_end : (text rest : List ℕ) → behind_element text ≡ Some rest → IsEnd text rest
element_end text rest e = closing_end text rest (behind_key text) refl e

pub access_end : (b : ℕ) (more rest : List ℕ) → behind_access (b ∷ more) ≡ Some rest → IsEnd more rest
access_end b more rest e = elim (cases_Bool (b == dot)) [
  | inl passing ↦ name_end more rest (rw passing at e)
  | inr failing ↦ elim (cases_Bool (b == open_bracket)) [
    | inl passing ↦ element_end more rest (rw (failing, passing) at e)
    | inr neither ↦ absurd (cc (rw (failing, neither) at e))
  ]
]

accesses_end : (n : ℕ) (text rest : List ℕ) → Accesses n text rest → IsEnd text rest
accesses_end zero text rest e = ([], e)
accesses_end (suc n) [] rest (after, e, more) = absurd (cc e)
accesses_end (suc n) (b ∷ text) rest (after, e, more) =
    end_more b text rest (end_of_end text after rest (access_end b text after e) (accesses_end n after rest more))

pub field_end : (text rest : List ℕ) → FieldAt text rest → IsEnd text rest
field_end text rest (first, e, (n, more, none)) =
    end_of_end text first rest (key_end text first e) (accesses_end n first rest more)

-- ---- a text begins with at most one field

one_end : (n m : ℕ) (text rest other : List ℕ) → Accesses n text rest → Accesses m text other
    → behind_access rest ≡ None → behind_access other ≡ None → rest ≡ other
one_end zero zero text rest other e f g h = sym e ∙ f
one_end zero (suc m) text rest other e (after, f, more) g h = absurd (cc (e, f, g))
one_end (suc n) zero text rest other (after, e, more) f g h = absurd (cc (e, f, h))
one_end (suc n) (suc m) text rest other (after, e, more) (behind, f, less) g h =
    let same : after ≡ behind = cc (e, f) in
    one_end n m behind rest other (subst (λ (t : List ℕ). Accesses n t rest) same more) less g h

pub field_one : (text rest other : List ℕ) → FieldAt text rest → FieldAt text other → rest ≡ other
field_one text rest other (first, e, (n, more, none)) (second, f, (m, less, also)) =
    let same : first ≡ second = cc (e, f) in
    one_end n m second rest other (subst (λ (t : List ℕ). Accesses n t rest) same more) less none also

-- one access more was read
pub accesses_more : (n : ℕ) (text rest after : List ℕ) → Accesses n text rest → behind_access rest ≡ Some after
    → Accesses (suc n) text after
accesses_more zero text rest after e f = (after, ap behind_access e ∙ f, refl)
accesses_more (suc n) text rest after (next, e, more) f = (next, e, accesses_more n next rest after more f)

pub access_shorter : (text rest : List ℕ) → Some rest ≡ behind_access text → length rest < length text
access_shorter [] rest e = absurd (cc e)
access_shorter (b ∷ text) rest e = go (access_end b text rest (sym e))
  where
    go : IsEnd text rest → length rest < length (b ∷ text)
    go (front, f) = omega (arith, ap length f, length-append front rest)
