-- A lawful entry is determined by its key, its plural and its translation.
use Rattle.std.proofs.Common.{rules, append_assoc, ◌≡◌, ℕ, zero, suc, ◌+◌, ◌<◌, Bool, true, false, eqb, ltb, List, []}
use Rattle.std.proofs.Common.{◌∷◌, ◌++◌, length, take, drop, get_or, Option, Some, None, refl, sym, ap, ◌∙◌, arith}
use Rattle.std.proofs.Common.{length-append}
use Rattle.std.specs.Prelude.{option_map, IfSome}
use Rattle.std.specs.List.{AllByRecursion, position_or_len, before_first, after_first, slice_split, join_with_byte}
use Rattle.std.proofs.lemmas.Bool.{lt-ltb, le-ltb}
use Rattle.std.proofs.lemmas.List.{take_at, drop_at, get_or_at, get_or_append_left}
use Rattle.std.proofs.lemmas.List.Sums.{position_or_len_is}
use Rattle.std.proofs.lemmas.List.Splits.{slice_split_at, slice_split_none}
use Rattle.mo_image.proofs.Lists.{differs}
use Rattle.mo_image.specs.Entry.{Entry, key, key_bytes, translation, LacksByte, IsText}
use Rattle.mo_image.specs.Entry.{IsKeyText, HasForms, IsLawfulEntry}
use Rattle.mo_image.specs.Parts.{cut, behind, entry_from}

abbrev is : ℕ → ℕ → Bool
is byte b = eqb b byte

pub lacks_at : (byte : ℕ) (xs : List ℕ) (k : ℕ) (d : ℕ) → LacksByte byte xs → k < length xs → eqb (get_or xs k d) byte
    ≡ false
lacks_at byte [] k d lacks lt = absurd (omega arith)
lacks_at byte (x ∷ xs) zero d lacks lt = differs x byte lacks.0
lacks_at byte (x ∷ xs) (suc k) d lacks lt = lacks_at byte xs k d lacks.1 (omega arith)

offset_in : (byte : ℕ) (a b : List ℕ) → LacksByte byte a
    → position_or_len (λ x. eqb x byte) (a ++ (byte ∷ b)) ≡ length a
offset_in byte a b lacks =
    position_or_len_is (λ x. eqb x byte) (a ++ (byte ∷ b)) (length a) 0 (omega (arith, length-append a (byte ∷ b)))
    (λ k lt. rw (get_or_append_left a (byte ∷ b) 0 k lt) (lacks_at byte a k 0 lacks lt))
    (λ _. rw (get_or_at a byte b 0 (length a) refl) (search rules))

offset_none : (byte : ℕ) (a : List ℕ) → LacksByte byte a → position_or_len (λ x. eqb x byte) a ≡ length a
offset_none byte a lacks = position_or_len_is (λ x. eqb x byte) a (length a) 0 (omega arith)
    (λ k lt. lacks_at byte a k 0 lacks lt) (λ lt. absurd (omega arith))

pub cut-none : (byte : ℕ) (a : List ℕ) → LacksByte byte a → cut byte a ≡ None
cut-none byte a lacks =
    let outside : ltb (position_or_len (λ x. eqb x byte) a) (length a)
    ≡ false = le-ltb _ _ (omega (arith, offset_none byte a lacks)) in
    rw outside refl

past : (byte : ℕ) (a b : List ℕ) → drop (length a + 1) (a ++ (byte ∷ b)) ≡ b
past byte a b = ap (drop (length a + 1)) (sym (append_assoc a (byte ∷ []) b))
    ∙ drop_at (a ++ (byte ∷ [])) b (length a + 1) (length-append a (byte ∷ []))

pub cut-some : (byte : ℕ) (a b : List ℕ) → LacksByte byte a → cut byte (a ++ (byte ∷ b)) ≡ Some (a, b)
cut-some byte a b lacks =
    let at = offset_in byte a b lacks in
    let inside : ltb (position_or_len (λ x. eqb x byte) (a ++ (byte ∷ b))) (length (a ++ (byte ∷ b)))
    ≡ true = lt-ltb _ _ (omega (arith, at, length-append a (byte ∷ b))) in
    let before : before_first (λ x. eqb x byte) (a ++ (byte ∷ b)) ≡ a = ap (λ n. take n (a ++ (byte ∷ b))) at
    ∙ take_at a (byte ∷ b) (length a) refl in
    let after : after_first (λ x. eqb x byte) (a ++ (byte ∷ b)) ≡ b = ap (λ n. drop (n + 1) (a ++ (byte ∷ b))) at
    ∙ past byte a b in
    rw (inside, before, after) refl

-- the forms, joined and split again
pub split_joined : (forms : List (List ℕ)) → 0 < length forms → AllByRecursion (LacksByte 0) forms
    → slice_split (λ b. eqb b 0) (join_with_byte 0 forms) ≡ forms
split_joined [] some lack = absurd (omega arith)
split_joined (f ∷ []) some lack = slice_split_none (λ b. eqb b 0) f (λ k d lt. lacks_at 0 f k d lack.0 lt)
split_joined (f ∷ g ∷ fs) some lack =
    slice_split_at (λ b. eqb b 0) f 0 (join_with_byte 0 (g ∷ fs)) (λ k d lt. lacks_at 0 f k d lack.0 lt) refl
    ∙ ap (λ (t : List (List ℕ)). f ∷ t) (split_joined (g ∷ fs) (omega arith) lack.1)

pub lack_nul : (forms : List (List ℕ)) → AllByRecursion IsText forms → AllByRecursion (LacksByte 0) forms
lack_nul [] texts = tt
lack_nul (f ∷ fs) texts = (texts.0.no_nul, lack_nul fs texts.1)

pub LacksByte-append : (byte : ℕ) (a b : List ℕ) → LacksByte byte a → LacksByte byte b → LacksByte byte (a ++ b)
LacksByte-append byte [] b la lb = lb
LacksByte-append byte (x ∷ a) b la lb = (la.0, LacksByte-append byte a b la.1 lb)

pub key_lacks_nul : (context : Option (List ℕ)) (id : List ℕ) → IfSome context IsKeyText → IsKeyText id
    → LacksByte 0 (key_bytes context id)
key_lacks_nul None id c i = i.no_nul
key_lacks_nul (Some context) id c i = LacksByte-append 0 context (4 ∷ id) c.no_nul (
  (λ e. absurd (omega arith)),
  i.no_nul,
)

pub some_form : (plural : Option (List ℕ)) (forms : List (List ℕ)) → HasForms plural forms → 0 < length forms
some_form None forms h = omega (arith, h)
some_form (Some plural) forms h = h

cut_key : (context : Option (List ℕ)) (id : List ℕ) → IfSome context IsKeyText → IsKeyText id
    → cut 4 (key_bytes context id) ≡ option_map (λ c. (c, id)) context
cut_key None id c i = cut-none 4 id i.no_separator
cut_key (Some context) id c i = cut-some 4 context id c.no_separator

behind_key : (context : Option (List ℕ)) (id : List ℕ) → behind (key_bytes context id)
    (option_map (λ c. (c, id)) context) ≡ id
behind_key None id = refl
behind_key (Some context) id = refl

firsts : {Y : Type 0} (o : Option (List ℕ)) (y : Y) → option_map (λ (p : List ℕ × Y). p.0) (option_map (λ c. (c, y)) o)
    ≡ o
firsts None y = refl
firsts (Some x) y = refl

pub entry_again : (e : Entry) → IsLawfulEntry e → entry_from (key e) e.plural (translation e) ≡ e
entry_again e lawful =
    let i : cut 4 (key e) ≡ option_map (λ c. (c, e.id)) e.context = cut_key e.context e.id lawful.context lawful.id in
    let f : slice_split (λ b. eqb b 0) (translation e) ≡ e.forms = split_joined e.forms
    (some_form e.plural e.forms lawful.counted) (lack_nul e.forms lawful.forms) in
    rw (i, f, firsts e.context e.id, behind_key e.context e.id) refl
