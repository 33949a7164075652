-- A text has at most one reading of each part of a directive.
use Rattle.std.proofs.Common.{◌≡◌, ℕ, ◌+◌, ◌<◌, List, [], ◌∷◌, ◌++◌, length, take, drop, get_or}
use Rattle.std.proofs.Common.{Option, None, Some, refl, sym, ap, subst, ◌∙◌, inl, inr}
use Rattle.std.specs.List.{fold}
use Rattle.std.proofs.lemmas.List.Sums.{fold-append}
use Rattle.std.proofs.lemmas.List.{take-append-drop, drop_more}
use Rattle.python_format.specs.declared.parts.Amount.{Amount}
use Rattle.python_format.specs.declared.parts.Amount.TheVariants.{Star, Fixed}
use Rattle.python_format.specs.PythonPieces.{open_after, IsBalanced, NameAt, AmountAt, PrecisionAt}

-- ---- names

none_stays : (xs : List ℕ) → fold open_after None xs ≡ None
none_stays [] = refl
none_stays (x ∷ xs) = none_stays xs

-- where no parenthesis closes the name, it has no end
pub name_none : (text name rest : List ℕ) (depth : ℕ) → fold open_after (Some 0) text ≡ Some depth
    → text ≡ name ++ 41 ∷ rest → IsBalanced name → ⊥
name_none text name rest depth e f g =
    let whole : fold open_after (Some 0) (name ++ 41 ∷ rest) ≡ None = fold-append open_after (Some 0) name (41 ∷ rest)
    ∙ ap (λ (o : Option ℕ). fold open_after o (41 ∷ rest)) g ∙ none_stays rest in
    let here : fold open_after (Some 0) (name ++ 41 ∷ rest) ≡ Some depth =
    subst (λ (t : List ℕ). fold open_after (Some 0) t ≡ Some depth) f e in
    absurd (cc (whole, here))

ends_early : (o : Option ℕ) (c : ℕ) (ys : List ℕ) → o ≡ Some 0 → 41 ≡ c → fold open_after (open_after o c) ys ≡ Some 0
    → ⊥
ends_early o c ys e f g =
    let closed : open_after o c ≡ None = rw (e, ← f) refl in
    let here : fold open_after None ys ≡ Some 0 =
    subst (λ (p : Option ℕ). fold open_after p ys ≡ Some 0) closed g in
    absurd (cc (none_stays ys, here))

one_name : (o : Option ℕ) (xs ys r s : List ℕ) → xs ++ 41 ∷ r ≡ ys ++ 41 ∷ s → fold open_after o xs ≡ Some 0
    → fold open_after o ys ≡ Some 0 → (xs ≡ ys) × (r ≡ s)
one_name o [] [] r s e f g = (refl, cc e)
one_name o [] (c ∷ ys) r s e f g = absurd (ends_early o c ys f (cc e) g)
one_name o (b ∷ xs) [] r s e f g = absurd (ends_early o b xs g (cc e) f)
one_name o (b ∷ xs) (c ∷ ys) r s e f g =
    let heads : b ≡ c = cc e in
    let tails : xs ++ 41 ∷ r ≡ ys ++ 41 ∷ s = cc e in
    let ih = one_name (open_after o b) xs ys r s tails f
    (subst (λ (x : ℕ). fold open_after (open_after o x) ys ≡ Some 0) (sym heads) g) in
    (cc (heads, ih.0), ih.1)

pub name_one : (n m : Option (List ℕ)) (text r s : List ℕ) → NameAt n text r → NameAt m text s → (n ≡ m) × (r ≡ s)
name_one None None text r s (b, e) (c, f) = (refl, e ∙ sym f)
name_one None (Some m) text r s (b, e) (f, balanced) = absurd (b _ f)
name_one (Some n) None text r s (f, balanced) (b, e) = absurd (b _ f)
name_one (Some n) (Some m) text r s (e, balanced) (f, also) =
    let same : n ++ 41 ∷ r ≡ m ++ 41 ∷ s = cc (e, f) in
    let p = one_name (Some 0) n m r s same balanced also in
    (ap (λ (x : List ℕ). Some x) p.0, p.1)

-- the parenthesis at a place of the text closes the name before it
pub name_at : (text inner : List ℕ) (n : ℕ) → text ≡ 40 ∷ inner → n < length inner → get_or inner n 0 ≡ 41
    → IsBalanced (take n inner) → NameAt (Some (take n inner)) text (drop (n + 1) inner)
name_at text inner n e lt closes balanced =
    let rest : drop n inner ≡ 41 ∷ drop (n + 1) inner = drop_more inner n 0 lt
    ∙ ap (λ (b : ℕ). b ∷ drop (n + 1) inner) closes in
    let whole : inner ≡ take n inner ++ 41 ∷ drop (n + 1) inner = sym (take-append-drop n inner)
    ∙ ap (λ (t : List ℕ). take n inner ++ t) rest in
    (e ∙ ap (λ (t : List ℕ). 40 ∷ t) whole, balanced)

pub no_name : (text inner : List ℕ) → text ≡ 40 ∷ inner
    → ((name rest : List ℕ) → inner ≡ name ++ 41 ∷ rest → IsBalanced name → ⊥)
    → (name : Option (List ℕ)) (rest : List ℕ) → NameAt name text rest → ⊥
no_name text inner e none None rest (b, f) = b inner e
no_name text inner e none (Some name) rest (f, balanced) = none name rest (cc (e, f)) balanced

-- ---- amounts

pub amount_one : (a b : Amount) (text r s : List ℕ) → AmountAt a text r → AmountAt b text s → (a ≡ b) × (r ≡ s)
amount_one Star Star text r s e f = (refl, cc (e, f))
amount_one Star (Fixed z) text r s e (none, f, g) = absurd (none r e)
amount_one (Fixed z) Star text r s (none, f, g) e = absurd (none s e)
amount_one (Fixed z) (Fixed y) text r s (none, e, f) (also, g, h) = (cc (e, g), f ∙ sym h)

pub precision_one : (a b : Amount) (text r s : List ℕ) → PrecisionAt a text r → PrecisionAt b text s → (a ≡ b) × (r ≡ s)
precision_one a b text r s (inl (after, e, x)) (inl (behind, f, y)) =
    let same : after ≡ behind = cc (e, f) in
    amount_one a b behind r s (subst (λ (t : List ℕ). AmountAt a t r) same x) y
precision_one a b text r s (inl (after, e, x)) (inr (none, f, g)) = absurd (none after e)
precision_one a b text r s (inr (none, f, g)) (inl (after, e, x)) = absurd (none after e)
precision_one a b text r s (inr (none, e, f)) (inr (also, g, h)) = (e ∙ sym g, f ∙ sym h)
