-- What comes next decides whether a text is what is left of the content of the open elements.
use Rattle.std.proofs.Common.{◌≡◌, ℕ, Bool, true, false, List, [], ◌∷◌, ◌++◌, Option, None, Some, refl, sym, ap, ◌∙◌}
use Rattle.std.proofs.Common.{inl, inr, subst, cond}
use Rattle.std.specs.Prelude.{◌↔◌, MatchOption}
use denote.Ref.{Bor}
use Rattle.kuit_formats.specs.KuitTokens.{Token, token}
use Rattle.kuit_formats.specs.KuitTokens as tokens
use Rattle.kuit_formats.specs.KuitTags.{TagEnds}
use Rattle.kuit_formats.specs.KuitMarkup.{ItemAt, StartAt, EndAt, Empty, Item, Element, IsContent}
use Rattle.kuit_formats.specs.KuitReading.{EndsAt, Closes, Opens, waiting_names}

-- ---- from what follows to the text

item_on : (names : List (List ℕ)) (text next : List ℕ) → ItemAt text next → Closes names next → Closes names text
item_on [] text next i (shape, c) = (Item shape, (next, i, c))
item_on (name ∷ names) text next i (shape, closing, after, c, e, h) = (Item shape, closing, after, (next, i, c), e, h)

start_on : (names : List (List ℕ)) (name text next : List ℕ) → StartAt name text next → Closes (name ∷ names) next
    → Closes names text
start_on [] name text next s (inner, closing, after, c, e, (more, d)) =
    (Element inner more, (name, next, closing, after, s, c, e, d))
start_on (outer ∷ names) name text next s (inner, closing, after, c, e, (more, end, last, d, f, h)) =
    (Element inner more, end, last, (name, next, closing, after, s, c, e, d), f, h)

end_on : (names : List (List ℕ)) (name text next : List ℕ) → EndAt name text next → Closes names next
    → Closes (name ∷ names) text
end_on names name text next e h = (Empty, text, next, refl, e, h)

-- ---- from the text to what follows

-- an item comes next, a start-tag, or the end-tag of the innermost element; or nothing, and no element is open
data First (names : List (List ℕ)) (text : List ℕ) : Type 0 where
  Nothing : names ≡ [] → text ≡ [] → First names text
  Next : (next : List ℕ) → ItemAt text next → Closes names next → First names text
  Begins : (name next : List ℕ) → StartAt name text next → Closes (name ∷ names) next → First names text
  Ends : (name : List ℕ) (outer : List (List ℕ)) (next : List ℕ) → names ≡ name ∷ outer → EndAt name text next
      → Closes outer next → First names text

first : (names : List (List ℕ)) (text : List ℕ) → Closes names text → First names text
first [] text (Empty, c) = Nothing refl c
first [] text (Item more, (next, i, c)) = Next next i (more, c)
first [] text (Element inner more, (name, next, closing, after, s, c, e, d)) =
    Begins name next s (inner, closing, after, c, e, (more, d))
first (name ∷ names) text (Empty, closing, after, c, e, h) =
    Ends name names after refl (subst (λ (t : List ℕ). EndAt name t after) (sym c) e) h
first (name ∷ names) text (Item more, closing, after, (next, i, c), e, h) =
    Next next i (more, closing, after, c, e, h)
first (outer ∷ names) text (Element inner more, closing, after, (name, next, end, last, s, c, e, d), f, h) =
    Begins name next s (inner, end, last, c, e, (more, closing, after, d, f, h))

-- ---- no token

no_item : (text next : List ℕ) → None ≡ token text → ItemAt text next → ⊥
no_item text next e (inl f) = absurd (cc (e, f))
no_item text next e (inr (name, inner, f, g)) = absurd (cc (e, f))

pub no_token : (names : List (List ℕ)) (text : List ℕ) → (text ≡ [] → ⊥) → None ≡ token text → Closes names text → ⊥
no_token names text some e h = elim (first names text h) [
  | Nothing n t ↦ some t
  | Next next i c ↦ no_item text next e i
  | Begins name next s c ↦ absurd (cc (e, s.1))
  | Ends name outer next n f c ↦ absurd (cc (e, f))
]

-- ---- an item

same_item : (text rest next : List ℕ) → Some (tokens.Item rest) ≡ token text → ItemAt text next → next ≡ rest
same_item text rest next e (inl f) =
    let same : Some (tokens.Item rest) ≡ Some (tokens.Item next) = e ∙ f in sym (cc same)
same_item text rest next e (inr (name, inner, f, g)) = absurd (cc (e, f))

nothing_first : (text : List ℕ) (t : Token) → text ≡ [] → Some t ≡ token text → ⊥
nothing_first [] t e f = absurd (cc f)
nothing_first (b ∷ more) t e f = absurd (cc e)

item_off : (names : List (List ℕ)) (text rest : List ℕ) → Some (tokens.Item rest) ≡ token text → Closes names text
    → Closes names rest
item_off names text rest e h = elim (first names text h) [
  | Nothing n t ↦ absurd (nothing_first text _ t e)
  | Next next i c ↦ subst (λ (t : List ℕ). Closes names t) (same_item text rest next e i) c
  | Begins name next s c ↦ absurd (cc (e, s.1))
  | Ends name outer next n f c ↦ absurd (cc (e, f))
]

pub item_is : (names : List (List ℕ)) (text rest : List ℕ) → Some (tokens.Item rest) ≡ token text
    → Closes names text ↔ Closes names rest
item_is names text rest e = (item_off names text rest e, item_on names text rest (inl (sym e)))

-- ---- a start-tag

start_item : (text name rest next : List ℕ) → Some (tokens.Start name rest) ≡ token text → ItemAt text next
    → TagEnds [] rest true next
start_item text name rest next e (inl f) = absurd (cc (e, f))
start_item text name rest next e (inr (other, inner, f, g)) =
    let same : Some (tokens.Start name rest) ≡ Some (tokens.Start other inner) = e ∙ f in
    let one : inner ≡ rest = cc same in
    subst (λ (t : List ℕ). TagEnds [] t true next) one g

start_tag : (text name rest other next : List ℕ) → Some (tokens.Start name rest) ≡ token text
    → StartAt other text next → (other ≡ name) × TagEnds [] rest false next
start_tag text name rest other next e (inner, f, g) =
    let same : Some (tokens.Start name rest) ≡ Some (tokens.Start other inner) = e ∙ f in
    let one : inner ≡ rest = cc same in
    (cc same, subst (λ (t : List ℕ). TagEnds [] t false next) one g)

no_tag : (names : List (List ℕ)) (text name rest : List ℕ) → Some (tokens.Start name rest) ≡ token text
    → ((empty : Bool) (after : List ℕ) → TagEnds [] rest empty after → ⊥) → Closes names text → ⊥
no_tag names text name rest e none h = elim (first names text h) [
  | Nothing n t ↦ nothing_first text _ t e
  | Next next i c ↦ none true next (start_item text name rest next e i)
  | Begins other next s c ↦ none false next (start_tag text name rest other next e s).1
  | Ends other outer next n f c ↦ absurd (cc (e, f))
]

empty_off : (names : List (List ℕ)) (text name rest after : List ℕ) → Some (tokens.Start name rest) ≡ token text
    → EndsAt rest true after → Closes names text → Closes names after
empty_off names text name rest after e ends h = elim (first names text h) [
  | Nothing n t ↦ absurd (nothing_first text _ t e)
  | Next next i c ↦ subst (λ (t : List ℕ). Closes names t)
      (ends.only true next (start_item text name rest next e i)).1 c
  | Begins other next s c ↦ absurd (cc (ends.only false next (start_tag text name rest other next e s).1).0)
  | Ends other outer next n f c ↦ absurd (cc (e, f))
]

open_off : (names : List (List ℕ)) (text name rest after : List ℕ) → Some (tokens.Start name rest) ≡ token text
    → EndsAt rest false after → Closes names text → Closes (name ∷ names) after
open_off names text name rest after e ends h = elim (first names text h) [
  | Nothing n t ↦ absurd (nothing_first text _ t e)
  | Next next i c ↦ absurd (cc (ends.only true next (start_item text name rest next e i)).0)
  | Begins other next s c ↦
      let found = start_tag text name rest other next e s in
      subst (λ (t : List ℕ). Closes (name ∷ names) t) (ends.only false next found.1).1
      (subst (λ (n : List ℕ). Closes (n ∷ names) next) found.0 c)
  | Ends other outer next n f c ↦ absurd (cc (e, f))
]

empty_is : (names : List (List ℕ)) (text name rest after : List ℕ) → Some (tokens.Start name rest) ≡ token text
    → EndsAt rest true after → Closes names text ↔ Closes names after
empty_is names text name rest after e ends =
    (empty_off names text name rest after e ends, item_on names text after (inr (name, rest, sym e, ends.there)))

open_is : (names : List (List ℕ)) (text name rest after : List ℕ) → Some (tokens.Start name rest) ≡ token text
    → EndsAt rest false after → Closes names text ↔ Closes (name ∷ names) after
open_is names text name rest after e ends =
    (open_off names text name rest after e ends, start_on names name text after (rest, sym e, ends.there))

-- found is what follows the text, or None: then the text isn't what is left
abbrev pub IsNext : List (List ℕ) → List ℕ → List (List ℕ) → Option (Bor (List ℕ)) → Type 0
IsNext old text new found =
    MatchOption found (Closes old text → ⊥) (λ rest. Closes old text ↔ Closes new rest.now)

pub start_is : (old new : List (List ℕ)) (text name rest : List ℕ) (found : Option (Bor (List ℕ)))
    → Some (tokens.Start name rest) ≡ token text → Opens name rest old new found → IsNext old text new found
start_is old new text name rest None e none = no_tag old text name rest e none
start_is old new text name rest (Some after) e (inl (ends, same)) =
    rw same (empty_is old text name rest after.now e ends)
start_is old new text name rest (Some after) e (inr (ends, same)) =
    rw same (open_is old text name rest after.now e ends)

-- ---- an end-tag

end_off : (names : List (List ℕ)) (text name rest : List ℕ) → Some (tokens.End name rest) ≡ token text
    → Closes names text → (outer : List (List ℕ)) × (names ≡ name ∷ outer) × Closes outer rest
end_off names text name rest e h = elim (first names text h) [
  | Nothing n t ↦ absurd (nothing_first text _ t e)
  | Next next (inl f) c ↦ absurd (cc (e, f))
  | Next next (inr (other, inner, f, g)) c ↦ absurd (cc (e, f))
  | Begins other next s c ↦ absurd (cc (e, s.1))
  | Ends other outer next n f c ↦
      let same : Some (tokens.End name rest) ≡ Some (tokens.End other next) = e ∙ f in
      let one : other ≡ name = sym (cc same) in
      let two : next ≡ rest = sym (cc same) in
      (outer, n ∙ ap (λ (x : List ℕ). x ∷ outer) one, subst (λ (t : List ℕ). Closes outer t) two c)
]

same_outer : (name : List ℕ) (names outer : List (List ℕ)) → name ∷ names ≡ name ∷ outer → outer ≡ names
same_outer name names outer e = cc e

pub end_is : (old new : List (List ℕ)) (text name rest : List ℕ) → Some (tokens.End name rest) ≡ token text
    → old ≡ name ∷ new → Closes old text ↔ Closes new rest
end_is old new text name rest e is = (
  λ h. let found = end_off old text name rest e h in
      subst (λ (names : List (List ℕ)). Closes names rest) (same_outer name new found.0 (sym is ∙ found.1)) found.2,
  λ h. rw is (end_on new name text rest (sym e) h),
)

pub other_end : (old : List (List ℕ)) (text name rest : List ℕ) → Some (tokens.End name rest) ≡ token text
    → ((names : List (List ℕ)) → old ≡ name ∷ names → ⊥) → Closes old text → ⊥
other_end old text name rest e none h = let found = end_off old text name rest e h in none found.0 found.1

-- ---- open elements

pub waiting_push : (names : List (Bor (List ℕ))) (name : Bor (List ℕ))
    → waiting_names (names ++ name ∷ []) ≡ name.now ∷ waiting_names names
waiting_push [] name = refl
waiting_push (first ∷ more) name = ap (λ (xs : List (List ℕ)). xs ++ first.now ∷ []) (waiting_push more name)

-- ---- the end of the text

last_end : (names : List (List ℕ)) → Closes names [] → names ≡ []
last_end names h = elim (first names [] h) [
  | Nothing n t ↦ n
  | Next next (inl f) c ↦ absurd (cc f)
  | Next next (inr (other, inner, f, g)) c ↦ absurd (cc f)
  | Begins other next s c ↦ absurd (cc s.1)
  | Ends other outer next n f c ↦ absurd (cc f)
]

pub same_first : (one other : List ℕ) (names others : List (List ℕ)) → one ∷ names ≡ other ∷ others → one ≡ other
same_first one other names others e = cc e

pub opens_as : (name text : List ℕ) (old new : List (List ℕ)) (empty : Bool) (rest : Bor (List ℕ))
    → EndsAt text empty rest.now → new ≡ cond empty old (name ∷ old) → Opens name text old new (Some rest)
opens_as name text old new true rest ends is = inl (ends, is)
opens_as name text old new false rest ends is = inr (ends, is)

-- no name waits where no element is open
not_nil : (names : List (List ℕ)) (name : List ℕ) → names ++ name ∷ [] ≡ [] → ⊥
not_nil [] name e = absurd (cc e)
not_nil (first ∷ names) name e = absurd (cc e)

none_open : (names : List (Bor (List ℕ))) → waiting_names names ≡ [] → names ≡ []
none_open [] e = refl
none_open (name ∷ more) e = absurd (not_nil (waiting_names more) name.now e)

pub all_read : (text rest : List ℕ) (names : List (Bor (List ℕ))) → (IsContent text ↔ Closes (waiting_names names) rest)
    → rest ≡ [] → IsContent text ↔ (names ≡ [])
all_read text rest names h e = (
  λ c. none_open names (last_end (waiting_names names)
      (subst (λ (t : List ℕ). Closes (waiting_names names) t) e (h.0 c))),
  λ n. h.1 (rw (e, n) (Empty, refl)),
)
