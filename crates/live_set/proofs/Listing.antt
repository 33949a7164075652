-- Lists of languages: their first member, and the rest of the list.
use Rattle.std.proofs.Common.{◌≡◌, ◌≢◌, ℕ, ◌<◌, ◌+◌, Bool, true, false, ◌==◌, ◌&&◌, ◌||◌, not, cond, List, [], ◌∷◌}
use Rattle.std.proofs.Common.{length, get_or, Option, Some, None, refl, sym, ap, ◌∙◌, arith, filter, take_while, inl}
use Rattle.std.proofs.Common.{inr, ◌⊎◌, MatchOption, Bor, length-take, find, subst}
use Rattle.std.proofs.lemmas.Bool.{cases_Bool, eqb-true, false≢true}
use Rattle.std.specs.Option.{unwrap_or}
use Rattle.std.specs.List.{AllByRecursion, list_any, position_or_len, before_first, after_first, slice_split}
use Rattle.std.proofs.lemmas.List.{get_or_default}
use Rattle.std.proofs.lemmas.List.Splits.{slice_split_first}
use Rattle.std.proofs.lemmas.List.Sums.{take_while-cons, passes_at_first}
use Rattle.std.proofs.lemmas.List.Folds.{list_any_at, Any-from_list_any}
use Rattle.live_set.specs.Names.{IsName, is_name_byte}
use Rattle.live_set.specs.LanguageList.{is_colon, is_text, translates, members, is_underscore, begins_detail}
use Rattle.live_set.specs.LanguageList.{has_only_territory}

-- ---- a search that finds nothing, and one that finds

pub none_passes : (p : ℕ → Bool) (bs : List ℕ) → position_or_len p bs ≡ length bs → list_any p bs ≡ false
none_passes p [] e = refl
none_passes p (b ∷ bs) e = elim (cases_Bool (p b)) [
  | inl is_one ↦ let here : position_or_len p (b ∷ bs) ≡ 0 = rw is_one refl in absurd (omega arith)
  | inr is_none ↦
      let next : position_or_len p (b ∷ bs) ≡ 1 + position_or_len p bs = rw is_none refl in
      rw is_none (none_passes p bs (omega arith))
]

pub whole_split : (p : ℕ → Bool) (bs : List ℕ) → position_or_len p bs ≡ length bs → slice_split p bs ≡ bs ∷ []
whole_split p [] e = refl
whole_split p (b ∷ bs) e = elim (cases_Bool (p b)) [
  | inl is_one ↦ let here : position_or_len p (b ∷ bs) ≡ 0 = rw is_one refl in absurd (omega arith)
  | inr is_none ↦
      let next : position_or_len p (b ∷ bs) ≡ 1 + position_or_len p bs = rw is_none refl in
      let rest = whole_split p bs (omega arith) in
      rw (is_none, rest) refl
]

pub one_passes : (p : ℕ → Bool) (bs : List ℕ) → position_or_len p bs < length bs → list_any p bs ≡ true
one_passes p bs lt = list_any_at p bs (position_or_len p bs) 0 lt (passes_at_first p bs 0 lt)

-- ---- the first member

-- leading colons are skipped
pub past_colon : (list : List ℕ) → members (58 ∷ list) ≡ members list
past_colon list = refl

text_by_length : (text : List ℕ) → 0 < length text → is_text text ≡ true
text_by_length [] some = absurd (omega arith)
text_by_length (b ∷ bs) some = refl

-- what doesn't begin with a colon begins with a member that isn't empty
text_first : (list : List ℕ) → false ≡ (length list == 0) → ((rest : List ℕ) → list ≢ 58 ∷ rest) → (member : List ℕ)
    → (member ≡ before_first is_colon list) ⊎ (member ≡ list) → is_text member ≡ true
text_first [] some no_colon member is = absurd (false≢true some)
text_first (b ∷ bs) some no_colon member is =
    elim (cases_Bool (is_colon b)) [
      | inl is_one ↦ absurd (no_colon bs (ap (λ c. c ∷ bs) (eqb-true b 58 is_one)))
      | inr is_none ↦ elim is [
        | inl e ↦
            let next : position_or_len is_colon (b ∷ bs) ≡ 1 + position_or_len is_colon bs = rw is_none refl in
            text_by_length member (omega (
              arith,
              ap length e,
              length-take (position_or_len is_colon (b ∷ bs)) (b ∷ bs),
              next,
            ))
        | inr e ↦ rw e refl
      ]
    ]

members_first : (list member : List ℕ) (others : List (List ℕ)) → filter is_text (slice_split is_colon list)
    ≡ cond (is_text member) (member ∷ others) others → is_text member ≡ true
    → members list ≡ cond (translates member) (member ∷ take_while translates others) []
members_first list member others e text =
    ap (take_while translates) (e ∙ ap (λ b. cond b (member ∷ others) others) text)
    ∙ take_while-cons translates member others

-- the members of a list that is cut at its first colon; without one it is its one member
pub members_cut : (list : List ℕ) → false ≡ (length list == 0) → ((rest : List ℕ) → list ≢ 58 ∷ rest)
    → (o : Option (Bor (List ℕ) × Bor (List ℕ))) → MatchOption o (position_or_len is_colon list ≡ length list)
    (λ x. (x.0.now ≡ before_first is_colon list) × (x.1.now ≡ after_first is_colon list)
    × (position_or_len is_colon list < length list)) → (whole end : Bor (List ℕ)) → whole.now ≡ list → end.now ≡ []
    → (r : Bor (List ℕ) × Bor (List ℕ)) → r ≡ unwrap_or o (whole, end)
    → members list ≡ cond (translates r.0.now) (r.0.now ∷ members r.1.now) []
members_cut list some no_colon None at whole end is_whole is_end r is =
    let member : r.0.now ≡ list = ap (λ x. x.0.now) is ∙ is_whole in
    let rest : r.1.now ≡ [] = ap (λ x. x.1.now) is ∙ is_end in
    rw (member, rest) (members_first list list [] (ap (filter is_text) (whole_split is_colon list at))
    (text_first list some no_colon list (inr refl)))
members_cut list some no_colon (Some x) at whole end is_whole is_end r is =
    let member : r.0.now ≡ before_first is_colon list = ap (λ y. y.0.now) is ∙ at.0 in
    let rest : r.1.now ≡ after_first is_colon list = ap (λ y. y.1.now) is ∙ at.1 in
    rw (member, rest) (members_first list (before_first is_colon list)
    (filter is_text (slice_split is_colon (after_first is_colon list)))
    (ap (filter is_text) (slice_split_first is_colon list 0 at.2))
    (text_first list some no_colon (before_first is_colon list) (inl refl)))

-- a text without a colon has one member
single : (bs : List ℕ) → list_any is_colon bs ≡ false → slice_split is_colon bs ≡ bs ∷ []
single [] e = refl
single (b ∷ bs) e = elim (cases_Bool (is_colon b)) [
  | inl is_one ↦ absurd (false≢true (sym e ∙ rw is_one refl))
  | inr is_none ↦
      let rest = single bs (sym (rw is_none refl) ∙ e) in
      rw (is_none, rest) refl
]

pub members_of_one : (list : List ℕ) → list_any is_colon list ≡ false → 0 < length list → translates list ≡ true
    → members list ≡ list ∷ []
members_of_one list no_colon some is =
    members_first list list [] (ap (filter is_text) (single list no_colon)) (text_by_length list some)
    ∙ ap (λ b. cond b (list ∷ []) []) is

-- if a list without a colon has a member, that is the whole list
pub only_member : (list member : List ℕ) (others : List (List ℕ)) → list_any is_colon list ≡ false
    → members list ≡ member ∷ others → (member ≡ list) × (members list ≡ list ∷ []) × (translates list ≡ true)
only_member list member others none e =
    let split = ap (filter is_text) (single list none) in
    elim (cases_Bool (is_text list)) [
      | inr empty ↦ absurd (no_member (sym (ap (take_while translates) split
          ∙ ap (λ b. take_while translates (cond b (list ∷ []) [])) empty) ∙ e))
      | inl text ↦
          let whole = members_first list list [] split text in
          elim (cases_Bool (translates list)) [
            | inr not ↦ absurd (no_member (sym (whole ∙ ap (λ b. cond b (list ∷ []) []) not) ∙ e))
            | inl is ↦
                let one : members list ≡ list ∷ [] = whole ∙ ap (λ b. cond b (list ∷ []) []) is in
                (ap (λ l. get_or l 0 []) (sym e ∙ one), one, is)
          ]
    ]
  where
    no_member : {m : List ℕ} {ms : List (List ℕ)} → [] ≡ m ∷ ms → ⊥
    no_member e = cc

-- no locale's name has a colon
no_colon : (text : List ℕ) → AllByRecursion (λ b. is_name_byte b ≡ true) text → list_any is_colon text ≡ false
no_colon [] each = refl
no_colon (b ∷ bs) each = elim (cases_Bool (is_colon b)) [
  | inl is_one ↦
      let colon : is_name_byte 58 ≡ true = subst (λ c. is_name_byte c ≡ true) (eqb-true b 58 is_one) each.0 in
      absurd (false≢true colon)
  | inr is_none ↦ rw is_none (no_colon bs each.1)
]

pub members_of_name : (text : List ℕ) → IsName text → translates text ≡ true → members text ≡ text ∷ []
members_of_name text name is = members_of_one text (no_colon text name.each) name.some is

-- ---- a search of the first locales

pub find_first : {X : Type 0} (p : X → Bool) (x y : X) (xs : List X) → find p (x ∷ []) ≡ Some y
    → find p (x ∷ xs) ≡ Some y
find_first p x y xs e = elim (cases_Bool (p x)) [
  | inl is ↦ ap (λ b. cond b (Some x) (find p xs)) is ∙ sym (ap (λ b. cond b (Some x) None) is) ∙ e
  | inr not ↦ absurd (none_some (sym (ap (λ b. cond b (Some x) None) not) ∙ e))
]
  where
    none_some : {X : Type 0} {y : X} → None ≡ Some y → ⊥
    none_some e = cc

pub find_next : {X : Type 0} (p : X → Bool) (x : X) (xs : List X) → find p (x ∷ []) ≡ None
    → find p (x ∷ xs) ≡ find p xs
find_next p x xs e = elim (cases_Bool (p x)) [
  | inl is ↦ absurd (some_none (sym (ap (λ b. cond b (Some x) None) is) ∙ e))
  | inr not ↦ ap (λ b. cond b (Some x) (find p xs)) not
]
  where
    some_none : {X : Type 0} {y : X} → Some y ≡ None → ⊥
    some_none e = cc

-- ---- a territory, and no codeset or variant

pub no_territory : (member : List ℕ) → position_or_len is_underscore member ≡ length member
    → has_only_territory member ≡ false
no_territory member e = ap (λ b. b && not (list_any begins_detail member)) (none_passes is_underscore member e)

-- `_` is there, so `.` and `@` decide
pub with_territory : (member : List ℕ) → position_or_len is_underscore member < length member → (b : Bool)
    → list_any begins_detail member ≡ b → has_only_territory member ≡ not b
with_territory member lt b e = rw (one_passes is_underscore member lt, e) refl

-- what the searches for two single bytes say of a search for either
pub has_detail : (member : List ℕ) (k : ℕ) → k < length member → (get_or member k 0 ≡ 46) ⊎ (get_or member k 0 ≡ 64)
    → list_any begins_detail member ≡ true
has_detail member k lt (inl e) = list_any_at begins_detail member k 0 lt (rw e refl)
has_detail member k lt (inr e) = list_any_at begins_detail member k 0 lt (rw e refl)

pub no_detail : (member : List ℕ) → ((k : ℕ) → k < length member → get_or member k 0 ≡ 46 → ⊥)
    → ((k : ℕ) → k < length member → get_or member k 0 ≡ 64 → ⊥) → list_any begins_detail member ≡ false
no_detail member no_dot no_at = elim (cases_Bool (list_any begins_detail member)) [
  | inr is_none ↦ is_none
  | inl is_one ↦
      let (k, x, lt, at, passes) = Any-from_list_any begins_detail member is_one in
      elim (cases_Bool (x == 46)) [
        | inl dot ↦ absurd (no_dot k lt (get_or_default member k 0 x lt ∙ at ∙ eqb-true x 46 dot))
        | inr other ↦
            let rest : (x == 64) ≡ true = sym (ap (λ b. b || (x == 64)) other) ∙ passes in
            absurd (no_at k lt (get_or_default member k 0 x lt ∙ at ∙ eqb-true x 64 rest))
      ]
]
