-- The places that a list of languages names answer as the list does.
use Rattle.live_set.proofs.Kit.{◌≡◌, ℕ, ◌+◌, ◌≤◌, true, cond, List, [], ◌∷◌, ◌++◌, length, map, flat_map, take}
use Rattle.live_set.proofs.Kit.{slice_get, find, Option, Some, None, refl, sym, ap, subst, ◌∙◌, arith, inl, inr}
use Rattle.live_set.proofs.Kit.{cases_lt, false≢true, append-nil, length-append, Entry, has_key, members, locales_of}
use Rattle.live_set.proofs.Kit.{named_locales, LoadValue, is_for, map_or_empty, map_at, IsPlaceFor, map_in}
use Rattle.std.proofs.Common.{is_some}
use Rattle.std.specs.Option.{option_map_or}
use Rattle.std.specs.List.{cons_option}
use Rattle.std.proofs.lemmas.List.{append_assoc, map-append}
use Rattle.live_set.specs.Asks.{map_with, maps_named}
use Rattle.live_set.specs.SetPlaces.{IsListed, listed_places, loads_of, loads_named, map_among, most_places}
use Rattle.live_set.specs.Placing.{IsExtended, IsPushed}
use Rattle.live_set.specs.declared.places.Places.{Places}

-- ---- the loads of locales, one locale after another

cons_append : {X : Type 0} (o : Option X) (xs ys : List X) → cons_option o xs ++ ys ≡ cons_option o (xs ++ ys)
cons_append None xs ys = refl
cons_append (Some x) xs ys = refl

module _ (held : List LoadValue) (domain : List ℕ) where
  abbrev loads : List (List ℕ) → List LoadValue
  loads = loads_of held domain

  loads_append : (xs ys : List (List ℕ)) → loads (xs ++ ys) ≡ loads xs ++ loads ys
  loads_append [] ys = refl
  loads_append (x ∷ xs) ys = ap (cons_option (find (is_for domain x) held)) (loads_append xs ys)
      ∙ sym (cons_append (find (is_for domain x) held) (loads xs) (loads ys))

  -- ---- a search of the maps of locales finds what one of their loads finds

  search_next : (key : List ℕ) (o : Option LoadValue) (ls : List LoadValue) (ms : List (List Entry))
      → find (has_key key) ms ≡ find (has_key key) (map (λ l. l.map) ls)
      → find (has_key key) (map_or_empty o ∷ ms) ≡ find (has_key key) (map (λ l. l.map) (cons_option o ls))
  search_next key None ls ms same = same
  search_next key (Some l) ls ms same = ap (cond (has_key key l.map) (Some l.map)) same

  search_same : (key : List ℕ) (xs : List (List ℕ))
      → find (has_key key) (map (map_in held domain) xs) ≡ find (has_key key) (map (λ l. l.map) (loads xs))
  search_same key [] = refl
  search_same key (x ∷ xs) = search_next key (find (is_for domain x) held) (loads xs) (map (map_in held domain) xs)
      (search_same key xs)

  maps_at : (ps : List ℕ) → map (map_at held) ps ≡ map map_or_empty (map (slice_get held) ps)
  maps_at [] = refl
  maps_at (p ∷ ps) = ap (λ ms. map_at held p ∷ ms) (maps_at ps)

  maps_of : (ls : List LoadValue) → map map_or_empty (map (λ l. Some l) ls) ≡ map (λ l. l.map) ls
  maps_of [] = refl
  maps_of (l ∷ ls) = ap (λ ms. l.map ∷ ms) (maps_of ls)

  -- a search at the places finds what one of the maps that the list names finds
  pub same_search : (ps : List ℕ) (languages key : List ℕ)
      → map (slice_get held) ps ≡ map (λ l. Some l) (loads_named held domain languages)
      → find (has_key key) (map (map_at held) ps) ≡ find (has_key key) (maps_named (map_in held) domain languages)
  same_search ps languages key same = ap (find (has_key key))
      (maps_at ps ∙ ap (map map_or_empty) same ∙ maps_of (loads_named held domain languages))
      ∙ sym (search_same key (named_locales languages))

  same_answers : (ps : List ℕ) (languages key : List ℕ)
      → map (slice_get held) ps ≡ map (λ l. Some l) (loads_named held domain languages)
      → map_among held ps key ≡ map_with (map_in held) domain languages key
  same_answers ps languages key same = ap (λ o. option_map_or (λ m. m) o []) (same_search ps languages key same)

  -- ---- places added one locale after another

  pub extended_by_none : (locale : List ℕ) (places : Places) → find (is_for domain locale) held ≡ None
      → IsExtended held domain (locale ∷ []) places places
  extended_by_none locale places none =
      let no : loads (locale ∷ []) ≡ [] = ap (λ o. cons_option o []) none in
      record {
        count = λ le. omega (arith, ap length no);
        loads = λ le. sym (ap (λ ls. map (slice_get held) (listed_places places) ++ map (λ l. Some l) ls) no
            ∙ append-nil (map (slice_get held) (listed_places places)));
        more = λ lt few. omega (arith, lt, ap length no);
      }

  one_load : (o : Option LoadValue) → is_some o ≡ true → map (λ l. Some l) (cons_option o []) ≡ o ∷ []
  one_load None e = absurd (false≢true e)
  one_load (Some l) e = refl

  pub extended_by_one : (locale : List ℕ) (place : ℕ) (old new : Places) → IsPlaceFor held domain locale place
      → IsPushed place old new → IsExtended held domain (locale ∷ []) old new
  extended_by_one locale place old new is pushed =
      let one : map (λ l. Some l) (loads (locale ∷ [])) ≡ find (is_for domain locale) held ∷ [] =
      one_load (find (is_for domain locale) held) is.some in
      let many : length (loads (locale ∷ [])) ≡ 1 = length_one (find (is_for domain locale) held) is.some in
      record {
        count = λ le. pushed.count le ∙ ap (λ n. old.count + n) (sym many);
        loads = λ le. ap (map (slice_get held)) (pushed.places le)
            ∙ map-append (slice_get held) (listed_places old) (place ∷ [])
            ∙ ap (λ os. map (slice_get held) (listed_places old) ++ os) (ap (λ o. o ∷ [])
            (is.at (omega (arith, pushed.fits le))) ∙ sym one);
        more = λ lt few. elim (pushed.more lt) [
          | inl full ↦ omega (arith, full, many)
          | inr large ↦ absurd (omega (arith, large, few, is.inside))
        ];
      }
    where
      length_one : (o : Option LoadValue) → is_some o ≡ true → length (cons_option o []) ≡ 1
      length_one None e = absurd (false≢true e)
      length_one (Some l) e = refl

  pub extended_by_both : (xs ys : List (List ℕ)) (old between new : Places) → IsExtended held domain xs old between
      → IsExtended held domain ys between new → IsExtended held domain (xs ++ ys) old new
  extended_by_both xs ys old between new first second =
      let all = loads_append xs ys in
      let counts : length (loads (xs ++ ys)) ≡ length (loads xs) + length (loads ys) = ap length all
      ∙ length-append (loads xs) (loads ys) in
      let few : new.count ≤ most_places → between.count ≤ most_places = λ le. omega (arith, second.count le, le) in
      record {
        count = λ le. omega (arith, second.count le, first.count (few le), counts);
        loads = λ le. second.loads le ∙ ap (λ os. os ++ map (λ l. Some l) (loads ys)) (first.loads (few le))
            ∙ append_assoc (map (slice_get held) (listed_places old)) (map (λ l. Some l) (loads xs))
            (map (λ l. Some l) (loads ys))
            ∙ ap (λ os. map (slice_get held) (listed_places old) ++ os)
            (sym (map-append (λ l. Some l) (loads xs) (loads ys))
            ∙ ap (map (λ l. Some l)) (sym all));
        more = λ lt room. elim (cases_lt most_places between.count) [
          | inl full ↦ omega (arith, first.more full room, counts)
          | inr le ↦ omega (arith, second.more lt room, first.count le, counts)
        ];
      }

  -- ---- the whole list

  pub listed_by_all : (languages : List ℕ) (none new : Places) → none.count ≡ 0
      → IsExtended held domain (named_locales languages) none new → IsListed held domain languages new
  listed_by_all languages none new zero_count all =
      let nothing : listed_places none ≡ [] = ap (λ n. take n none.places) zero_count in
      let same : new.count ≤ most_places → map (slice_get held) (listed_places new)
      ≡ map (λ l. Some l) (loads_named held domain languages) = λ le. all.loads le
      ∙ ap (λ ps. map (slice_get held) ps ++ map (λ l. Some l) (loads_named held domain languages)) nothing in
      record {
        loads = same;
        answers = λ le key. same_answers (listed_places new) languages key (same le);
        more = λ lt few. omega (arith, all.more lt few, zero_count);
      }

  -- what is left of a list after its first member
  pub listed_by_rest : (languages rest member others : List ℕ) (old between new : Places)
      → members rest ≡ member ∷ members others → IsExtended held domain (locales_of member) old between
      → ((q : Places) → IsExtended held domain (named_locales rest) old q → IsListed held domain languages q)
      → IsExtended held domain (named_locales others) between new → IsListed held domain languages new
  listed_by_rest languages rest member others old between new cut first then second =
      then new (subst (λ (xs : List (List ℕ)). IsExtended held domain xs old new)
      (sym (ap (flat_map locales_of) cut)) (extended_by_both (locales_of member) (named_locales others) old between
      new first
      second))
