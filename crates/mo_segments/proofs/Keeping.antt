-- How a map of messages by their keys grows.
use Rattle.std.proofs.Common.{◌≡◌, ℕ, Bool, true, false, cond, List, [], ◌∷◌, ◌++◌, map, Option, Some, None, refl, sym}
use Rattle.std.proofs.Common.{ap, ◌∙◌, subst, Ordering}
use Rattle.std.specs.Prelude.{option_map, is_some}
use Rattle.std.specs.List.{AllByRecursion}
use Rattle.std.specs.List.Sorted.{IsStrictlySortedBy}
use Rattle.std.specs.Ordering.{nat_cmp, is_eq, match_ordering}
use Rattle.std.specs.declared.cmp.Ordering.TheVariants.{Less, Equal, Greater}
use Rattle.std.specs.Cmp.Lexicographic.{slice_cmp}
use Rattle.std.specs.Str.{bytes_eq}
use Rattle.std.specs.Map.{lookup, keys_of, values_of}
use Rattle.std.specs.BTreeMap.{insert_entry}
use Rattle.std.proofs.lemmas.Bool.{false≢true}
use Rattle.std.proofs.lemmas.Cmp.{nat_list_cmp_total, tied_itself}
use Rattle.std.proofs.lemmas.Map.Lookups.{exact_bytes}
use Rattle.std.proofs.lemmas.Map.Text.{is_eq-slice_cmp}
use Rattle.mo_segments.specs.MessageStrings.{Strings}
use Rattle.mo_segments.specs.Flat.{key_of, first_of, AreKept}
use Rattle.mo_segments.specs.Keeping.{IsMapOf}

-- the keys are the same
abbrev is_at : List ℕ → List ℕ → Bool
is_at q k = is_eq (slice_cmp nat_cmp q k)

equal_from : (o : Ordering) → is_eq o ≡ true → o ≡ Equal
equal_from Less e = absurd (false≢true e)
equal_from Equal e = refl
equal_from Greater e = absurd (false≢true e)

same_from : (q k : List ℕ) → is_at q k ≡ true → q ≡ k
same_from q k e = exact_bytes q k (equal_from (slice_cmp nat_cmp q k) e)

is_at_itself : (q : List ℕ) → is_at q q ≡ true
is_at_itself q = ap is_eq (tied_itself nat_list_cmp_total q)

-- ---- the first of more messages

abbrev or_if : {X : Type 0} → Option X → Bool → X → Option X
or_if None b x = cond b (Some x) None
or_if (Some y) b x = Some y

first_of_more : (ms : List Strings) (x : Strings) (q : List ℕ)
    → first_of (ms ++ x ∷ []) q ≡ or_if (first_of ms q) (bytes_eq q (key_of x)) x
first_of_more [] x q = refl
first_of_more (m ∷ ms) x q = elim (bytes_eq q (key_of m)) as (λ b. cond b (Some m) (first_of (ms ++ x ∷ []) q)
    ≡ or_if (cond b (Some m) (first_of ms q)) (bytes_eq q (key_of x)) x) [
      | true ↦ refl
      | false ↦ first_of_more ms x q
    ]

or_if_false : {X : Type 0} (o : Option X) (x : X) → or_if o false x ≡ o
or_if_false None x = refl
or_if_false (Some y) x = refl

or_if_some : {X : Type 0} (o : Option X) (b : Bool) (x : X) → is_some o ≡ true → or_if o b x ≡ o
or_if_some None b x e = absurd (false≢true e)
or_if_some (Some y) b x e = refl

some_mapped : {X Y : Type 0} (f : X → Y) (o : Option X) → is_some o ≡ true → is_some (option_map f o) ≡ true
some_mapped f None e = e
some_mapped f (Some x) e = refl

none_mapped : {X Y : Type 0} (f : X → Y) (o : Option X) → is_some o ≡ false → option_map f o ≡ None
none_mapped f None e = refl
none_mapped f (Some x) e = absurd (false≢true (sym e))

module _ {K V : Type 0} (key : K → List ℕ) (strings : V → Strings) where
  abbrev found : List ℕ → List (K × V) → Option V
  found q es = lookup (λ k. is_at q (key k)) es

  -- the key is there already: the first messages stay
  pub kept_old : (es : List (K × V)) (ms : List Strings) (x : Strings) → IsMapOf key strings es ms
      → is_some (found (key_of x) es) ≡ true → IsMapOf key strings es (ms ++ x ∷ [])
  kept_old es ms x h there = record {
    keyed = h.keyed;
    first = λ q. h.first q ∙ sym (first_of_more ms x q ∙ (
        elim (is_at q (key_of x)) as (λ b. is_at q (key_of x) ≡ b → or_if (first_of ms q) (bytes_eq q (key_of x)) x
        ≡ first_of ms q) [
          | true ↦ λ e.
              let same = same_from q (key_of x) e in
              let some : is_some (first_of ms (key_of x)) ≡ true = subst (λ o. is_some o ≡ true) (h.first (key_of x))
              (some_mapped strings (found (key_of x) es) there) in
              or_if_some (first_of ms q) (bytes_eq q (key_of x)) x
              (subst (λ k. is_some (first_of ms k) ≡ true) (sym same) some)
          | false ↦ λ e. ap (λ b. or_if (first_of ms q) b x) (sym (is_eq-slice_cmp q (key_of x)) ∙ e)
              ∙ or_if_false (first_of ms q) x
        ] refl
        ));
  }

  -- an entry more, among those of other keys
  swapped : {X : Type 0} (a b : Bool) (x y more less : Option X) → more ≡ cond a x less
      → (a ≡ true → b ≡ true → ⊥) → cond b y more ≡ cond a x (cond b y less)
  swapped true true x y more less e apart = absurd (apart refl refl)
  swapped true false x y more less e apart = e
  swapped false true x y more less e apart = refl
  swapped false false x y more less e apart = e

  twice : {X : Type 0} (a b : Bool) (x y less : Option X) → a ≡ b → cond b x less ≡ cond a x (cond b y less)
  twice true true x y less e = refl
  twice true false x y less e = absurd (false≢true (sym e))
  twice false true x y less e = absurd (false≢true e)
  twice false false x y less e = refl

  abbrev by_keys : K → K → Ordering
  by_keys a b = slice_cmp nat_cmp (key a) (key b)

  found_inserted : (q : List ℕ) (k : K) (v : V) (es : List (K × V))
      → found q (insert_entry by_keys es k v) ≡ cond (is_at q (key k)) (Some v) (found q es)
  found_inserted q k v [] = refl
  found_inserted q k v (e ∷ es) =
      elim (by_keys k e.0) as (λ o. by_keys k e.0 ≡ o
      → found q (match_ordering o ((k, v) ∷ e ∷ es) ((e.0, v) ∷ es) (e ∷ insert_entry by_keys es k v))
      ≡ cond (is_at q (key k)) (Some v) (found q (e ∷ es))) [
        | Less ↦ λ is. refl
        | Equal ↦ λ is. twice (is_at q (key k)) (is_at q (key e.0)) (Some v) (Some e.1) (found q es)
            (ap (is_at q) (exact_bytes (key k) (key e.0) is))
        | Greater ↦ λ is. swapped (is_at q (key k)) (is_at q (key e.0)) (Some v) (Some e.1)
            (found q (insert_entry by_keys es k v)) (found q es) (found_inserted q k v es)
            (λ here there.
            let same = sym (same_from q (key k) here) ∙ same_from q (key e.0) there in
            let tie : slice_cmp nat_cmp (key k) (key e.0) ≡ Equal = ap (slice_cmp nat_cmp (key k)) (sym same)
            ∙ tied_itself nat_list_cmp_total (key k) in
            absurd (cc (is, tie)))
      ] refl

  abbrev IsKeyed : List (K × V) → Type 0
  IsKeyed es = AllByRecursion (λ e. key e.0 ≡ key_of (strings e.1)) es

  keyed_inserted : (k : K) (v : V) (es : List (K × V)) → key k ≡ key_of (strings v) → IsKeyed es
      → IsKeyed (insert_entry by_keys es k v)
  keyed_inserted k v [] is h = (is, tt)
  keyed_inserted k v (e ∷ es) is h =
      elim (by_keys k e.0) as (λ o. by_keys k e.0 ≡ o
      → IsKeyed (match_ordering o ((k, v) ∷ e ∷ es) ((e.0, v) ∷ es) (e ∷ insert_entry by_keys es k v))) [
        | Less ↦ λ o. (is, h)
        | Equal ↦ λ o. (sym (exact_bytes (key k) (key e.0) o) ∙ is, h.1)
        | Greater ↦ λ o. (h.0, keyed_inserted k v es is h.1)
      ] refl

  pub kept_more : (es after : List (K × V)) (k : K) (v : V) (ms : List Strings) → IsMapOf key strings es ms
      → is_some (found (key_of (strings v)) es) ≡ false → key k ≡ key_of (strings v)
      → after ≡ insert_entry by_keys es k v → IsMapOf key strings after (ms ++ strings v ∷ [])
  kept_more es after k v ms h absent is inserted = subst (λ l. IsMapOf key strings l (ms ++ strings v ∷ []))
      (sym inserted) (record {
        keyed = keyed_inserted k v es is h.keyed;
        first = λ q. ap (option_map strings) (found_inserted q k v es) ∙ sym (first_of_more ms (strings v) q
            ∙ sym (elim (is_at q (key k)) as (λ b. is_at q (key k) ≡ b
            → option_map strings (cond b (Some v) (found q es))
            ≡ or_if (first_of ms q) (bytes_eq q (key_of (strings v))) (strings v)) [
              | true ↦ λ e.
                  let same : q ≡ key_of (strings v) = same_from q (key k) e ∙ is in
                  let none : first_of ms q ≡ None = sym (h.first q)
                  ∙ none_mapped strings (found q es) (subst (λ t. is_some (found t es) ≡ false) (sym same) absent) in
                  let yes : bytes_eq q (key_of (strings v)) ≡ true = sym (is_eq-slice_cmp q (key_of (strings v)))
                  ∙ subst (λ t. is_at q t ≡ true) is e in
                  sym (ap (λ o. or_if o (bytes_eq q (key_of (strings v))) (strings v)) none
                  ∙ ap (λ b. cond b (Some (strings v)) None) yes)
              | false ↦ λ e.
                  let no : bytes_eq q (key_of (strings v)) ≡ false = sym (is_eq-slice_cmp q (key_of (strings v)))
                  ∙ subst (λ t. is_at q t ≡ false) is e in
                  sym (ap (λ b. or_if (first_of ms q) b (strings v)) no ∙ or_if_false (first_of ms q) (strings v)
                  ∙ sym (h.first q))
            ] refl));
      })

  -- ---- the values, in the order of their keys

  all_below : (k : K) (s : Strings) (es : List (K × V)) → key k ≡ key_of s → IsKeyed es
      → AllByRecursion (λ j. by_keys k j ≡ Less) (keys_of es)
      → AllByRecursion (λ l. slice_cmp nat_cmp (key_of s) l ≡ Less) (map key_of (map strings (values_of es)))
  all_below k s [] is h below = tt
  all_below k s (e ∷ es) is h below = (
    subst (λ a. slice_cmp nat_cmp a (key_of (strings e.1)) ≡ Less) is
        (subst (λ b. slice_cmp nat_cmp (key k) b ≡ Less) h.0 below.0),
    all_below k s es is h.1 below.1,
  )

  values_rise : (es : List (K × V)) → IsKeyed es → IsStrictlySortedBy by_keys (keys_of es)
      → IsStrictlySortedBy (slice_cmp nat_cmp) (map key_of (map strings (values_of es)))
  unfolding IsStrictlySortedBy
  values_rise [] h sorted = tt
  values_rise (e ∷ es) h sorted = (all_below e.0 (strings e.1) es h.0 h.1 sorted.0, values_rise es h.1 sorted.1)

  values_first : (q : List ℕ) (es : List (K × V)) → IsKeyed es → first_of (map strings (values_of es)) q
      ≡ option_map strings (found q es)
  values_first q [] h = refl
  values_first q (e ∷ es) h =
      let same : bytes_eq q (key_of (strings e.1)) ≡ is_at q (key e.0) = sym (is_eq-slice_cmp q (key_of (strings e.1)))
      ∙ ap (is_at q) (sym h.0) in
      ap (λ b. cond b (Some (strings e.1)) (first_of (map strings (values_of es)) q)) same
      ∙ (elim (is_at q (key e.0)) as (λ b. cond b (Some (strings e.1)) (first_of (map strings (values_of es)) q)
      ≡ option_map strings (cond b (Some e.1) (found q es))) [
        | true ↦ refl
        | false ↦ values_first q es h.1
      ])

  pub of_none : (es : List (K × V)) → es ≡ [] → IsMapOf key strings es []
  of_none es e = subst (λ l. IsMapOf key strings l []) (sym e) (record { keyed = tt; first = λ q. refl })

  pub values_kept : (es : List (K × V)) (ms : List Strings) → IsMapOf key strings es ms
      → IsStrictlySortedBy by_keys (keys_of es) → AreKept ms (map strings (values_of es))
  values_kept es ms h sorted = record {
    rise = values_rise es h.keyed sorted;
    first = λ q. values_first q es h.keyed ∙ h.first q;
  }
