-- The rows of two tables, one after another: the translations of originals without a plural.
use Rattle.mo_tables.proofs.Kit.{◌≡◌, ℕ, ◌+◌, ◌<◌, List, [], ◌∷◌, ◌++◌, length, take, get_or, cond, eqb, Bool, true}
use Rattle.mo_tables.proofs.Kit.{false, ◌≤◌, Some, None, refl, sym, ap, ◌∙◌, subst, arith, eqb-true, eq-eqb, All}
use Rattle.mo_tables.proofs.Kit.{IsUtf8, Row, Span, HasFewSeparators, text_in, nuls, HasTexts, HasForms, RowLies}
use Rattle.std.proofs.lemmas.List.{take_more, append-nil}
use Rattle.std.proofs.lemmas.List.Elements.{filter_map-append, All-nil, All-cons, All-tail}
use Rattle.std.specs.List.{filter_map, cons_option}
use Rattle.std.specs.List.Sorted.{IsPermutation}
use Rattle.std.proofs.lemmas.List.Sorted.{All-permutation, IsPermutation-sym}
use Rattle.mo_tables.specs.Rows.{single_translation, LiesIn}

not_true : (b : Bool) → (b ≡ true → ⊥) → b ≡ false
not_true true h = absurd (h refl)
not_true false h = refl

next : (bytes : List ℕ) (rows : List Row) (i : ℕ) (d : Row) → i < length rows
    → filter_map (single_translation bytes) (take (i + 1) rows)
    ≡ filter_map (single_translation bytes) (take i rows)
    ++ filter_map (single_translation bytes) (get_or rows i d ∷ [])
next bytes rows i d lt = ap (filter_map (single_translation bytes)) (take_more rows i d lt)
    ∙ filter_map-append (single_translation bytes) (take i rows) (get_or rows i d ∷ [])

-- an original without a plural
pub one_more : (bytes : List ℕ) (rows : List Row) (i : ℕ) (d : Row) → i < length rows
    → nuls (text_in bytes (get_or rows i d).original) ≡ 0
    → filter_map (single_translation bytes) (take (i + 1) rows)
    ≡ filter_map (single_translation bytes) (take i rows) ++ (get_or rows i d).translation ∷ []
one_more bytes rows i d lt none = next bytes rows i d lt
    ∙ ap (λ b. filter_map (single_translation bytes) (take i rows) ++ cons_option (cond b (Some
    (get_or rows i d).translation) None) [])
    (eq-eqb _ 0 none)

-- an original with a plural
pub no_more : (bytes : List ℕ) (rows : List Row) (i : ℕ) (d : Row) → i < length rows
    → 0 < nuls (text_in bytes (get_or rows i d).original)
    → filter_map (single_translation bytes) (take (i + 1) rows) ≡ filter_map (single_translation bytes) (take i rows)
no_more bytes rows i d lt some =
    let other : eqb (nuls (text_in bytes (get_or rows i d).original)) 0 ≡ false =
    not_true _ (λ e. omega (arith, some, eqb-true (nuls (text_in bytes (get_or rows i d).original)) 0 e)) in
    next bytes rows i d lt
    ∙ ap (λ b. filter_map (single_translation bytes) (take i rows) ++ cons_option (cond b (Some
    (get_or rows i d).translation) None) []) other
    ∙ append-nil _

-- ---- the rows in another order

pub there : {X : Type 0} (P : X → Type 0) (xs ys : List X) → IsPermutation xs ys → All P xs → All P ys
there P xs ys moved = All-permutation P xs ys moved

pub back : {X : Type 0} (P : X → Type 0) (xs ys : List X) → IsPermutation xs ys → All P ys → All P xs
back P xs ys moved = All-permutation P ys xs (IsPermutation-sym xs ys moved)

-- ---- tests of rows

abbrev pub OriginalUtf8 : List ℕ → Row → Type 0
OriginalUtf8 bytes row = IsUtf8 (text_in bytes row.original)

abbrev pub FewSeparators : List ℕ → Row → Type 0
FewSeparators bytes row = HasFewSeparators (text_in bytes row.original)

abbrev pub TranslationUtf8 : List ℕ → Row → Type 0
TranslationUtf8 bytes row = IsUtf8 (text_in bytes row.translation)

pub texts : (bytes : List ℕ) (rs : List Row) → All (OriginalUtf8 bytes) rs → All (FewSeparators bytes) rs
    → All (TranslationUtf8 bytes) rs → All (HasTexts bytes) rs
texts bytes rs originals few translations k d lt = (
  record { utf8 = originals k d lt; separators = few k d lt },
  record { utf8 = translations k d lt },
)

abbrev pub Once : List ℕ → Row → Type 0
Once bytes row = nuls (text_in bytes row.original) ≤ 1

abbrev pub OneForm : List ℕ → Span → Type 0
OneForm bytes span = nuls (text_in bytes span) ≡ 0

abbrev pub Alone : List ℕ → Row → Type 0
Alone bytes row = nuls (text_in bytes row.original) ≡ 0 → nuls (text_in bytes row.translation) ≡ 0

alone_by : (bytes : List ℕ) (r : Row) (rest : List Span) (b : Bool) → eqb (nuls (text_in bytes r.original)) 0 ≡ b
    → All (OneForm bytes) (cons_option (cond (eqb (nuls (text_in bytes r.original)) 0) (Some r.translation) None) rest)
    → Alone bytes r × All (OneForm bytes) rest
alone_by bytes r rest true e all =
    let there : All (OneForm bytes) (r.translation ∷ rest) = subst (All (OneForm bytes))
    (ap (λ b. cons_option (cond b (Some r.translation) None) rest) e) all in
    (λ none. there 0 r.translation (omega arith), All-tail (OneForm bytes) r.translation rest there)
alone_by bytes r rest false e all =
    let there : All (OneForm bytes) rest = subst (All (OneForm bytes))
    (ap (λ b. cons_option (cond b (Some r.translation) None) rest) e) all in
    (λ none. (let yes : eqb (nuls (text_in bytes r.original)) 0 ≡ true = eq-eqb _ 0 none in absurd cc), there)

forms_by : (bytes : List ℕ) (r : Row) (rest : List Span) (b : Bool) → eqb (nuls (text_in bytes r.original)) 0 ≡ b
    → Alone bytes r → All (OneForm bytes) rest
    → All (OneForm bytes) (cons_option (cond (eqb (nuls (text_in bytes r.original)) 0) (Some r.translation) None) rest)
forms_by bytes r rest true e one all = subst (All (OneForm bytes))
    (sym (ap (λ b. cons_option (cond b (Some r.translation) None) rest) e))
    (All-cons (OneForm bytes) r.translation rest (one (eqb-true _ 0 e)) all)
forms_by bytes r rest false e one all = subst (All (OneForm bytes))
    (sym (ap (λ b. cons_option (cond b (Some r.translation) None) rest) e)) all

-- the translations of originals without a plural have one form
pub alone_from : (bytes : List ℕ) (rs : List Row) → All (OneForm bytes) (filter_map (single_translation bytes) rs)
    → All (Alone bytes) rs
alone_from bytes [] all = All-nil (Alone bytes)
alone_from bytes (r ∷ rs) all =
    let both = alone_by bytes r (filter_map (single_translation bytes) rs) (eqb (nuls (text_in bytes r.original)) 0)
    refl all in
    All-cons (Alone bytes) r rs both.0 (alone_from bytes rs both.1)

pub alone_to : (bytes : List ℕ) (rs : List Row) → All (Alone bytes) rs
    → All (OneForm bytes) (filter_map (single_translation bytes) rs)
alone_to bytes [] all = All-nil (OneForm bytes)
alone_to bytes (r ∷ rs) all = forms_by bytes r (filter_map (single_translation bytes) rs) (eqb (nuls
    (text_in bytes r.original)) 0) refl
    (all 0 r (omega arith)) (alone_to bytes rs (All-tail (Alone bytes) r rs all))

lies_by : (bytes : List ℕ) (r : Row) (rest : List Span) → All (LiesIn bytes) rest → LiesIn bytes r.translation
    → (b : Bool)
    → All (LiesIn bytes) (cons_option (cond b (Some r.translation) None) rest)
lies_by bytes r rest all here true = All-cons (LiesIn bytes) r.translation rest here all
lies_by bytes r rest all here false = all

-- those translations lie in the file
pub alone_lie : (bytes : List ℕ) (rs : List Row) → All (RowLies bytes) rs
    → All (LiesIn bytes) (filter_map (single_translation bytes) rs)
alone_lie bytes [] all = All-nil (LiesIn bytes)
alone_lie bytes (r ∷ rs) all = lies_by bytes r (filter_map (single_translation bytes) rs)
    (alone_lie bytes rs (All-tail (RowLies bytes) r rs all)) (all 0 r (omega arith)).1
    (eqb (nuls (text_in bytes r.original)) 0)

pub forms : (bytes : List ℕ) (rs : List Row) → All (Once bytes) rs → All (Alone bytes) rs → All (HasForms bytes) rs
forms bytes rs once all k d lt = record { plurals = once k d lt; alone = all k d lt }
