-- One step of each loop: what is left of a list after an element more.
use Rattle.std.proofs.Common.{◌≡◌, ℕ, suc, ◌+◌, ◌-◌, ◌*◌, ◌<◌, ◌≤◌, List, [], ◌∷◌, ◌++◌, length, map, drop, take}
use Rattle.std.proofs.Common.{get_or, Some, slice_get, refl, sym, ap, ◌∙◌, subst, arith, length-append}
use Rattle.std.specs.Prelude.{if◌then◌else◌, true, false}
use Rattle.std.specs.List.{AllByRecursion, sum_by}
use Rattle.std.specs.Str.{bytes_eq}
use Rattle.std.proofs.lemmas.List.{drop_more, length-map, length-drop, length-take-le}
use Rattle.std.proofs.lemmas.List.Concat.{flat_map-cons}
use Rattle.std.proofs.lemmas.List.Sums.{sum_by-cons}
use Rattle.std.proofs.lemmas.Option.{get_or_from_slice_get, slice_get_within}
use Rattle.mo_image.specs.MoFile.{word, pairs, with_nul, pool}
use Rattle.mo_image.proofs.Lists.{at_index, slice_get-map}
use Rattle.mo_image.proofs.MoLengths.{length-with_nul}
use Rattle.mo_dependent.specs.Splits.{end_of, name_at, pieces_from, LieFrom, HasSplits, IsSplit, texts, text_of}
use Rattle.mo_dependent.specs.Splits.{text_pool, Split, SplitText, Dependent}
use Rattle.mo_dependent.specs.Segments.{index_of, add_name, names_after, names_of, uses, segment_rows}
use Rattle.mo_dependent.specs.Hashing.{hash_from, hash_step}
use Rattle.mo_dependent.specs.Layout.{descriptor_len, pointers, descriptors, rows, rows_from}

pub drop_found : {X : Type 0} (xs : List X) (i : ℕ) (x : X) → slice_get xs i ≡ Some x → drop i xs ≡ x ∷ drop (i + 1) xs
drop_found xs i x found = drop_more xs i x (slice_get_within xs i x found)
    ∙ ap (λ y. y ∷ drop (i + 1) xs) (get_or_from_slice_get xs i x x found)

pub drop_mapped : {X Y : Type 0} (f : X → Y) (xs : List X) (i : ℕ) (x : X) → slice_get xs i ≡ Some x
    → drop i (map f xs) ≡ f x ∷ drop (i + 1) (map f xs)
drop_mapped f xs i x found = drop_found (map f xs) i (f x) (slice_get-map f xs i x found)

pub hash_next : (key : List ℕ) (i h : ℕ) → i < length key
    → hash_from h (drop i key) ≡ hash_from (hash_step h (get_or key i 0)) (drop (i + 1) key)
hash_next key i h lt = ap (hash_from h) (drop_more key i 0 lt)

-- ---- strings

module _ (ss : List (List ℕ)) (i : ℕ) (s : List ℕ) (left : drop i ss ≡ s ∷ drop (i + 1) ss) where
  pub pool_next : pool (drop i ss) ≡ with_nul s ++ pool (drop (i + 1) ss)
  pool_next = ap pool left ∙ flat_map-cons with_nul s (drop (i + 1) ss)

  pub length-pool_next : length (pool (drop i ss)) ≡ length s + 1 + length (pool (drop (i + 1) ss))
  length-pool_next =
      let both = ap length pool_next ∙ length-append (with_nul s) (pool (drop (i + 1) ss)) in
      omega (arith, both, length-with_nul s)

  pub pairs_next : (at : ℕ) → pairs at (drop i ss)
      ≡ (word (length s) ++ word at) ++ pairs (at + length s + 1) (drop (i + 1) ss)
  pairs_next at = ap (pairs at) left

  pub segments_next : (at : ℕ) → segment_rows at (drop i ss)
      ≡ (word (length s + 1) ++ word at) ++ segment_rows (at + (length s + 1)) (drop (i + 1) ss)
  segments_next at = ap (segment_rows at) left

-- ---- texts

pub length-texts : (messages : List Dependent) → length (texts messages) ≡ 2 * length messages
length-texts messages = omega (
  arith,
  length-append (map (λ m. m.original) messages) (map (λ m. m.translation) messages),
  length-map messages (λ m. m.original),
  length-map messages (λ m. m.translation),
)

module _ (ts : List SplitText) (i : ℕ) (t : SplitText) (found : slice_get ts i ≡ Some t) where
  left : drop i ts ≡ t ∷ drop (i + 1) ts
  left = drop_found ts i t found

  pub texts_next : text_pool (drop i ts) ≡ text_of t ++ text_pool (drop (i + 1) ts)
  texts_next = ap text_pool left ∙ flat_map-cons text_of t (drop (i + 1) ts)

  pub length-texts_next : length (text_pool (drop i ts)) ≡ length (text_of t) + length (text_pool (drop (i + 1) ts))
  length-texts_next = ap length texts_next ∙ length-append (text_of t) (text_pool (drop (i + 1) ts))

  pub lens_next : sum_by descriptor_len (drop i ts) ≡ descriptor_len t + sum_by descriptor_len (drop (i + 1) ts)
  lens_next = ap (sum_by descriptor_len) left ∙ sum_by-cons descriptor_len t (drop (i + 1) ts)

  pub pointers_next : (at : ℕ) → pointers at (drop i ts) ≡ word at ++ pointers (at + descriptor_len t) (drop (i + 1) ts)
  pointers_next at = ap (pointers at) left

  pub descriptors_next : (names : List (List ℕ)) (at : ℕ) → descriptors names at (drop i ts)
      ≡ (word at ++ rows names t) ++ descriptors names (at + length (text_of t)) (drop (i + 1) ts)
  descriptors_next names at = ap (descriptors names at) left

-- ---- splits

-- each split lies in the text
pub lies_to : (text : List ℕ) (from : ℕ) (ss : List Split) → LieFrom text from ss → from ≤ length text
lies_to text from [] lies = lies
lies_to text from (s ∷ ss) lies = omega (arith, lies.0, lies.1, lies_to text (end_of s) ss lies.2)

abbrev pub LiesIn : List ℕ → Split → Type 0
LiesIn text s = (0 < s.len) × (end_of s ≤ length text)

pub all_lie : (text : List ℕ) (from : ℕ) (ss : List Split) → LieFrom text from ss → AllByRecursion (LiesIn text) ss
all_lie text from [] lies = tt
all_lie text from (s ∷ ss) lies = ((lies.1, lies_to text (end_of s) ss lies.2), all_lie text (end_of s) ss lies.2)

-- what is known where a text is cut at a split
pub record AtSplit (text : SplitText) (from i : ℕ) (s : Split) : Type 0 where
  pub begins : from ≤ s.start
  pub some : 0 < s.len
  pub within : end_of s ≤ length text.bytes.items
  pub later : LieFrom text.bytes.items (end_of s) (drop (i + 1) text.splits.items)
  pub lens : length (pieces_from text.bytes.items from (drop i text.splits.items)) ≡ (s.start - from)
      + length (pieces_from text.bytes.items (end_of s) (drop (i + 1) text.splits.items))

module _ (text : SplitText) (from i : ℕ) (s : Split) (found : slice_get text.splits.items i ≡ Some s) where
  abbrev rest : List Split
  rest = drop (i + 1) text.splits.items

  left_splits : drop i text.splits.items ≡ s ∷ rest
  left_splits = drop_found text.splits.items i s found

  pub pieces_next : pieces_from text.bytes.items from (drop i text.splits.items)
      ≡ take (s.start - from) (drop from text.bytes.items) ++ pieces_from text.bytes.items (end_of s) rest
  pieces_next = ap (pieces_from text.bytes.items from) left_splits

  pub rows_next : (names : List (List ℕ)) → rows_from names text.bytes.items from (drop i text.splits.items)
      ≡ (word (s.start - from) ++ word (index_of names (name_at text.bytes.items s)))
      ++ rows_from names text.bytes.items (end_of s) rest
  rows_next names = ap (rows_from names text.bytes.items from) left_splits

  pub at_split : LieFrom text.bytes.items from (drop i text.splits.items) → AtSplit text from i s
  at_split lies =
      let bytes = text.bytes.items in
      let here = subst (LieFrom bytes from) left_splits lies in
      let within = lies_to bytes (end_of s) rest here.2 in
      let room : s.start - from ≤ length (drop from bytes) = omega (arith, length-drop from bytes) in
      record {
        begins = here.0;
        some = here.1;
        within = within;
        later = here.2;
        lens = omega (
          arith,
          ap length pieces_next,
          length-append (take (s.start - from) (drop from bytes)) (pieces_from bytes (end_of s) rest),
          length-take-le (s.start - from) (drop from bytes) room,
        );
      }

-- ---- uses

pub numbered-append : (names a b : List (List ℕ)) → names_after names (a ++ b) ≡ names_after (names_after names a) b
numbered-append names [] b = refl
numbered-append names (n ∷ ns) b = numbered-append (add_name names n) ns b

pub split_at : (messages : List Dependent) (i : ℕ) (m : Dependent) → AllByRecursion IsSplit messages
    → slice_get messages i ≡ Some m → IsSplit m
split_at messages i m each found = at_index IsSplit messages i m each found

pub uses_next : (messages : List Dependent) (i : ℕ) (m : Dependent) → slice_get messages i ≡ Some m
    → uses (drop i messages) ≡ (names_of m.original ++ names_of m.translation) ++ uses (drop (i + 1) messages)
uses_next messages i m found = ap uses (drop_found messages i m found)
    ∙ flat_map-cons (λ x. names_of x.original ++ names_of x.translation) m (drop (i + 1) messages)

-- after one message more
pub message_numbered : (messages : List Dependent) (i : ℕ) (m : Dependent) (names after_original after all
    : List (List ℕ)) → slice_get messages i ≡ Some m
    → names_after names (uses (drop i messages)) ≡ all
    → after_original ≡ names_after names (names_of m.original)
    → after ≡ names_after after_original (names_of m.translation)
    → names_after after (uses (drop (i + 1) messages)) ≡ all
message_numbered messages i m names after_original after all found so_far original translation =
    let rest = uses (drop (i + 1) messages) in
    ap (λ ns. names_after ns rest) (translation ∙ ap (λ ns. names_after ns (names_of m.translation)) original
    ∙ sym (numbered-append names (names_of m.original) (names_of m.translation)))
    ∙ sym (numbered-append names (names_of m.original ++ names_of m.translation) rest)
    ∙ sym (ap (names_after names) (uses_next messages i m found)) ∙ so_far

-- after one use more
pub use_numbered : (text : SplitText) (i : ℕ) (s : Split) (names after all : List (List ℕ))
    → slice_get text.splits.items i ≡ Some s
    → names_after names (drop i (names_of text)) ≡ all
    → after ≡ add_name names (name_at text.bytes.items s)
    → names_after after (drop (i + 1) (names_of text)) ≡ all
use_numbered text i s names after all found so_far added =
    ap (λ ns. names_after ns (drop (i + 1) (names_of text))) added
    ∙ sym (ap (names_after names) (drop_mapped (name_at text.bytes.items) text.splits.items i s found)) ∙ so_far

-- the splits of a text lie in it
pub lies_at : (text : SplitText) (i : ℕ) (s : Split) → HasSplits text → slice_get text.splits.items i ≡ Some s
    → LiesIn text.bytes.items s
lies_at text i s lies found = at_index (LiesIn text.bytes.items) text.splits.items i s
    (all_lie text.bytes.items 0 text.splits.items lies) found

-- each text has its splits
all_mapped : {X : Type 0} (f : Dependent → X) (P : X → Type 0) (ms : List Dependent) → AllByRecursion (λ m. P (f m)) ms
    → AllByRecursion P (map f ms)
all_mapped f P [] each = tt
all_mapped f P (m ∷ ms) each = (each.0, all_mapped f P ms each.1)

all_both : (xs ys : List SplitText) → AllByRecursion HasSplits xs → AllByRecursion HasSplits ys
    → AllByRecursion HasSplits (xs ++ ys)
all_both [] ys x y = y
all_both (s ∷ xs) ys x y = (x.0, all_both xs ys x.1 y)

originals_split : (ms : List Dependent) → AllByRecursion IsSplit ms → AllByRecursion (λ m. HasSplits m.original) ms
originals_split [] each = tt
originals_split (m ∷ ms) each = (each.0.0, originals_split ms each.1)

translations_split : (ms : List Dependent) → AllByRecursion IsSplit ms
    → AllByRecursion (λ m. HasSplits m.translation) ms
translations_split [] each = tt
translations_split (m ∷ ms) each = (each.0.1, translations_split ms each.1)

pub text_split : (ms : List Dependent) (i : ℕ) (t : SplitText) → AllByRecursion IsSplit ms
    → slice_get (texts ms) i ≡ Some t → HasSplits t
text_split ms i t each found = at_index HasSplits (texts ms) i t (all_both (map (λ m. m.original) ms)
    (map (λ m. m.translation) ms) (all_mapped (λ m. m.original) HasSplits ms (originals_split ms each))
    (all_mapped (λ m. m.translation) HasSplits ms (translations_split ms each))) found

-- ---- names

pub index_here : (names : List (List ℕ)) (i : ℕ) (n name : List ℕ) → slice_get names i ≡ Some n
    → bytes_eq n name ≡ true → index_of (drop i names) name ≡ 0
index_here names i n name found same = ap (λ ns. index_of ns name) (drop_found names i n found)
    ∙ ap (λ b. if b then 0 else suc (index_of (drop (i + 1) names) name)) same

pub index_later : (names : List (List ℕ)) (i : ℕ) (n name : List ℕ) → slice_get names i ≡ Some n
    → bytes_eq n name ≡ false → index_of (drop i names) name ≡ suc (index_of (drop (i + 1) names) name)
index_later names i n name found other = ap (λ ns. index_of ns name) (drop_found names i n found)
    ∙ ap (λ b. if b then 0 else suc (index_of (drop (i + 1) names) name)) other
