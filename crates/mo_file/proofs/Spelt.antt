-- A file whose strings follow one another is the one that is written of its map.
use Rattle.std.proofs.Common.{◌≡◌, ℕ, zero, suc, ◌+◌, ◌-◌, ◌*◌, ◌/◌, ◌%◌, ◌^◌, ◌<◌, ◌≤◌, List, [], ◌∷◌, ◌++◌, length}
use Rattle.std.proofs.Common.{take, drop, get_or, refl, sym, ap, ◌∙◌, subst, arith, append_assoc, length-append}
use Rattle.std.proofs.Math.Seq.{drop-cons, drop-length}
use Rattle.std.proofs.lemmas.List.{get_or-drop, take-append-drop, length-drop, drop-drop, append-nil}
use Rattle.std.proofs.lemmas.List.Concat.{flat_map-cons}
use Rattle.byteorder.specs.Endian.{little_number}
use Rattle.catalogue.specs.MoFile.{word, pairs, with_nul, pool, header, file, spelling}
use Rattle.mo_file.specs.Tables.{word_at, string_at, strings}
use Rattle.mo_file.specs.MoReading.{table_at, file_by, StringLies, HasNul, TableLies, AllHaveNul, PassesBelow}
use Rattle.mo_file.specs.declared.fault.MoFault.TheVariants.{Short, Magic, Revision, Bounds, NoNul}
use Rattle.mo_file.specs.Pairs.{named_in}
use Rattle.mo_file.proofs.Named.{at_words, named_words, spelling_named}
use Rattle.mo_file.specs.Behind.{IsInOrder, StandBehind}
use Rattle.mo_tables.proofs.RowLemmas.{first_row, later_rows, length-string}

-- numbers that are bytes
abbrev pub AreBytes : List ℕ → Type 0
AreBytes bytes = (i : ℕ) → get_or bytes i 0 < 256

-- ---- a word that is read and written again

four : (a b c d : ℕ) (rest : List ℕ) → a < 256 → b < 256 → c < 256 → d < 256
    → word (little_number 4 (a ∷ b ∷ c ∷ d ∷ rest)) ++ rest ≡ a ∷ b ∷ c ∷ d ∷ rest
unfolding word
four a b c d rest la lb lc ld =
    let n : ℕ = a + 256 * (b + 256 * (c + 256 * (d + 256 * 0))) in
    let e0 : n % 256 ≡ a = omega (arith, la) in
    let e1 : n / 256 ^ 1 % 256 ≡ b = omega (arith, la, lb) in
    let e2 : n / 256 ^ 2 % 256 ≡ c = omega (arith, la, lb, lc) in
    let e3 : n / 256 ^ 3 % 256 ≡ d = omega (arith, la, lb, lc, ld) in
    rw (e0, e1, e2, e3) refl

words_again : (bytes : List ℕ) → AreBytes bytes → 4 ≤ length bytes → word (little_number 4 bytes) ++ drop 4 bytes
    ≡ bytes
words_again [] each long = absurd (omega (arith, long))
words_again (a ∷ []) each long = absurd (omega (arith, long))
words_again (a ∷ b ∷ []) each long = absurd (omega (arith, long))
words_again (a ∷ b ∷ c ∷ []) each long = absurd (omega (arith, long))
words_again (a ∷ b ∷ c ∷ d ∷ rest) each long = four a b c d rest (each 0) (each 1) (each 2) (each 3)

module _ (bytes : List ℕ) (each : AreBytes bytes) where
  abbrev w : ℕ → ℕ
  w offset = word_at little_number bytes offset

  abbrev at : ℕ → List ℕ
  at offset = string_at little_number bytes offset

  abbrev all : ℕ → ℕ → List (List ℕ)
  all offset n = strings little_number bytes offset n

  behind : (offset : ℕ) → AreBytes (drop offset bytes)
  behind offset i = omega (arith, get_or-drop offset bytes i 0, each (offset + i))

  -- the word at a offset, and what follows it
  word_here : (offset : ℕ) → offset + 4 ≤ length bytes → drop offset bytes ≡ word (w offset) ++ drop (offset + 4) bytes
  word_here offset room =
      sym (words_again (drop offset bytes) (behind offset) (omega (arith, length-drop offset bytes, room)))
      ∙ ap (λ (rest : List ℕ). word (w offset) ++ rest) (drop-drop 4 offset bytes)

  -- the string of the row at a offset with its NUL, and what follows it
  string_here : (offset start : ℕ) → w (offset + 4) ≡ start → StringLies little_number bytes offset
      → HasNul little_number bytes offset
      → drop start bytes ≡ with_nul (at offset) ++ drop (start + w offset + 1) bytes
  string_here offset start is lies nul =
      let len : ℕ = w offset in
      let end : ℕ = start + len in
      let s0 : drop start bytes ≡ take len (drop start bytes)
      ++ drop len (drop start bytes) = sym (take-append-drop len (drop start bytes)) in
      let s1 : take len (drop start bytes) ≡ at offset = ap (λ (k : ℕ). take len (drop k bytes)) (sym is) in
      let s2 : drop len (drop start bytes) ≡ drop end bytes = drop-drop len start bytes in
      let s3 : drop end bytes ≡ get_or bytes end 0 ∷ drop (suc end) bytes = drop-cons bytes end 0
      (omega (arith, lies, is)) in
      let s4 : get_or bytes end 0 ≡ 0 = ap (λ (k : ℕ). get_or bytes (k + len) 0) (sym is) ∙ nul in
      let s5 : suc end ≡ end + 1 = omega arith in
      s0 ∙ ap (λ (s : List ℕ). s ++ drop len (drop start bytes)) s1
      ∙ ap (λ (r : List ℕ). at offset ++ r) (s2 ∙ s3 ∙ ap (λ (b : ℕ). b ∷ drop (suc end) bytes) s4
      ∙ ap (λ (k : ℕ). 0 ∷ drop k bytes) s5)
      ∙ sym (append_assoc (at offset) (0 ∷ []) (drop (end + 1) bytes))

  abbrev Lies : ℕ → ℕ → Type 0
  Lies offset other = StringLies little_number bytes offset

  abbrev Nul : ℕ → ℕ → Type 0
  Nul offset other = HasNul little_number bytes offset

  pub table_again : (offset n start end : ℕ) → offset + 8 * n ≤ length bytes
      → ((i : ℕ) → i < n → Lies (offset + 8 * i) (offset + 8 * i)) → StandBehind bytes offset n start end
      → drop offset bytes ≡ pairs start (all offset n) ++ drop (offset + 8 * n) bytes
  table_again offset zero start end room lies stand = ap (λ (k : ℕ). drop k bytes) (omega arith)
  table_again offset (suc n) start end room lies stand =
      let lie : StringLies little_number bytes offset = first_row Lies offset offset n lies in
      let len : length (at offset) ≡ w offset = length-string little_number bytes offset lie in
      let four : offset + 4 + 4 ≡ offset + 8 = omega arith in
      let next : offset + 8 + 8 * n ≡ offset + 8 * suc n = omega arith in
      let rest : drop (offset + 8) bytes ≡ pairs (start + w offset + 1) (all (offset + 8) n)
      ++ drop (offset + 8 + 8 * n) bytes =
      table_again (offset + 8) n (start + w offset + 1) end (omega (arith, room)) (later_rows Lies offset offset n lies)
      stand.1 in
      let s0 : drop offset bytes ≡ word (w offset) ++ drop (offset + 4) bytes = word_here offset
      (omega (arith, room)) in
      let s1 : drop (offset + 4) bytes ≡ word (w (offset + 4))
      ++ drop (offset + 4 + 4) bytes = word_here (offset + 4) (omega (arith, room)) in
      let s2 : drop (offset + 4) bytes ≡ word start ++ drop (offset + 8) bytes = s1
      ∙ ap (λ (k : ℕ). word k ++ drop (offset + 4 + 4) bytes) stand.0
      ∙ ap (λ (k : ℕ). word start ++ drop k bytes) four in
      let s3 : drop offset bytes ≡ word (length (at offset)) ++
      (word start ++ (pairs (start + length (at offset) + 1) (all (offset + 8) n) ++ drop (offset + 8 * suc n) bytes))
      =
      s0 ∙ ap (λ (r : List ℕ). word (w offset) ++ r) (s2 ∙ ap (λ (r : List ℕ). word start ++ r)
      (rest ∙ ap (λ (k : ℕ). pairs (start + w offset + 1) (all (offset + 8) n) ++ drop k bytes) next))
      ∙ ap (λ (k : ℕ). word k ++ (word start ++ (pairs (start + k + 1) (all (offset + 8) n)
      ++ drop (offset + 8 * suc n) bytes))) (sym len) in
      s3 ∙ simp append_assoc

  pub strings_again : (offset n start end : ℕ) → ((i : ℕ) → i < n → Lies (offset + 8 * i) (offset + 8 * i))
      → ((i : ℕ) → i < n → Nul (offset + 8 * i) (offset + 8 * i)) → StandBehind bytes offset n start end
      → drop start bytes ≡ pool (all offset n) ++ drop end bytes
  strings_again offset zero start end lies nuls stand = ap (λ (k : ℕ). drop k bytes) stand
  strings_again offset (suc n) start end lies nuls stand =
      let here = string_here offset start stand.0 (first_row Lies offset offset n lies)
      (first_row Nul offset offset n nuls) in
      let rest = strings_again (offset + 8) n (start + w offset + 1) end (later_rows Lies offset offset n lies)
      (later_rows Nul offset offset n nuls) stand.1 in
      let split : pool (all offset (suc n)) ≡ with_nul (at offset)
      ++ pool (all (offset + 8) n) = flat_map-cons with_nul (at offset) (all (offset + 8) n) in
      here ∙ ap (λ (r : List ℕ). with_nul (at offset) ++ r) rest
      ∙ sym (append_assoc (with_nul (at offset)) (pool (all (offset + 8) n)) (drop end bytes))
      ∙ ap (λ (p : List ℕ). p ++ drop end bytes) (sym split)

  -- where the strings end
  pub end_is : (offset n start end : ℕ) → StandBehind bytes offset n start end
      → ((i : ℕ) → i < n → Lies (offset + 8 * i) (offset + 8 * i)) → end ≡ start + length (pool (all offset n))
  end_is offset zero start end stand lies = omega (arith, stand)
  end_is offset (suc n) start end stand lies =
      let rest = end_is (offset + 8) n (start + w offset + 1) end stand.1 (later_rows Lies offset offset n lies) in
      let split : pool (all offset (suc n)) ≡ with_nul (at offset)
      ++ pool (all (offset + 8) n) = flat_map-cons with_nul (at offset) (all (offset + 8) n) in
      let len : length (at offset) ≡ w offset = length-string little_number bytes offset
      (first_row Lies offset offset n lies) in
      omega (
        arith,
        rest,
        ap length split,
        length-append (with_nul (at offset)) (pool (all (offset + 8) n)),
        length-append
            (at offset) (0 ∷ []),
        len,
      )

  header_again : (n : ℕ) → 28 ≤ length bytes → w 0 ≡ 0x950412de → w 4 ≡ 0 → w 8 ≡ n → IsInOrder bytes n → bytes
      ≡ header n ++ drop 28 bytes
  header_again n long magic revision count h =
      let s0 = word_here 0 (omega (arith, long)) in
      let s1 = word_here 4 (omega (arith, long)) in
      let s2 = word_here 8 (omega (arith, long)) in
      let s3 = word_here 12 (omega (arith, long)) in
      let s4 = word_here 16 (omega (arith, long)) in
      let s5 = word_here 20 (omega (arith, long)) in
      let s6 = word_here 24 (omega (arith, long)) in
      let all : bytes ≡ word (w 0) ++ (word (w 4) ++ (word (w 8)
      ++ (word (w 12) ++ (word (w 16) ++ (word (w 20) ++ (word (w 24) ++ drop 28 bytes)))))) =
      s0
      ∙ ap (λ (r : List ℕ). word (w 0) ++ r)
      (s1
      ∙ ap (λ (r : List ℕ). word (w 4) ++ r)
      (s2
      ∙ ap (λ (r : List ℕ). word (w 8) ++ r)
      (s3 ∙ ap (λ (r : List ℕ). word (w 12) ++ r) (s4 ∙ ap (λ (r : List ℕ). word (w 16) ++ r)
      (s5 ∙ ap (λ (r : List ℕ). word (w 20) ++ r) s6))))) in
      let F : ℕ → ℕ → ℕ → ℕ → ℕ → ℕ → ℕ → List ℕ = λ a b c d e f g. word a
      ++ (word b ++ (word c ++ (word d ++ (word e ++ (word f ++ (word g ++ drop 28 bytes)))))) in
      all ∙ (λ i. F (magic i) (revision i) (count i) (h.originals i) (h.translations i) (h.slots i) (h.hashes i))
      ∙ simp append_assoc

  -- both tables, and then both lists of strings
  pub whole : (n middle : ℕ) → 28 + 16 * n ≤ length bytes → w 0 ≡ 0x950412de → w 4 ≡ 0 → w 8 ≡ n → IsInOrder bytes n
      → TableLies (table_at little_number bytes 28 n) → TableLies (table_at little_number bytes (28 + 8 * n) n)
      → AllHaveNul (table_at little_number bytes 28 n) → AllHaveNul (table_at little_number bytes (28 + 8 * n) n)
      → StandBehind bytes 28 n (28 + 16 * n) middle → StandBehind bytes (28 + 8 * n) n middle (length bytes) → bytes
      ≡ file n (all 28 n) (all (28 + 8 * n) n)
  whole n middle room magic revision count order ol tl oc tc os ts =
      let a : ℕ = 28 + 16 * n in
      let mid : middle ≡ a + length (pool (all 28 n)) = end_is 28 n a middle os ol.strings in
      let h0 : bytes ≡ header n ++ drop 28 bytes = header_again n (omega (arith, room)) magic revision count order in
      let h1 : drop 28 bytes ≡ pairs a (all 28 n) ++ drop (28 + 8 * n) bytes = table_again 28 n a middle
      (omega (arith, room)) ol.strings os in
      let h2 : drop (28 + 8 * n) bytes ≡ pairs middle (all (28 + 8 * n) n)
      ++ drop (28 + 8 * n + 8 * n) bytes = table_again (28 + 8 * n) n middle (length bytes) (omega (arith, room))
      tl.strings ts in
      let both : 28 + 8 * n + 8 * n ≡ a = omega arith in
      let h3 : drop a bytes ≡ pool (all 28 n) ++ drop middle bytes = strings_again 28 n a middle ol.strings oc.each os
      in
      let h4 : drop middle bytes ≡ pool (all (28 + 8 * n) n)
      ++ drop (length bytes) bytes = strings_again (28 + 8 * n) n middle (length bytes) tl.strings tc.each ts in
      let none : drop (length bytes) bytes ≡ [] = drop-length bytes in
      let strings_are : drop (28 + 8 * n + 8 * n) bytes ≡ pool (all 28 n) ++ pool (all (28 + 8 * n) n) =
      ap (λ (k : ℕ). drop k bytes) both ∙ h3 ∙ ap (λ (r : List ℕ). pool (all 28 n) ++ r)
      (h4 ∙ ap (λ (r : List ℕ). pool (all (28 + 8 * n) n) ++ r) none ∙ append-nil (pool (all (28 + 8 * n) n))) in
      h0
      ∙ ap (λ (r : List ℕ). header n ++ r)
      (h1
      ∙ ap (λ (r : List ℕ). pairs a (all 28 n) ++ r)
      (h2 ∙ ap (λ (r : List ℕ). pairs middle (all (28 + 8 * n) n) ++ r) strings_are
      ∙ ap (λ (k : ℕ). pairs k (all (28 + 8 * n) n) ++ (pool (all 28 n) ++ pool (all (28 + 8 * n) n))) mid))
      ∙ simp append_assoc

-- the tables lie in the file
pub tables_room : (bytes : List ℕ) (n : ℕ) → 28 ≤ length bytes → TableLies (table_at little_number bytes (28 + 8 * n) n)
    → 28 + 16 * n ≤ length bytes
tables_room bytes zero long lies = omega (arith, long)
tables_room bytes (suc n) long lies = omega (arith, lies.rows (omega arith))

-- what a loop over the rows has seen
pub none_seen : (bytes : List ℕ) (table n end last : ℕ) → StandBehind bytes (table + 8 * 0) (n - 0) end last
    → StandBehind bytes table n end last
none_seen bytes table n end last stand =
    let P : ℕ → Type 0 = λ p. StandBehind bytes p n end last in
    let Q : ℕ → Type 0 = λ k. StandBehind bytes (table + 8 * 0) k end last in
    subst P (omega arith) (subst Q (omega arith) stand)

pub one_behind : (bytes : List ℕ) (table n i start end len last : ℕ) → {word : ℕ} → i < n → word
    ≡ word_at little_number bytes (table + 8 * i + 4) → word ≡ end → len ≡ word_at little_number bytes (table + 8 * i)
    → StandBehind bytes (table + 8 * (i + 1)) (n - (i + 1)) (end + (len + 1)) last
    → StandBehind bytes (table + 8 * i) (n - i) end last
one_behind bytes table n i start end len last lt is at long rest =
    let left : n - i ≡ suc (n - (i + 1)) = omega (arith, lt) in
    let next : table + 8 * (i + 1) ≡ table + 8 * i + 8 = omega arith in
    let behind : end + (len + 1) ≡ end + word_at little_number bytes (table + 8 * i) + 1 = omega (arith, long) in
    let P : ℕ → Type 0 = λ k. StandBehind bytes (table + 8 * i) k end last in
    let Q : ℕ → Type 0 = λ p. StandBehind bytes p (n - (i + 1)) (end + word_at little_number bytes (table + 8 * i) + 1)
    last in
    let R : ℕ → Type 0 = λ e. StandBehind bytes (table + 8 * (i + 1)) (n - (i + 1)) e last in
    subst P (sym left) (sym is ∙ at, subst Q next (subst R behind rest))

pub all_seen : (bytes : List ℕ) (table n i end : ℕ) → n ≤ i → StandBehind bytes (table + 8 * i) (n - i) end end
all_seen bytes table n i end le =
    let P : ℕ → Type 0 = λ k. StandBehind bytes (table + 8 * i) k end end in
    let none : 0 ≡ n - i = omega (arith, le) in
    subst P none refl

-- ---- a file that meets no refusal and is in order

module _ (bytes : List ℕ) (n : ℕ) (passed : PassesBelow (file_by little_number bytes) 12)
    (count : n ≡ word_at little_number bytes 8) (order : IsInOrder bytes n) where
  pub originals_lie : TableLies (table_at little_number bytes 28 n)
  originals_lie = at_words (λ a n. TableLies (table_at little_number bytes a n)) _ _ _ _ (sym order.originals)
      count (passed Bounds (omega arith)).0

  pub translations_lie : TableLies (table_at little_number bytes (28 + 8 * n) n)
  translations_lie = at_words (λ a n. TableLies (table_at little_number bytes a n)) _ _ _ _ (sym order.translations)
      count (passed Bounds (omega arith)).1

  originals_have_nul : AllHaveNul (table_at little_number bytes 28 n)
  originals_have_nul = at_words (λ a n. AllHaveNul (table_at little_number bytes a n)) _ _ _ _
      (sym order.originals)
      count (passed NoNul (omega arith)).0

  translations_have_nul : AllHaveNul (table_at little_number bytes (28 + 8 * n) n)
  translations_have_nul = at_words (λ a n. AllHaveNul (table_at little_number bytes a n)) _ _ _ _
      (sym order.translations)
      count (passed NoNul (omega arith)).1

  pub room : 28 + 8 * n + 8 * n ≤ length bytes
  room = omega (arith, tables_room bytes n (passed Short (omega arith)) translations_lie)

  pub own_file : (middle end : ℕ) → AreBytes bytes → StandBehind bytes 28 n (28 + 8 * n + 8 * n) middle
      → StandBehind bytes (28 + 8 * n) n middle end → end ≡ length bytes → bytes
      ≡ spelling (named_in little_number bytes)
  own_file middle end each os ts all =
      let start : 28 + 8 * n + 8 * n ≡ 28 + 16 * n = omega arith in
      let Q : ℕ → Type 0 = λ a. StandBehind bytes 28 n a middle in
      let R : ℕ → Type 0 = λ e. StandBehind bytes (28 + 8 * n) n middle e in
      let spelt = whole bytes each n middle (omega (arith, room)) (passed Magic (omega arith))
      (passed Revision (omega arith)) (sym count) order originals_lie translations_lie originals_have_nul
      translations_have_nul (subst Q start os) (subst R all ts) in
      spelt ∙ sym (spelling_named little_number bytes 28 (28 + 8 * n) n)
      ∙ ap spelling (named_words little_number bytes 28 (28 + 8 * n) n (sym order.originals)
      (sym order.translations) count)
