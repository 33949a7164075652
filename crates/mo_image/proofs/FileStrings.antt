-- The strings that the tables of a map's file name.
use Rattle.mo_image.proofs.Kit.{◌≡◌, ℕ, zero, suc, ◌+◌, ◌*◌, ◌<◌, ◌≤◌, List, [], ◌∷◌, ◌++◌, length, map, take, drop}
use Rattle.mo_image.proofs.Kit.{get_or, Some, slice_get, refl, sym, ap, ◌∙◌, subst, arith, append_assoc, length-append}
use Rattle.mo_image.proofs.Kit.{slice_index, get_or_at, length-map, append-nil, little_number, Entry, original}
use Rattle.mo_image.proofs.Kit.{translation, pairs, with_nul, pool, header, word_at, string_at}
use Rattle.std.proofs.Common.{◌^◌, lit<}
use Rattle.std.proofs.lemmas.List.{drop_at, take_at}
use Rattle.byteorder.specs.Numbers.{little_number-reads_back}
use Rattle.mo_image.specs.MoFile.{word, file, spelling}
use Rattle.mo_image.proofs.MoLengths.{length-word, length-header, length-pairs}
use Rattle.mo_image.specs.Tables.{strings}

word_read : (n : ℕ) (rest : List ℕ) → n < 2 ^ 32 → little_number 4 (word n ++ rest) ≡ n
unfolding word
word_read n rest small = little_number-reads_back 4 n rest small

-- the word after pre
word_behind : (bytes pre rest : List ℕ) (n offset : ℕ) → bytes ≡ pre ++ (word n ++ rest) → length pre ≡ offset
    → n < 2 ^ 32 → word_at little_number bytes offset ≡ n
word_behind bytes pre rest n offset split len small =
    ap (word_at little_number bytes) (sym len) ∙ ap (λ (b : List ℕ). little_number 4 (drop (length pre) b)) split
    ∙ ap (little_number 4) (drop_at pre (word n ++ rest) (length pre) refl) ∙ word_read n rest small

-- the bytes after pre
part_behind : (bytes pre s rest : List ℕ) (offset : ℕ) → bytes ≡ pre ++ (s ++ rest) → length pre ≡ offset
    → take (length s) (drop offset bytes) ≡ s
part_behind bytes pre s rest offset split len =
    ap (λ (b : List ℕ). take (length s) (drop offset b)) split
    ∙ ap (take (length s)) (drop_at pre (s ++ rest) offset len)
    ∙ take_at s rest (length s) refl

-- the row at this offset names s, which lies in the file followed by a NUL
pub record Names (bytes : List ℕ) (offset : ℕ) (s : List ℕ) : Type 0 where
  pub row : offset + 8 ≤ length bytes
  pub lies : word_at little_number bytes (offset + 4) + word_at little_number bytes offset < length bytes
  pub with_nul : slice_index bytes (word_at little_number bytes (offset + 4) + word_at little_number bytes offset) ≡ 0
  pub string : string_at little_number bytes offset ≡ s

-- the rows from this offset on name these strings
abbrev pub AllNamed : List ℕ → ℕ → List (List ℕ) → Type 0
AllNamed bytes offset [] = Unit {0}
AllNamed bytes offset (s ∷ ss) = Names bytes offset s × AllNamed bytes (offset + 8) ss

pub strings_named : (bytes : List ℕ) (offset : ℕ) (ss : List (List ℕ)) → AllNamed bytes offset ss
    → strings little_number bytes offset (length ss) ≡ ss
strings_named bytes offset [] named = refl
strings_named bytes offset (s ∷ ss) named =
    ap (λ (t : List ℕ). t ∷ strings little_number bytes (offset + 8) (length ss)) named.0.string
    ∙ ap (λ (ts : List (List ℕ)). s ∷ ts) (strings_named bytes (offset + 8) ss named.1)

pub named_at : (bytes : List ℕ) (offset : ℕ) (ss : List (List ℕ)) (i : ℕ) (s : List ℕ) → AllNamed bytes offset ss
    → slice_get ss i ≡ Some s → Names bytes (offset + 8 * i) s
named_at bytes offset [] i s named e = absurd cc
named_at bytes offset (t ∷ ss) zero s named e = let same : t ≡ s = cc in subst (λ (n : ℕ). Names bytes n s)
    (omega arith) (subst (Names bytes offset) same named.0)
named_at bytes offset (t ∷ ss) (suc i) s named e = subst (λ (n : ℕ). Names bytes n s) (omega arith)
    (named_at bytes (offset + 8) ss i s named.1 e)

-- rows and the strings that they name, with anything before, between and after
laid_out : (bytes : List ℕ) (ss : List (List ℕ)) (pre mid post : List ℕ) (at offset : ℕ) → bytes ≡ pre
    ++ (pairs at ss ++ (mid ++ (pool ss ++ post))) → length pre ≡ offset
    → at ≡ offset + length (pairs at ss) + length mid → length bytes < 2 ^ 32 → AllNamed bytes offset ss
laid_out bytes [] pre mid post at offset split len start small = tt
laid_out bytes (s ∷ ss) pre mid post at offset split len start small =
    let tail : List ℕ = pairs (at + length s + 1) ss in
    let pair : List ℕ = word (length s) ++ word at in
    let rest : List ℕ = mid ++ ((with_nul s ++ pool ss) ++ post) in
    let front : List ℕ = pre ++ (pair ++ (tail ++ mid)) in
    let s0 : bytes ≡ pre ++ ((pair ++ tail) ++ rest) = split in
    let s1 : bytes ≡ (pre ++ pair) ++ (tail ++ ((mid ++ with_nul s) ++ (pool ss ++ post))) = s0 ∙ simp append_assoc in
    let s2 : bytes ≡ pre ++ (word (length s) ++ (word at ++ (tail ++ rest))) = s0 ∙ simp append_assoc in
    let s3 : bytes ≡ (pre ++ word (length s)) ++ (word at ++ (tail ++ rest)) = s0 ∙ simp append_assoc in
    let s4 : bytes ≡ front ++ (s ++ ((0 ∷ []) ++ (pool ss ++ post))) = s0 ∙ simp append_assoc in
    let s5 : bytes ≡ (front ++ s) ++ (0 ∷ (pool ss ++ post)) = s4
    ∙ sym (append_assoc front s (0 ∷ (pool ss ++ post))) in
    let w1 = length-word (length s) in
    let w2 = length-word at in
    let lp : length pair ≡ 8 = omega (arith, length-append (word (length s)) (word at)) in
    let l4 : length front ≡ at = simp length-append (omega (arith, length-append pair tail)) in
    let l0 : length bytes ≡ at + (length s + (1 + length (pool ss ++ post))) =
    ap length s4 ∙ length-append front (s ++ ((0 ∷ []) ++ (pool ss ++ post)))
    ∙ omega (arith, l4, length-append s ((0 ∷ []) ++ (pool ss ++ post))) in
    let word_start : word_at little_number bytes (offset + 4)
    ≡ at = word_behind bytes (pre ++ word (length s)) (tail ++ rest) at (offset + 4) s3
    (omega (arith, length-append pre (word (length s)))) (omega (arith, l0, small)) in
    let word_len : word_at little_number bytes offset ≡ length s = word_behind bytes pre (word at ++ (tail ++ rest))
    (length s) offset s2 len (omega (arith, l0, small)) in
    let end : word_at little_number bytes (offset + 4) + word_at little_number bytes offset
    ≡ length (front ++ s) = omega (arith, word_start, word_len, length-append front s, l4) in
    let nul : get_or bytes (length (front ++ s)) 0 ≡ 0 = ap (λ (b : List ℕ). get_or b (length (front ++ s)) 0) s5
    ∙ get_or_at (front ++ s) 0 (pool ss ++ post) 0 (length (front ++ s)) refl in
    let here : Names bytes offset s = record {
      row = omega (arith, l0, length-append pair tail);
      lies = omega (arith, l0, word_start, word_len);
      with_nul = ap (λ (n : ℕ). get_or bytes n 0) end ∙ nul;
      string = rw (word_len, word_start) (part_behind bytes front s ((0 ∷ []) ++ (pool ss ++ post)) at s4 l4);
    } in (
      here,
      laid_out bytes ss (pre ++ pair) (mid ++ with_nul s) post (at + length s + 1) (offset + 8) s1
          (omega (arith, length-append pre pair)) (omega (
            arith,
            length-append pair tail,
            length-append mid (with_nul s),
            length-append s (0 ∷ []),
          )) small,
    )

-- the header's words say what they should, and the tables name the strings
pub record Describes (bytes : List ℕ) (n : ℕ) (os ts : List (List ℕ)) : Type 0 where
  pub long : 28 + 16 * n ≤ length bytes
  pub magic : word_at little_number bytes 0 ≡ 0x950412de
  pub revision : word_at little_number bytes 4 ≡ 0
  pub count : word_at little_number bytes 8 ≡ n
  pub originals_table : word_at little_number bytes 12 ≡ 28
  pub translations_table : word_at little_number bytes 16 ≡ 28 + 8 * n
  pub originals : AllNamed bytes 28 os
  pub translations : AllNamed bytes (28 + 8 * n) ts

file_describes : (n : ℕ) (os ts : List (List ℕ)) → length os ≡ n → length ts ≡ n → length (file n os ts) < 2 ^ 32
    → Describes (file n os ts) n os ts
file_describes n os ts lo lt small =
    let a : ℕ = 28 + 16 * n in
    let b : ℕ = 28 + 16 * n + length (pool os) in
    let rest : List ℕ = pairs a os ++ (pairs b ts ++ (pool os ++ pool ts)) in
    let w0 = word 0x950412de in
    let w1 = word 0 in
    let w2 = word n in
    let w3 = word 28 in
    let w4 = word (28 + 8 * n) in
    let w5 = word 0 in
    let w6 = word (28 + 16 * n) in
    let s0 : file n os ts ≡ header n ++ rest = simp append_assoc in
    let h0 : file n os ts ≡ [] ++ (w0 ++ (w1 ++ (w2 ++ (w3 ++ (w4 ++ (w5 ++ (w6 ++ rest))))))) = s0
    ∙ simp append_assoc in
    let h1 : file n os ts ≡ w0 ++ (w1 ++ (w2 ++ (w3 ++ (w4 ++ (w5 ++ (w6 ++ rest)))))) = s0 ∙ simp append_assoc in
    let h2 : file n os ts ≡ (w0 ++ w1) ++ (w2 ++ (w3 ++ (w4 ++ (w5 ++ (w6 ++ rest))))) = s0 ∙ simp append_assoc in
    let h3 : file n os ts ≡ (w0 ++ (w1 ++ w2)) ++ (w3 ++ (w4 ++ (w5 ++ (w6 ++ rest)))) = s0 ∙ simp append_assoc in
    let h4 : file n os ts ≡ (w0 ++ (w1 ++ (w2 ++ w3))) ++ (w4 ++ (w5 ++ (w6 ++ rest))) = s0 ∙ simp append_assoc in
    let s1 : file n os ts ≡ (header n ++ pairs a os) ++ (pairs b ts ++ (pool os ++ (pool ts ++ []))) = s0
    ∙ simp (append_assoc, append-nil) in
    let total : length (file n os ts) ≡ 28 + (length (pairs a os) +
    (length (pairs b ts) + (length (pool os) + length (pool ts)))) = ap length s0
    ∙ simp (length-append, length-word) in
    let pa = length-pairs a os in
    let pb = length-pairs b ts in
    record {
      long = omega (arith, total, pa, pb, lo, lt);
      magic = word_behind (file n os ts) [] (w1 ++ (w2 ++ (w3 ++ (w4 ++ (w5 ++ (w6 ++ rest)))))) 0x950412de 0 h0 refl
          (lit< tt);
      revision = word_behind (file n os ts) w0 (w2 ++ (w3 ++ (w4 ++ (w5 ++ (w6 ++ rest))))) 0 4 h1
          (length-word 0x950412de) (lit< tt);
      count = word_behind (file n os ts) (w0 ++ w1) (w3 ++ (w4 ++ (w5 ++ (w6 ++ rest)))) n 8 h2
          (simp (length-append, length-word)) (omega (arith, total, pa, lo, small));
      originals_table = word_behind (file n os ts) (w0 ++ (w1 ++ w2)) (w4 ++ (w5 ++ (w6 ++ rest))) 28 12 h3
          (simp (length-append, length-word)) (lit< tt);
      translations_table = word_behind (file n os ts) (w0 ++ (w1 ++ (w2 ++ w3))) (w5 ++ (w6 ++ rest)) (28 + 8 * n) 16 h4
          (simp (length-append, length-word)) (omega (arith, total, pa, lo, small));
      originals = laid_out (file n os ts) os (header n) (pairs b ts) (pool ts) a 28 s0 (length-header n)
          (omega (arith, pa, pb, lo, lt)) small;
      translations = laid_out (file n os ts) ts (header n ++ pairs a os) (pool os) [] b (28 + 8 * n) s1
          (omega (arith, length-append (header n) (pairs a os), length-header n, pa, lo)) (omega (arith, pb, lt)) small;
    }

pub spelling_describes : (m : List Entry) → length (spelling m) < 2 ^ 32
    → Describes (spelling m) (length m) (map original m) (map translation m)
unfolding spelling
spelling_describes m small = file_describes (length m) (map original m) (map translation m) (length-map m original)
    (length-map m translation) small
