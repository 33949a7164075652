-- Clean bytes, and what stays UTF-8 when a string is decoded.
use Rattle.po_text.proofs.Kit.{◌≡◌, ℕ, zero, suc, ◌+◌, ◌<◌, Bool, true, false, cond, None, Some, List, [], ◌∷◌}
use Rattle.po_text.proofs.Kit.{◌++◌, length, get_or, take, drop, refl, sym, ap, ◌∙◌, subst, arith, inl, inr, one-add}
use Rattle.po_text.proofs.Kit.{append-nil, length-append, ne_eqb, AllByRecursion, prefix_len, prefix_len_passes}
use Rattle.po_text.proofs.Kit.{take_while, has_four, IsLawful, Plain, Escape, Octal, escaped_byte, is_octal, is_plain}
use Rattle.std.proofs.Common.{add-zero}
use Rattle.std.specs.Prelude.{◌==◌}
use Rattle.std.specs.Str.{IsUtf8, IsCharBoundary}
use Rattle.std.proofs.Math.Seq.{take-append_seam, drop-append-add}
use Rattle.std.proofs.lemmas.Bool.{cases_lt}
use Rattle.std.proofs.lemmas.Bool.Decides.{nat_tests}
use Rattle.std.proofs.lemmas.List.{get_or-append-add, get_or-take, length-take}
use Rattle.std.proofs.lemmas.Str.{IsCharBoundary-after_ascii, IsCharBoundary-before_ascii, IsUtf8-append, IsUtf8-drop}
use Rattle.std.proofs.lemmas.Str.{IsUtf8-from_ascii, IsUtf8-nil, IsUtf8-take}
use Rattle.std.proofs.lemmas.Str.Ascii.{IsAscii-from_reads}
use Rattle.po_text.specs.Clean.{IsClean, IsTextByte, KeepsClean, StopsAscii, is_clean}
use Rattle.po_text.specs.Lexing.{ReadsUnit}
use Rattle.po_text.specs.Spelling.{octal_run}

-- ---- bytes

clean_text : (b : ℕ) → is_clean b ≡ true → IsTextByte b
clean_text b e = (
  (λ is. let f : is_clean 0 ≡ true = subst (λ (c : ℕ). is_clean c ≡ true) is e in absurd (cc f)),
  (λ is. let f : is_clean 4 ≡ true = subst (λ (c : ℕ). is_clean c ≡ true) is e in absurd (cc f)),
)

pub clean_plain : (b : ℕ) → is_clean b ≡ true → is_plain b ≡ true
clean_plain b e = grind (arith, nat_tests)

unclean_ascii : (b : ℕ) → is_clean b ≡ false → b < 128
unclean_ascii b e = grind (arith, nat_tests)

-- ---- runs of clean bytes

pub clean_front : (text : List ℕ) → IsClean (take (prefix_len is_clean text) text)
clean_front text k lt =
    let in_run : k < prefix_len is_clean text = omega (arith, length-take (prefix_len is_clean text) text) in
    rw (get_or-take (prefix_len is_clean text) text k 0 in_run)
    (clean_text (get_or text k 0) (prefix_len_passes is_clean text k 0 in_run))

stops_from : (b : ℕ) (more : List ℕ) (t : Bool) → is_clean b ≡ t → StopsAscii (drop (prefix_len is_clean more) more)
    → StopsAscii (drop (cond t (1 + prefix_len is_clean more) 0) (b ∷ more))
stops_from b more true e behind = rw one-add behind
stops_from b more false e behind = unclean_ascii b e

pub stops_behind : (text : List ℕ) → StopsAscii (drop (prefix_len is_clean text) text)
stops_behind [] = tt
stops_behind (b ∷ more) = stops_from b more (is_clean b) refl (stops_behind more)

-- ---- clean bytes

clean_append : (a b : List ℕ) → IsClean a → IsClean b → IsClean (a ++ b)
clean_append [] b p q k lt = q k lt
clean_append (x ∷ a) b p q zero lt = p 0 (omega arith)
clean_append (x ∷ a) b p q (suc k) lt = clean_append a b (λ j l. p (suc j) (omega arith)) q k (omega arith)

clean_one : (value : ℕ) → IsTextByte value → IsClean (value ∷ [])
clean_one value is zero lt = is
clean_one value is (suc k) lt = absurd (omega arith)

pub clean_lawful : (bytes : List ℕ) → IsClean bytes → IsUtf8 bytes → IsLawful bytes
clean_lawful bytes clean utf8 = record {
  no_nul = λ (k, lt, is). (clean k lt).0 is;
  utf8 = utf8;
}

pub no_four : (bytes : List ℕ) → IsClean bytes → has_four bytes ≡ false
no_four [] clean = refl
no_four (b ∷ bytes) clean =
    rw (ne_eqb 4 b (λ e. (clean 0 (omega arith)).1 (sym e))) (no_four bytes (λ k lt. clean (suc k) (omega arith)))

-- ---- where UTF-8 is cut

before_ascii : (x : List ℕ) (b : ℕ) (rest : List ℕ) → b < 128 → IsUtf8 (x ++ (b ∷ rest))
    → IsCharBoundary (x ++ (b ∷ rest)) (length x)
before_ascii x b rest small utf8 =
    let bs : List ℕ = x ++ (b ∷ rest) in
    let read : get_or bs (length x) 0 ≡ b = ap (λ (n : ℕ). get_or bs n 0) (sym (add-zero (length x)))
    ∙ get_or-append-add x (b ∷ rest) 0 0 in
    IsCharBoundary-before_ascii bs (length x) (omega (arith, length-append x (b ∷ rest))) (rw read small)

-- before an ASCII byte
pub cut_utf8 : (x rest : List ℕ) → StopsAscii rest → IsUtf8 (x ++ rest) → IsUtf8 x × IsUtf8 rest
cut_utf8 x [] stops utf8 = (subst IsUtf8 (append-nil x) utf8, IsUtf8-nil)
cut_utf8 x (b ∷ rest) stops utf8 =
    let at = before_ascii x b rest stops utf8 in
    let behind : drop (length x) (x ++ (b ∷ rest)) ≡ b ∷ rest
    = ap (λ (n : ℕ). drop n (x ++ (b ∷ rest))) (sym (add-zero (length x))) ∙ drop-append-add x (b ∷ rest) 0 in (
      subst IsUtf8 (take-append_seam x (b ∷ rest)) (IsUtf8-take (x ++ (b ∷ rest)) (length x) utf8 at),
      subst IsUtf8 behind (IsUtf8-drop (x ++ (b ∷ rest)) (length x) utf8 at),
    )

behind_byte : (b : ℕ) (rest : List ℕ) → b < 128 → IsUtf8 (b ∷ rest) → IsUtf8 rest
behind_byte b rest small utf8 =
    IsUtf8-drop (b ∷ rest) 1 utf8 (IsCharBoundary-after_ascii (b ∷ rest) 0 utf8 (omega arith) small)

behind_bytes : (x rest : List ℕ) → AllByRecursion (λ b. b < 128) x → IsUtf8 (x ++ rest) → IsUtf8 rest
behind_bytes [] rest small utf8 = utf8
behind_bytes (b ∷ x) rest small utf8 = behind_bytes x rest small.1 (behind_byte b (x ++ rest) small.0 utf8)

escaped_small : (c v : ℕ) → escaped_byte c ≡ Some v → c < 128
escaped_small c v e = elim (cases_lt c 128) [
  | inl small ↦ small
  | inr large ↦
      let no : (k : ℕ) → k < 128 → (c == k) ≡ false = λ k lt. ne_eqb c k (λ is. omega (arith, is)) in
      let none : escaped_byte c ≡ None = rw (
        no 110 (omega arith),
        no 116 (omega arith),
        no 98 (omega arith),
        no 114 (omega arith),
        no 102 (omega arith),
        no 118 (omega arith),
        no 97 (omega arith),
        no 92 (omega arith),
        no 34 (omega arith),
      ) refl in
      absurd (cc (none, e))
]

octal_small : (b : ℕ) → is_octal b ≡ true → b < 128
octal_small b e = grind (arith, nat_tests)

digits_from : (b : ℕ) (more : List ℕ) (t : Bool) → is_octal b ≡ t
    → AllByRecursion (λ c. c < 128) (take (prefix_len is_octal more) more)
    → AllByRecursion (λ c. c < 128) (take (cond t (1 + prefix_len is_octal more) 0) (b ∷ more))
digits_from b more true e behind = rw one-add (octal_small b e, behind)
digits_from b more false e behind = tt

digits_small : (text : List ℕ) → AllByRecursion (λ b. b < 128) (take_while is_octal text)
digits_small [] = tt
digits_small (b ∷ more) = digits_from b more (is_octal b) refl (digits_small more)

behind_unit : (text rest : List ℕ) (value : ℕ) → ReadsUnit text value rest → value < 128 → IsUtf8 text → IsUtf8 rest
unfolding octal_run
behind_unit text rest value (Plain b, at, is) small utf8 =
    behind_byte b rest (omega (arith, is)) (subst IsUtf8 at.0 utf8)
behind_unit text rest value (Escape c v, at, is) small utf8 =
    behind_bytes (92 ∷ c ∷ []) rest (omega arith, (escaped_small c v at.1, tt)) (subst IsUtf8 at.0 utf8)
behind_unit text rest value (Octal digits, at, is) small utf8 =
    let all = subst (AllByRecursion (λ b. b < 128)) at.1 (digits_small (take 3 (digits ++ rest))) in
    behind_bytes (92 ∷ digits) rest (omega arith, all) (subst IsUtf8 at.0 utf8)

-- ---- what a loop has decoded

one_read : (value k : ℕ) → value < 128 → k < 1 → get_or (value ∷ []) k 0 < 128
one_read value zero small lt = small
one_read value (suc k) small lt = absurd (omega arith)

one_utf8 : (value : ℕ) → value < 128 → IsUtf8 (value ∷ [])
one_utf8 value small = IsUtf8-from_ascii (value ∷ []) (IsAscii-from_reads (value ∷ []) 1 (omega arith)
    (λ k lt. one_read value k small lt))

pub keeps_none : (text old : List ℕ) → KeepsClean text text old old
keeps_none text old = record { clean = λ c. c; tail = λ u. u; utf8 = λ u o. o }

-- a unit whose value is ASCII, and neither NUL nor byte 4
pub keeps_unit : (text rest old mid new behind : List ℕ) (value : ℕ) → KeepsClean text rest old mid
    → ReadsUnit rest value behind → IsTextByte value → value < 128 → new ≡ mid ++ value ∷ []
    → KeepsClean text behind old new
keeps_unit text rest old mid new behind value keeps unit text_byte small is = record {
  clean = λ c. rw is (clean_append mid (value ∷ []) (keeps.clean c) (clean_one value text_byte));
  tail = λ utf8. behind_unit rest behind value unit small (keeps.tail utf8);
  utf8 = λ utf8 o. rw is (IsUtf8-append mid (value ∷ []) (keeps.utf8 utf8 o) (one_utf8 value small));
}

-- a run of clean bytes
pub keeps_run : (text rest old mid new run after : List ℕ) → KeepsClean text rest old mid → rest ≡ run ++ after
    → IsClean run → StopsAscii after → new ≡ mid ++ run → KeepsClean text after old new
keeps_run text rest old mid new run after keeps parts clean stops is =
    let cut : IsUtf8 text → IsUtf8 run × IsUtf8 after = λ utf8. cut_utf8 run after stops
    (subst IsUtf8 parts (keeps.tail utf8)) in
    record {
      clean = λ c. rw is (clean_append mid run (keeps.clean c) clean);
      tail = λ utf8. (cut utf8).1;
      utf8 = λ utf8 o. rw is (IsUtf8-append mid run (keeps.utf8 utf8 o) (cut utf8).0);
    }
