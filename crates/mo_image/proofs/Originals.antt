-- An original and a translation determine a lawful entry, and a lawful entry determines them.
use denote.Ref.{Bor}
use Rattle.std.proofs.Common.{◌≡◌, ◌≢◌, ℕ, zero, suc, ◌+◌, ◌<◌, ◌≤◌, Bool, true, false, cond, not, eqb, ltb, List, []}
use Rattle.std.proofs.Common.{◌∷◌, ◌++◌, length, get_or, map, Option, Some, None, Ordering, refl, sym, ap, ◌∙◌, subst}
use Rattle.std.proofs.Common.{arith, length-append}
use Rattle.std.specs.Prelude.{option_map, IfSome, is_some}
use Rattle.std.specs.Ordering.{nat_cmp, ordering_then}
use Rattle.std.specs.declared.cmp.Ordering.TheVariants.{Less, Equal, Greater}
use Rattle.std.specs.Cmp.Lexicographic.{slice_cmp}
use Rattle.std.specs.FinMap.{nat_cmp-IsAntisymmetric}
use Rattle.std.specs.List.{AllByRecursion, position_or_len, before_first, after_first, join_with_byte}
use Rattle.std.specs.Str.{IsUtf8}
use Rattle.std.proofs.lemmas.Bool.{ltb-true, ltb-false, eqb-true, lt-ltb, eq-eqb, false≢true}
use Rattle.std.proofs.lemmas.List.{take_all, get_or_at}
use Rattle.std.proofs.lemmas.List.Sums.{passes_at_first, split_at_first}
use Rattle.std.proofs.lemmas.List.Splits.{join_with_byte-slice_split}
use Rattle.std.proofs.lemmas.Str.{IsUtf8-append, IsUtf8-nil}
use Rattle.mo_image.specs.Entry.{Entry, key, key_bytes, with_plural, original, translation, LacksByte, IsText}
use Rattle.mo_image.specs.Entry.{IsKeyText, IsLawfulEntry}
use Rattle.mo_image.specs.Parts.{cut, entry_from}
use Rattle.mo_image.specs.Pairs.{key_part, plural_part, entry_of, paired_entries, HasNulAt}
use Rattle.mo_image.proofs.EntryParts.{cut-none, cut-some, key_lacks_nul, entry_again}
use Rattle.mo_image.proofs.KeyParts.{rejoined}

abbrev is : ℕ → ℕ → Bool
is byte b = eqb b byte

abbrev offset : ℕ → List ℕ → ℕ
offset byte text = position_or_len (is byte) text

abbrev holds : ℕ → List ℕ → Bool
holds byte text = ltb (offset byte text) (length text)

-- ---- from a lawful entry to its strings and back

abbrev cut_at : ℕ → List ℕ → Bool → Option (List ℕ × List ℕ)
cut_at byte text test = cond test (Some (before_first (is byte) text, after_first (is byte) text)) None

-- the part before the cut, or the whole
abbrev front : List ℕ → Option (List ℕ × List ℕ) → List ℕ
front text None = text
front text (Some p) = p.0

front_by : (byte : ℕ) (text : List ℕ) (test : Bool) → holds byte text ≡ test → front text (cut_at byte text test)
    ≡ before_first (is byte) text
front_by byte text true e = refl
front_by byte text false e = sym (take_all (offset byte text) text (ltb-false _ _ e))

front_of_cut : (byte : ℕ) (text : List ℕ) → front text (cut byte text) ≡ before_first (is byte) text
front_of_cut byte text = front_by byte text (holds byte text) refl

cut_original : (k : List ℕ) (plural : Option (List ℕ)) → LacksByte 0 k → cut 0 (with_plural k plural)
    ≡ option_map (λ p. (k, p)) plural
cut_original k None lacks = cut-none 0 k lacks
cut_original k (Some plural) lacks = cut-some 0 k plural lacks

front_original : (k : List ℕ) (plural : Option (List ℕ)) → front (with_plural k plural)
    (option_map (λ p. (k, p)) plural) ≡ k
front_original k None = refl
front_original k (Some plural) = refl

pub key_of_original : (k : List ℕ) (plural : Option (List ℕ)) → LacksByte 0 k → key_part (with_plural k plural) ≡ k
key_of_original k plural lacks = sym (front_of_cut 0 (with_plural k plural))
    ∙ ap (front (with_plural k plural)) (cut_original k plural lacks) ∙ front_original k plural

seconds : {Y : Type 0} (o : Option (List ℕ)) (y : Y) → option_map (λ (p : Y × List ℕ). p.1) (option_map (λ c. (y, c)) o)
    ≡ o
seconds None y = refl
seconds (Some x) y = refl

pub plural_of_original : (k : List ℕ) (plural : Option (List ℕ)) → LacksByte 0 k → plural_part (with_plural k plural)
    ≡ plural
plural_of_original k plural lacks = ap (option_map (λ (p : List ℕ × List ℕ). p.1)) (cut_original k plural lacks)
    ∙ seconds plural k

pub entry_again_of : (e : Entry) → IsLawfulEntry e → entry_of (original e) (translation e) ≡ e
entry_again_of e lawful =
    let nul = key_lacks_nul e.context e.id lawful.context lawful.id in
    ap (λ (k : List ℕ). entry_from k (plural_part (original e)) (translation e)) (key_of_original (key e) e.plural nul)
    ∙ ap (λ (p : Option (List ℕ)). entry_from (key e) p (translation e)) (plural_of_original (key e) e.plural nul)
    ∙ entry_again e lawful

pub entries_again : (m : List Entry) → AllByRecursion IsLawfulEntry m
    → paired_entries (map original m) (map translation m)
    ≡ m
entries_again [] each = refl
entries_again (e ∷ m) each =
    ap (λ (x : Entry). x ∷ paired_entries (map original m) (map translation m)) (entry_again_of e each.0)
    ∙ ap (λ (es : List Entry). e ∷ es) (entries_again m each.1)

-- ---- from strings to an entry and back

pub key_is : (o t : List ℕ) → key (entry_of o t) ≡ key_part o
key_is o t = rejoined (key_part o)

plural_again_by : (o : List ℕ) (test : Bool) → holds 0 o ≡ test
    → with_plural (key_part o) (option_map (λ p. p.1) (cut_at 0 o test)) ≡ o
plural_again_by o true e =
    let lt : offset 0 o < length o = ltb-true _ _ e in
    let nul : get_or o (offset 0 o) 0 ≡ 0 = eqb-true _ _ (passes_at_first (is 0) o 0 lt) in
    ap (λ (x : ℕ). key_part o ++ (x ∷ after_first (is 0) o)) (sym nul) ∙ sym (split_at_first (is 0) o 0 lt)
plural_again_by o false e = take_all (offset 0 o) o (ltb-false _ _ e)

pub original_is : (o t : List ℕ) → original (entry_of o t) ≡ o
original_is o t = ap (λ (k : List ℕ). with_plural k (plural_part o)) (key_is o t) ∙ plural_again_by o (holds 0 o) refl

pub translation_is : (o t : List ℕ) → translation (entry_of o t) ≡ t
translation_is o t = join_with_byte-slice_split 0 t

-- ---- the strings of a lawful entry are UTF-8

byte_utf8 : (b : ℕ) (text : List ℕ) → IsUtf8 (b ∷ []) → IsUtf8 text → IsUtf8 (b ∷ text)
byte_utf8 b text u v = IsUtf8-append (b ∷ []) text u v

pub nul_utf8 : IsUtf8 (0 ∷ [])
unfolding lib.Utf8.encode
nul_utf8 = (0 ∷ [], (refl, refl))

separator_utf8 : IsUtf8 (4 ∷ [])
unfolding lib.Utf8.encode
separator_utf8 = (4 ∷ [], (refl, refl))

pub key_utf8 : (context : Option (List ℕ)) (id : List ℕ) → IfSome context IsKeyText → IsKeyText id
    → IsUtf8 (key_bytes context id)
key_utf8 None id c i = i.utf8
key_utf8 (Some context) id c i = IsUtf8-append context (4 ∷ id) c.utf8 (byte_utf8 4 id separator_utf8 i.utf8)

plural_utf8 : (k : List ℕ) (plural : Option (List ℕ)) → IsUtf8 k → IfSome plural IsText → IsUtf8 (with_plural k plural)
plural_utf8 k None u p = u
plural_utf8 k (Some plural) u p = IsUtf8-append k (0 ∷ plural) u (byte_utf8 0 plural nul_utf8 p.utf8)

forms_utf8 : (forms : List (List ℕ)) → AllByRecursion IsText forms → IsUtf8 (join_with_byte 0 forms)
forms_utf8 [] texts = IsUtf8-nil
forms_utf8 (f ∷ []) texts = texts.0.utf8
forms_utf8 (f ∷ g ∷ fs) texts = IsUtf8-append f (0 ∷ join_with_byte 0 (g ∷ fs)) texts.0.utf8
    (byte_utf8 0 (join_with_byte 0 (g ∷ fs)) nul_utf8 (forms_utf8 (g ∷ fs) texts.1))

pub original_utf8 : (e : Entry) → IsLawfulEntry e → IsUtf8 (original e)
original_utf8 e lawful = plural_utf8 (key e) e.plural (key_utf8 e.context e.id lawful.context lawful.id) lawful.plural

pub translation_utf8 : (e : Entry) → IsLawfulEntry e → IsUtf8 (translation e)
translation_utf8 e lawful = forms_utf8 e.forms lawful.forms

-- ---- comparing an original with a msgid

pub parts_again : (o : List ℕ) → with_plural (key_part o) (plural_part o) ≡ o
parts_again o = plural_again_by o (holds 0 o) refl

-- a text that can't be cut at a byte lacks it
pub lacks_from : (byte : ℕ) (text : List ℕ) → length text ≤ offset byte text → LacksByte byte text
lacks_from byte [] le = tt
lacks_from byte (x ∷ xs) le = of (is byte x) refl (λ h. lacks_from byte xs h)
  where
    of : (b : Bool) → is byte x ≡ b → (length xs ≤ offset byte xs → LacksByte byte xs) → LacksByte byte (x ∷ xs)
    of true here rest = absurd (omega (arith, le, ap (λ (b : Bool). cond (not b) (1 + offset byte xs) 0) here))
    of false elsewhere rest = (
      (λ same. false≢true (sym elsewhere ∙ eq-eqb x byte same)),
      rest
          (omega (arith, le, ap (λ (b : Bool). cond (not b) (1 + offset byte xs) 0) elsewhere)),
    )

uncut_by : (byte : ℕ) (text : List ℕ) (test : Bool) → holds byte text ≡ test
    → option_map (λ p. p.1) (cut_at byte text test) ≡ None → LacksByte byte text
uncut_by byte text true e none = absurd cc
uncut_by byte text false e none = lacks_from byte text (ltb-false _ _ e)

pub uncut_at : (byte : ℕ) (text : List ℕ) → cut byte text ≡ None → LacksByte byte text
uncut_at byte text none = uncut_by byte text (holds byte text) refl (ap (option_map (λ p. p.1)) none)

pub uncut : (text : List ℕ) → plural_part text ≡ None → LacksByte 0 text
uncut text none = uncut_by 0 text (holds 0 text) refl none

pub uncut_if : (text : List ℕ) (plural : Option (Bor (List ℕ))) (test : Bool) → option_map (λ s. s.now) plural
    ≡ plural_part text → is_some plural ≡ not test → test ≡ true → LacksByte 0 text
uncut_if text None test e some so = uncut text (sym e)
uncut_if text (Some p) test e some so = absurd (false≢true (sym (some ∙ ap not so)))

by_first : (o p q : Ordering) → (o ≡ Equal → p ≡ q) → ordering_then o p ≡ ordering_then o q
by_first Equal p q h = h refl
by_first _ p q h = refl

one_longer : (x b : ℕ) (k bs : List ℕ) → x ≡ b → k ≡ bs → x ∷ k ≡ b ∷ bs
one_longer x b k bs e f = cc

nul_below : (b : ℕ) → b ≢ 0 → nat_cmp 0 b ≡ Less
nul_below zero some = absurd (some refl)
nul_below (suc b) some = ap (λ (t : Bool). cond t Less (cond (eqb 0 (suc b)) Equal Greater))
    (lt-ltb 0 (suc b) (omega arith))

-- a plural after a key doesn't change how the key compares with any other msgid
cmp_with_plural : (k plural a : List ℕ) → LacksByte 0 a → k ≢ a → slice_cmp nat_cmp (k ++ (0 ∷ plural)) a
    ≡ slice_cmp nat_cmp k a
cmp_with_plural [] plural [] lacks differ = absurd (differ refl)
cmp_with_plural [] plural (b ∷ bs) lacks differ = ap (λ (o : Ordering). ordering_then o (slice_cmp nat_cmp plural bs))
    (nul_below b lacks.0)
cmp_with_plural (x ∷ k) plural [] lacks differ = refl
cmp_with_plural (x ∷ k) plural (b ∷ bs) lacks differ =
    by_first (nat_cmp x b) (slice_cmp nat_cmp (k ++ (0 ∷ plural)) bs) (slice_cmp nat_cmp k bs)
    (λ e. cmp_with_plural k plural bs lacks.1 (λ same. differ
    (one_longer x b k bs (nat_cmp-IsAntisymmetric x b e) same)))

cmp_parts_by : (k : List ℕ) (plural : Option (List ℕ)) (a : List ℕ) → LacksByte 0 a
    → (HasNulAt (with_plural k plural) (length a) → ⊥) → slice_cmp nat_cmp (with_plural k plural) a
    ≡ slice_cmp nat_cmp k a
cmp_parts_by k None a lacks none = refl
cmp_parts_by k (Some plural) a lacks none =
    cmp_with_plural k plural a lacks (λ same. none (record {
      within = omega (arith, ap length same, length-append k (0 ∷ plural));
      nul = get_or_at k 0 plural 0 (length a) (ap length same);
    }))

pub cmp_by_original : (o a : List ℕ) → LacksByte 0 a → (HasNulAt o (length a) → ⊥) → slice_cmp nat_cmp o a
    ≡ slice_cmp nat_cmp (key_part o) a
cmp_by_original o a lacks none =
    let e = parts_again o in
    sym (ap (λ (x : List ℕ). slice_cmp nat_cmp x a) e) ∙ cmp_parts_by (key_part o) (plural_part o) a lacks
    (λ h. none (subst (λ (x : List ℕ). HasNulAt x (length a)) e h))
