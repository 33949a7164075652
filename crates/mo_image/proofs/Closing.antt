-- Texts with the NUL after them: in a file, and the forms of an entry.
use Rattle.mo_image.proofs.Kit.{◌≡◌, ℕ, zero, suc, ◌+◌, ◌<◌, List, [], ◌∷◌, ◌++◌, length, take, drop, get_or, eqb}
use Rattle.mo_image.proofs.Kit.{Option, Some, None, slice_get, refl, sym, ap, ◌∙◌, subst, arith, append_assoc, IfSome}
use Rattle.mo_image.proofs.Kit.{slice_index, AllByRecursion, join_with_byte, slice_split, IsUtf8, eqb-true, length-drop}
use Rattle.mo_image.proofs.Kit.{length-take-le, join_with_byte-slice_split, passes_at_first, little_number, offset_of}
use Rattle.mo_image.proofs.Kit.{Entry, IsLawfulEntry, LacksByte, IsNamedAt, NamesText, with_nul, pool, entry_of}
use Rattle.mo_image.proofs.Kit.{word_at}
use Rattle.std.proofs.Common.{◌-◌}
use Rattle.std.specs.Prelude.{◌==◌}
use Rattle.std.proofs.lemmas.List.{take_more, get_or-drop}
use Rattle.std.proofs.lemmas.List.Splits.{length-slice_split}
use Rattle.std.proofs.lemmas.Str.{IsUtf8-append}
use Rattle.byte_text.specs.Cut.{cut, IsCut}
use Rattle.mo_image.specs.Entry.{HasForms}
use Rattle.mo_image.specs.Extents.{piece, HoldsWithNul}
use Rattle.mo_image.specs.Lent.{IsCutWithNul}
use Rattle.mo_image.specs.declared.extent.Extent.{Extent}
use Rattle.mo_image.proofs.EntryParts.{cut-some}
use Rattle.mo_image.proofs.Extents.{piece_held}
use Rattle.mo_image.proofs.Originals.{nul_utf8}

-- the part of a file up to and including the NUL
pub piece_with_nul : (bytes : List ℕ) (extent : Extent) → HoldsWithNul bytes extent
    → take (extent.start + extent.len + 1 - extent.start) (drop extent.start bytes) ≡ with_nul (piece bytes extent)
piece_with_nul bytes extent h =
    let behind : List ℕ = drop extent.start bytes in
    let count : extent.start + extent.len + 1 - extent.start ≡ extent.len + 1 = omega arith in
    let inside : extent.len < length behind = omega (arith, length-drop extent.start bytes, h.room) in
    let nul : get_or behind extent.len 0 ≡ 0 = get_or-drop extent.start bytes extent.len 0 ∙ h.nul in
    ap (λ (n : ℕ). take n behind) count ∙ take_more behind extent.len 0 inside
    ∙ ap (λ (b : ℕ). piece bytes extent ++ (b ∷ [])) nul

pub with_nul_utf8 : (bytes : List ℕ) (extent : Extent) → HoldsWithNul bytes extent
    → IsUtf8 (take (extent.start + extent.len + 1 - extent.start) (drop extent.start bytes))
with_nul_utf8 bytes extent h = subst IsUtf8 (sym (piece_with_nul bytes extent h))
    (IsUtf8-append (piece bytes extent) (0 ∷ []) h.piece.utf8 nul_utf8)

pub held_with_nul : (bytes : List ℕ) (offset : ℕ) (extent : Extent) → IsNamedAt bytes offset extent
    → NamesText bytes offset
    → slice_index bytes (word_at little_number bytes (offset + 4) + word_at little_number bytes offset) ≡ 0
    → HoldsWithNul bytes extent
held_with_nul bytes offset extent h text nul = record {
  piece = piece_held bytes offset extent h text;
  room = omega (arith, h.len, h.start, text.room);
  nul = rw (h.len, h.start) nul;
}

-- a form and the NUL after it
pub front_with_nul : (text form others : List ℕ) → IsCut 0 text form others
    → take (length form + 1) text ≡ with_nul form
front_with_nul text form others at =
    let p : ℕ = offset_of 0 text in
    let len : length form ≡ p = ap length at.front_is ∙ length-take-le p text (omega (arith, at.within)) in
    let nul : get_or text p 0 ≡ 0 = eqb-true _ _ (passes_at_first (λ b. eqb b 0) text 0 at.within) in
    ap (λ (n : ℕ). take (n + 1) text) len ∙ take_more text p 0 at.within
    ∙ ap (λ (b : ℕ). take p text ++ (b ∷ [])) nul ∙ ap with_nul (sym at.front_is)

-- forms with NUL between them and one more at the end are forms each with a NUL after it
joined_with_nul : (forms : List (List ℕ)) → 0 < length forms → with_nul (join_with_byte 0 forms) ≡ pool forms
joined_with_nul [] some = absurd (omega arith)
joined_with_nul (f ∷ []) some = sym (append-nil-of (with_nul f))
  where
    append-nil-of : (xs : List ℕ) → xs ++ [] ≡ xs
    append-nil-of [] = refl
    append-nil-of (x ∷ xs) = ap (λ (ys : List ℕ). x ∷ ys) (append-nil-of xs)
joined_with_nul (f ∷ g ∷ fs) some =
    append_assoc f (0 ∷ join_with_byte 0 (g ∷ fs)) (0 ∷ [])
    ∙ ap (λ (rest : List ℕ). f ++ (0 ∷ rest)) (joined_with_nul (g ∷ fs) (omega arith))
    ∙ sym (append_assoc f (0 ∷ []) (pool (g ∷ fs)))

pub forms_with_nul : (t : List ℕ) → with_nul t ≡ pool (slice_split (λ b. b == 0) t)
forms_with_nul t = ap with_nul (sym (join_with_byte-slice_split 0 t))
    ∙ joined_with_nul (slice_split (λ b. eqb b 0) t) (omega (arith, length-slice_split (λ b. eqb b 0) t))

-- the form at k, cut from what is left once those before it have been taken
pub record IsCutAt (forms : List (List ℕ)) (k : ℕ) (form : List ℕ) : Type 0 where
  pub found : slice_get forms k ≡ Some form
  pub split : cut 0 (pool (drop k forms)) ≡ Some (form, pool (drop (k + 1) forms))

pub cut_at : (forms : List (List ℕ)) (k : ℕ) → AllByRecursion (LacksByte 0) forms → k < length forms
    → (form : List ℕ) × IsCutAt forms k form
cut_at [] k lack lt = absurd (omega arith)
cut_at (f ∷ fs) zero lack lt = (
  f,
  record { found = refl; split = ap (cut 0) (append_assoc f (0 ∷ []) (pool fs)) ∙ cut-some 0 f (pool fs) lack.0 },
)
cut_at (f ∷ fs) (suc k) lack lt =
    let at = cut_at fs k lack.1 (omega arith) in
    let on : suc k + 1 ≡ suc (k + 1) = omega arith in (
      at.0,
      record {
        found = at.1.found;
        split = at.1.split ∙ ap (λ (n : ℕ). Some (at.0, pool (drop n (f ∷ fs)))) (sym on);
      },
    )

-- what was cut off, and what is left
pub cut_told : (forms : List (List ℕ)) (k : ℕ) (left front behind : List ℕ) → (form : List ℕ) × IsCutAt forms k form
    → left ≡ pool (drop k forms) → IfSome (cut 0 left) (λ parts. IsCutWithNul parts front behind)
    → IfSome (slice_get forms k) (λ form. front ≡ with_nul form) × (behind ≡ pool (drop (k + 1) forms))
cut_told forms k left front behind at are told =
    let P : Option (List ℕ × List ℕ) → Type 0 = λ parts. IfSome parts (λ p. IsCutWithNul p front behind) in
    let so : IsCutWithNul (at.0, pool (drop (k + 1) forms)) front behind = subst P
    (ap (cut 0) are ∙ at.1.split) told in
    (rw at.1.found so.form, so.others)

-- ---- the only form

one_form : (forms : List (List ℕ)) (t : List ℕ) (k : ℕ) → length forms ≡ 1 → join_with_byte 0 forms ≡ t
    → k < length forms → slice_get forms k ≡ Some t
one_form (f ∷ g ∷ fs) t k one joined lt = absurd (omega (arith, one))
one_form (f ∷ []) t zero one joined lt = ap (λ (x : List ℕ). Some x) joined
one_form _ t _ one joined lt = absurd (omega (arith, lt))

-- an entry without a plural has its translation as its only form
pub only_form : (o t : List ℕ) (e : Entry) (k : ℕ) → IsLawfulEntry (entry_of o t) → entry_of o t ≡ e → e.plural ≡ None
    → k < length e.forms → slice_get e.forms k ≡ Some t
only_form o t e k lawful view none lt =
    one_form e.forms t k
    (subst (λ (p : Option (List ℕ)). HasForms p e.forms) none (subst IsLawfulEntry view lawful).counted)
    (ap (λ (x : Entry). join_with_byte 0 x.forms) (sym view) ∙ join_with_byte-slice_split 0 t) lt
