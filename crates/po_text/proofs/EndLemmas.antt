-- The end of a text as it gets shorter.
use Rattle.po_text.proofs.Kit.{◌≡◌, ℕ, ◌+◌, ◌<◌, List, [], ◌∷◌, ◌++◌, length, drop, sym, ap, ◌∙◌}
use Rattle.po_text.proofs.Kit.{subst, arith, append_assoc, length-append}
use Rattle.po_text.proofs.Kit.{Chain, StringUnit, Plain, Escape, Octal, UnitAt, Piece, White}
use Rattle.po_text.proofs.Kit.{Comment, Word, OpenBracket, CloseBracket, Quoted, PieceAt}
use Rattle.std.specs.Str.{IsUtf8, is_utf8}
use Rattle.std.proofs.Math.Seq.{drop-append-add}
use Rattle.std.proofs.lemmas.List.{get_or-append-add}
use Rattle.std.proofs.lemmas.Str.{IsCharBoundary-after_ascii, IsUtf8-drop}
use Rattle.std.proofs.lemmas.Str.{is_utf8-from_IsUtf8}
use Rattle.po_text.specs.Ends.{EndsText}
use Rattle.po_text.specs.Lexing.{TakesGap, TakesToken}
use Rattle.po_text.specs.declared.flags.Flags.{Flags}
use Rattle.po_text.specs.declared.lexer.Token as code

-- ---- what follows a part

pub ends_behind : (x rest text : List ℕ) → text ≡ x ++ rest → EndsText text
    → EndsText rest
ends_behind x rest text is h =
    let whole : EndsText (x ++ rest) = subst (EndsText) is h in
    record {
      utf8 = λ i lt small.
          let read = get_or-append-add x rest i 0 in
          let more : drop (length x + i + 1) (x ++ rest) ≡ drop (i + 1) rest
          = ap (λ n. drop n (x ++ rest)) (omega arith) ∙ drop-append-add x rest (i + 1) in
          ap is_utf8 (sym more) ∙ whole.utf8 (length x + i) (omega (arith, length-append x rest))
          (subst (λ n. n < 128) (sym read) small);
    }

unit_front : (u : StringUnit) (s t : List ℕ) → UnitAt u s t → (x : List ℕ) × (s ≡ x ++ t)
unit_front (Plain b) s t at = (b ∷ [], at.0)
unit_front (Escape c v) s t at = (92 ∷ c ∷ [], at.0)
unit_front (Octal digits) s t at = (92 ∷ digits, at.0)

units_front : (units : List StringUnit) (s t : List ℕ) → Chain UnitAt units s t → (x : List ℕ) × (s ≡ x ++ t)
units_front [] s t e = ([], e)
units_front (u ∷ units) s t (m, at, rest) =
    let (x, e) = unit_front u s m at in
    let (y, f) = units_front units m t rest in
    (x ++ y, e ∙ ap (λ (z : List ℕ). x ++ z) f ∙ sym (append_assoc x y t))

piece_front : (p : Piece) (s t : List ℕ) → PieceAt p s t → (x : List ℕ) × (s ≡ x ++ t)
piece_front (White b) s t at = (b ∷ [], at.0)
piece_front (Comment after) s t at = (35 ∷ after, at.0)
piece_front (Word bytes token) s t at = (bytes, at.0)
piece_front OpenBracket s t at = (91 ∷ [], at)
piece_front CloseBracket s t at = (93 ∷ [], at)
piece_front (Quoted bytes) s t (inner, is, units, lawful) =
    let (x, e) = units_front units.units inner (34 ∷ t) units.each in
    ((34 ∷ x) ++ (34 ∷ []), is ∙ ap (λ (z : List ℕ). 34 ∷ z) e ∙ sym (append_assoc (34 ∷ x) (34 ∷ []) t))

pub token_ends : (token : code.Token) (bytes text rest : List ℕ) → EndsText text
    → TakesToken token bytes text rest → EndsText rest
token_ends token bytes text rest h (p, at, is) =
    let (x, e) = piece_front p text rest at in
    ends_behind x rest text e h

pieces_front : (pieces : List Piece) (s t : List ℕ) → Chain PieceAt pieces s t → (x : List ℕ) × (s ≡ x ++ t)
pieces_front [] s t e = ([], e)
pieces_front (p ∷ pieces) s t (m, at, rest) =
    let (x, e) = piece_front p s m at in
    let (y, f) = pieces_front pieces m t rest in
    (x ++ y, e ∙ ap (λ (z : List ℕ). x ++ z) f ∙ sym (append_assoc x y t))

pub gap_ends : (f g : Flags) (a b : ℕ) (text rest : List ℕ) → TakesGap f a text g b rest → EndsText text
    → EndsText rest
gap_ends f g a b text rest gap h =
    let (x, e) = pieces_front gap.pieces text rest gap.each in
    ends_behind x rest text e h

-- ---- a whole text

pub text_ends : (text : List ℕ) → IsUtf8 text → EndsText text
text_ends text utf8 = record {
  utf8 = λ i lt small. is_utf8-from_IsUtf8 (drop (i + 1) text)
      (IsUtf8-drop text (i + 1) utf8 (IsCharBoundary-after_ascii text i utf8 lt small));
}
