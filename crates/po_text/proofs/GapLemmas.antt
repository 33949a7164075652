-- Gaps, one piece at a time.
use Rattle.po_text.proofs.Kit.{◌≡◌, ◌≢◌, ℕ, ◌+◌, true, List, [], ◌∷◌, ◌++◌, length, refl, sym, ap, ◌∙◌, arith}
use Rattle.po_text.proofs.Kit.{append_assoc, length-append, AllByRecursion, take_while, ne_eqb, Piece, White, Comment}
use Rattle.po_text.proofs.Kit.{PieceAt, is_white, is_not_line_end, line_of, comment_marks, Mark, append-nil, Flags}
use Rattle.po_text.proofs.Kit.{flags_over, gap_marks}
use Rattle.po_text.specs.Lexing.{TakesGap, IsGapPiece}
use Rattle.po_text.proofs.FlagLemmas.{flags_over-append}
use Rattle.po_text.proofs.Chains.{Chain-append}

pub All-append : {A : Type 0} (P : A → Type 0) (xs ys : List A) → AllByRecursion P xs → AllByRecursion P ys
    → AllByRecursion P (xs ++ ys)
All-append P [] ys p q = q
All-append P (x ∷ xs) ys p q = (p.0, All-append P xs ys p.1 q)

pub line_of-append : (xs ys : List Piece) → line_of (xs ++ ys) + 1 ≡ line_of xs + line_of ys
line_of-append [] ys = omega arith
line_of-append (White b ∷ xs) ys = omega (arith, line_of-append xs ys)
line_of-append (_ ∷ xs) ys = line_of-append xs ys

gap_marks-append : (xs ys : List Piece) → gap_marks (xs ++ ys) ≡ gap_marks xs ++ gap_marks ys
gap_marks-append [] ys = refl
gap_marks-append (Comment after ∷ xs) ys = ap (λ (m : List Mark). comment_marks after ++ m) (gap_marks-append xs ys)
    ∙ sym (append_assoc (comment_marks after) (gap_marks xs) (gap_marks ys))
gap_marks-append (_ ∷ xs) ys = gap_marks-append xs ys

pub TakesGap-append : (f g h : Flags) (a b c : ℕ) (s m t : List ℕ) → TakesGap f a s g b m → TakesGap g b m h c t
    → TakesGap f a s h c t
TakesGap-append f g h a b c s m t p q = record {
  pieces = p.pieces ++ q.pieces;
  flags = q.flags ∙ ap (λ (x : Flags). flags_over x (gap_marks q.pieces)) p.flags
      ∙ sym (flags_over-append f (gap_marks p.pieces) (gap_marks q.pieces))
      ∙ ap (λ (m : List Mark). flags_over f m) (sym (gap_marks-append p.pieces q.pieces));
  each = Chain-append PieceAt p.pieces q.pieces s m t p.each q.each;
  gap = All-append IsGapPiece p.pieces q.pieces p.gap q.gap;
  line = omega (arith, line_of-append p.pieces q.pieces, p.line, q.line);
  room = omega (arith, p.room, q.room);
  falls = omega (arith, p.falls, q.falls);
}

line_end_is_white : (b : ℕ) → b ≡ 10 → is_white b ≡ true
line_end_is_white b e = rw e refl

-- a gap of one line's end
pub one_line_end : (f : Flags) (a byte : ℕ) (s t : List ℕ) → s ≡ byte ∷ t → byte ≡ 10 → TakesGap f a s f (a + 1) t
one_line_end f a byte s t split is = record {
  pieces = White byte ∷ [];
  flags = refl;
  each = (t, (split, line_end_is_white byte is), refl);
  gap = (tt, tt);
  line = rw is (omega arith);
  room = omega (arith, ap length split);
  falls = omega (arith, ap length split);
}

pub goes_line : (f g : Flags) (a b c byte : ℕ) (s m t : List ℕ) → TakesGap f a s g b m → m ≡ byte ∷ t → byte ≡ 10 → c
    ≡ b + 1 → TakesGap f a s g c t
goes_line f g a b c byte s m t p split is e =
    TakesGap-append f g g a b c s m t p (rw e (one_line_end g b byte m t split is))

pub goes_white : (f g : Flags) (a b byte : ℕ) (s m t : List ℕ) → TakesGap f a s g b m → m ≡ byte ∷ t → byte ≢ 10
    → is_white byte ≡ true → TakesGap f a s g b t
goes_white f g a b byte s m t p split other white = TakesGap-append f g g a b b s m t p (record {
  pieces = White byte ∷ [];
  flags = refl;
  each = (t, (split, white), refl);
  gap = (tt, tt);
  line = rw (ne_eqb byte 10 other) refl;
  room = omega (arith, ap length split);
  falls = omega (arith, ap length split);
})

pub goes_comment : (f g h : Flags) (a b byte : ℕ) (s m after later t : List ℕ) → TakesGap f a s g b m → m ≡ byte ∷ later
    → byte ≡ 35 → after ≡ take_while is_not_line_end later → later ≡ after ++ t → h ≡ flags_over g (comment_marks after)
    → TakesGap f a s h b t
goes_comment f g h a b byte s m after later t p split is run cut flagged = TakesGap-append f g h a b b s m t p (record {
  pieces = Comment after ∷ [];
  flags = flagged ∙ ap (λ (m : List Mark). flags_over g m) (sym (append-nil (comment_marks after)));
  each = (t, (split ∙ rw (is, cut) refl, rw (← cut) (sym run)), refl);
  gap = (tt, tt);
  line = refl;
  room = omega (arith, ap length split, ap length cut, length-append after t);
  falls = omega (arith, ap length split, ap length cut, length-append after t);
})

blank_is_white : (b : ℕ) → b ≡ 32 → is_white b ≡ true
blank_is_white b e = rw e refl

-- a gap of one blank
pub one_blank : (f : Flags) (a byte : ℕ) (s t : List ℕ) → s ≡ byte ∷ t → byte ≡ 32 → TakesGap f a s f a t
one_blank f a byte s t split is = record {
  pieces = White byte ∷ [];
  flags = refl;
  each = (t, (split, blank_is_white byte is), refl);
  gap = (tt, tt);
  line = rw is refl;
  room = omega (arith, ap length split);
  falls = omega (arith, ap length split);
}
