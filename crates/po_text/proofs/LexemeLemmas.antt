-- Lexemes, one after another.
use Rattle.po_text.proofs.Kit.{◌≡◌, ℕ, ◌+◌, List, [], ◌∷◌, ◌++◌, Some, refl, sym, ap, ◌∙◌, arith, append_assoc}
use Rattle.po_text.proofs.Kit.{AllByRecursion, append-nil, Token, Text, Open, Close, Mark, Piece, White, Comment, Word}
use Rattle.po_text.proofs.Kit.{OpenBracket, CloseBracket, Quoted, PieceAt, Lexeme, lexemes, comment_marks, line_of}
use Rattle.po_text.proofs.Kit.{Spells, HasFault, TakesLexemes, HasEnd, token_view, gap_marks, Flags, PoKind}
use Rattle.po_text.specs.Spelling.{piece_token, newlines}
use Rattle.po_text.specs.Lexing.{HasNext, HasFaultFrom, IsGapPiece}
use Rattle.po_text.specs.declared.lexer.Token as code
use Rattle.po_text.proofs.Chains.{Chain-append}
use Rattle.po_text.proofs.GapLemmas.{line_of-append}

-- a gap changes only the line and the marks
over_gap : (line end : ℕ) (marks : List Mark) (gap more : List Piece) → AllByRecursion IsGapPiece gap → end + 1
    ≡ line + line_of gap
    → lexemes line marks (gap ++ more) ≡ lexemes end (marks ++ gap_marks gap) more
over_gap line end marks [] more all e = let same : end ≡ line = omega arith in rw (same, append-nil marks) refl
over_gap line end marks (White b ∷ gap) more all e = over_gap (line + newlines (b ∷ [])) end marks gap more all.1
    (omega arith)
over_gap line end marks (Comment after ∷ gap) more all e = over_gap line end (marks ++ comment_marks after) gap more
    all.1 e ∙ ap (λ (m : List Mark). lexemes end m more) (append_assoc marks (comment_marks after) (gap_marks gap))
over_gap line end marks (_ ∷ gap) more all e = absurd all.0

-- a token is a lexeme with the marks before it, on the same line
over_token : (line : ℕ) (marks : List Mark) (p : Piece) (token : Token) (more : List Piece) → piece_token p ≡ Some token
    → lexemes line marks (p ∷ more) ≡ record { marks = marks; line = line; token = token } ∷ lexemes line [] more
over_token line marks (Word bytes t) token more e = let same : t ≡ token = cc e in rw same refl
over_token line marks OpenBracket token more e = let same : Open ≡ token = cc e in rw (← same) refl
over_token line marks CloseBracket token more e = let same : Close ≡ token = cc e in rw (← same) refl
over_token line marks (Quoted bytes) token more e = let same : Text bytes ≡ token = cc e in rw (← same) refl
over_token line marks _ token more e = absurd (cc e)

token_line : (p : Piece) (token : Token) → piece_token p ≡ Some token → line_of (p ∷ []) ≡ 1
token_line (White b) token e = absurd (cc e)
token_line (Comment after) token e = absurd (cc e)
token_line _ token e = refl

-- the next lexeme
abbrev pub lexeme_of : (token : code.Token) (bytes : List ℕ) (line : ℕ) (gap : List Piece) → Lexeme
lexeme_of token bytes line gap = record { marks = gap_marks gap; line = line; token = token_view token bytes }

pub lexemes_push : (found : List Lexeme) (a b c : ℕ) (s m t : List ℕ) (f g : Flags) (token : code.Token)
    (bytes : List ℕ) → TakesLexemes found a s b m → (h : HasNext token bytes f b m g c t)
    → TakesLexemes (found ++ lexeme_of token bytes c h.gap.pieces ∷ []) a s c t
lexemes_push found a b c s m t f g token bytes p h =
    let piece = h.takes.0 in
    let next : Lexeme = record { marks = gap_marks h.gap.pieces; line = c; token = token_view token bytes } in
    let pieces = h.gap.pieces ++ piece ∷ [] in
    record {
      pieces = p.pieces ++ pieces;
      each = Chain-append PieceAt p.pieces pieces s m t p.each
          (Chain-append PieceAt h.gap.pieces (piece ∷ []) m h.middle t h.gap.each (t, h.takes.1, refl));
      line = omega (
        arith,
        p.line,
        h.gap.line,
        line_of-append p.pieces pieces,
        line_of-append h.gap.pieces (piece ∷ []),
        token_line piece (token_view token bytes) h.takes.2,
      );
      found_are = λ more.
          ap (λ (ps : List Piece). lexemes a [] ps) (append_assoc p.pieces pieces more) ∙ p.found_are (pieces ++ more)
          ∙ ap (λ (ls : List Lexeme). found ++ ls) (ap (λ (ps : List Piece). lexemes b [] ps)
          (append_assoc h.gap.pieces (piece ∷ []) more) ∙ over_gap b c [] h.gap.pieces (piece ∷ more) h.gap.gap
          h.gap.line ∙ over_token c (gap_marks h.gap.pieces) piece (token_view token bytes) more h.takes.2)
          ∙ sym (append_assoc found (next ∷ []) (lexemes c [] more));
      room = omega (arith, p.room, h.gap.room, h.shorter);
    }

pub lexemes_end : (found : List Lexeme) (b : ℕ) (text m : List ℕ) (f : Flags) → TakesLexemes found 1 text b m
    → HasEnd f b m → Spells text found
lexemes_end found b text m f p (flags, last, gap) =
    record {
      pieces = p.pieces ++ gap.pieces;
      each = Chain-append PieceAt p.pieces gap.pieces text m [] p.each gap.each;
      found_are = sym (p.found_are gap.pieces ∙ ap (λ (ls : List Lexeme). found ++ ls)
          (ap (λ (ps : List Piece). lexemes b [] ps) (sym (append-nil gap.pieces))
          ∙ over_gap b last [] gap.pieces [] gap.gap gap.line) ∙ append-nil found);
    }

pub lexemes_fault : (found : List Lexeme) (b : ℕ) (text m : List ℕ) (f : Flags) (kind : PoKind) (line : ℕ)
    → TakesLexemes found 1 text b m → HasFaultFrom f b m kind line → HasFault text kind line
lexemes_fault found b text m f kind line p h = record {
  pieces = p.pieces ++ h.gap.pieces;
  rest = h.middle;
  each = Chain-append PieceAt p.pieces h.gap.pieces text m h.middle p.each h.gap.each;
  fault = h.fault;
  line_is = omega (arith, line_of-append p.pieces h.gap.pieces, p.line, h.gap.line);
}
