-- A text is cut into pieces in one way, up to where no piece begins.
use Rattle.po_text.proofs.Kit.{◌≡◌, ℕ, ◌≤◌, true, false, List, [], ◌∷◌, ◌++◌, Some, None, refl, sym, ap, ◌∙◌, subst}
use Rattle.po_text.proofs.Kit.{arith, inl, inr, ◌==◌, if◌then◌else◌, take_while, cases_Bool, Piece, White, Comment}
use Rattle.po_text.proofs.Kit.{Word, OpenBracket, CloseBracket, Quoted, PieceAt, is_white, is_word_byte}
use Rattle.po_text.proofs.Kit.{is_not_line_end, word_token, Token, UnitsAt, Spells, Lexeme, lexemes}
use Rattle.std.proofs.lemmas.Bool.Decides.{nat_tests}
use Rattle.std.proofs.lemmas.List.{append_cancel_left}
use Rattle.std.proofs.lemmas.List.Sums.{take_while-cons}
use Rattle.po_text.proofs.Unique.{Stops, IsOneWay, Chain-one, UnitsAt-one, quote_stops}

abbrev pub byte_kind : ℕ → ℕ
byte_kind b = if is_white b then 0 else if is_word_byte b then 1 else if b == 35 then 2 else if b == 91 then 3 else if b
    == 93 then 4 else if b == 34 then 5 else 6

abbrev pub piece_kind : Piece → ℕ
piece_kind (White b) = 0
piece_kind (Word bytes token) = 1
piece_kind (Comment after) = 2
piece_kind OpenBracket = 3
piece_kind CloseBracket = 4
piece_kind (Quoted bytes) = 5

word_low : (b : ℕ) → is_word_byte b ≡ true → 48 ≤ b
word_low b e = grind (arith, nat_tests)

white_low : (b : ℕ) → is_white b ≡ true → b ≤ 32
white_low b e = grind (arith, nat_tests)

pub word_no_white : (b : ℕ) → is_word_byte b ≡ true → is_white b ≡ false
word_no_white b e = elim (cases_Bool (is_white b)) [
  | inl white ↦ let h = word_low b e in let g = white_low b white in absurd (omega arith)
  | inr none ↦ none
]

abbrev pub StartsAs : ℕ → List ℕ → Type 0
StartsAs k s = (b : ℕ) × (more : List ℕ) × (s ≡ b ∷ more) × (byte_kind b ≡ k)

word_starts : (bytes s m : List ℕ) (token : Token) → s ≡ bytes ++ m → take_while is_word_byte s ≡ bytes
    → word_token bytes ≡ Some token → StartsAs 1 s
word_starts [] s m token e run is = let none : word_token [] ≡ None = refl in absurd (cc (is, none))
word_starts (b ∷ bytes) s m token e run is =
    let at : take_while is_word_byte (b ∷ (bytes ++ m)) ≡ b ∷ bytes = ap (λ (t : List ℕ). take_while is_word_byte t)
    (sym e) ∙ run in
    let cut = sym (take_while-cons is_word_byte b (bytes ++ m)) ∙ at in
    elim (cases_Bool (is_word_byte b)) [
      | inl word ↦ (b, bytes ++ m, e, rw (word_no_white b word, word) refl)
      | inr other ↦ let none : [] ≡ b ∷ bytes = rw other at cut in absurd (cc none)
    ]

pub starts : (p : Piece) (s m : List ℕ) → PieceAt p s m → StartsAs (piece_kind p) s
starts (White b) s m h = (b, m, h.0, rw h.1 refl)
starts (Word bytes token) s m h = word_starts bytes s m token h.0 h.1 h.2
starts (Comment after) s m h = (35, after ++ m, h.0, refl)
starts OpenBracket s m h = (91, m, h, refl)
starts CloseBracket s m h = (93, m, h, refl)
starts (Quoted bytes) s m h = (34, h.0, h.1, refl)

pub same_kind : (j k : ℕ) (s : List ℕ) → StartsAs j s → StartsAs k s → j ≡ k
same_kind j k s (b, more, e, is) (b', more', e', is') = let same : b ≡ b' = cc in let f = ap byte_kind same in sym is
    ∙ f ∙ is'

kinds_differ : (p q : Piece) (s m n : List ℕ) → PieceAt p s m → PieceAt q s n → piece_kind p ≡ piece_kind q
kinds_differ p q s m n h g = same_kind (piece_kind p) (piece_kind q) s (starts p s m h) (starts q s n g)

run_one : (f : List ℕ → List ℕ) (a m b n s t : List ℕ) → s ≡ a ++ m → t ≡ b ++ n → s ≡ t → f s ≡ a → f t ≡ b → (a ≡ b)
    × (m ≡ n)
run_one f a m b n s t e g same x y =
    let eq : a ≡ b = sym x ∙ ap f same ∙ y in
    (eq, append_cancel_left a m n (sym e ∙ same ∙ g ∙ ap (λ (z : List ℕ). z ++ n) (sym eq)))

pub Piece-one : IsOneWay PieceAt
Piece-one (White b) (White b') s m n h g = let e = h.0 in let f = g.0 in (cc (e, f), cc (e, f))
Piece-one (Comment after) (Comment after') s m n h g =
    let e = h.0 in let f = g.0 in
    let same = run_one (λ t. take_while is_not_line_end t) after m after' n (after ++ m) (after' ++ n) refl refl
    (cc (e, f)) h.1 g.1 in
    (ap Comment same.0, same.1)
Piece-one (Word bytes token) (Word bytes' token') s m n h g =
    let same = run_one (λ t. take_while is_word_byte t) bytes m bytes' n s s h.0 g.0 refl h.1 g.1 in
    let e = h.2 in let f = g.2 in let k = ap word_token same.0 in let words = same.0 in
    let tokens : token ≡ token' = cc (e, f, k) in
    (cc (words, tokens), same.1)
Piece-one OpenBracket OpenBracket s m n h g = (refl, cc (h, g))
Piece-one CloseBracket CloseBracket s m n h g = (refl, cc (h, g))
Piece-one (Quoted bytes) (Quoted bytes') s m n h g =
    let e = h.1 in let f = g.1 in let inner : h.0 ≡ g.0 = cc (e, f) in
    let same = UnitsAt-one bytes bytes' h.0 (34 ∷ m) (34 ∷ n) h.2
    (subst (λ (t : List ℕ). UnitsAt bytes' t (34 ∷ n)) (sym inner) g.2) (quote_stops m) (quote_stops n) in
    let rest = same.1 in
    (ap Quoted same.0, cc rest)
Piece-one p q s m n h g = let k = kinds_differ p q s m n h g in absurd (omega arith)

pub nothing_stops : Stops PieceAt []
nothing_stops p m h = let s = starts p [] m h in let e = s.2 in absurd (cc e)

-- a text spells one list of lexemes
pub Spells-one : (text : List ℕ) (found others : List Lexeme) → Spells text found → Spells text others → found ≡ others
Spells-one text found others p q =
    let same = Chain-one PieceAt Piece-one p.pieces q.pieces text [] [] p.each q.each nothing_stops nothing_stops in
    p.found_are ∙ ap (λ (ps : List Piece). lexemes 1 [] ps) same.0 ∙ sym q.found_are
