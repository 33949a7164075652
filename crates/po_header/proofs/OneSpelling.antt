-- A text spells at most one list of tokens.
use Rattle.po_header.proofs.Kit.{◌≡◌, ◌≢◌, ℕ, true, false, List, [], ◌∷◌, ◌++◌, Option, Some, None, refl, sym, ap, ◌∙◌}
use Rattle.po_header.proofs.Kit.{subst, arith, inl, inr, take_while, is_ascii_digit, cases_Bool, Token, Begins}
use Rattle.po_header.proofs.Kit.{is_blank, IsStray}
use Rattle.std.specs.Prelude.{if◌then◌else◌}
use Rattle.std.specs.Option.{is_some}
use Rattle.std.proofs.lemmas.List.{append_cancel_left, append-nil}
use Rattle.std.proofs.lemmas.List.Elements.{filter_map-append}
use Rattle.std.proofs.lemmas.List.Sums.{take_while-cons}
use Rattle.byte_text.specs.Chain.{Chain}
use Rattle.po_header.specs.Tokens.{Piece, Blank, Digits, Short, Long, PieceAt, piece_token}
use Rattle.po_header.specs.Tokens.{tokens_of_pieces, Spells, short_symbol, long_symbol, long_at}
use Rattle.po_header.proofs.TokenLemmas.{nothing_stray, blank_is, digit_no_blank, digit_no_symbol, digit_no_long}

-- ---- which piece is at the front

abbrev pub kind_at : List ℕ → ℕ
kind_at [] = 4
kind_at (b ∷ more) = if is_blank b then 0 else if is_ascii_digit b then 1 else if is_some (long_at (b ∷ more)) then 2
    else 3

abbrev pub piece_kind : Piece → ℕ
piece_kind (Blank b) = 0
piece_kind (Digits digits) = 1
piece_kind (Long a b token) = 2
piece_kind (Short b token) = 3

blank_no_symbol : (b : ℕ) → is_blank b ≡ true → short_symbol (b ∷ []) ≡ None
blank_no_symbol b e = elim (blank_is b e) [ inl space ↦ rw space refl | inr tab ↦ rw tab refl ]

blank_no_long : (a b : ℕ) → is_blank a ≡ true → long_symbol (a ∷ b ∷ []) ≡ None
blank_no_long a b e = elim (blank_is a e) [ inl space ↦ rw space refl | inr tab ↦ rw tab refl ]

-- what begins a symbol is neither a blank nor a digit
no_blank : (b : ℕ) (token : Token) (o : Option Token) → (is_blank b ≡ true → o ≡ None) → o ≡ Some token → is_blank b
    ≡ false
no_blank b token o h e = elim (cases_Bool (is_blank b)) [
  | inl blank ↦ let f = h blank in absurd (cc (e, f))
  | inr other
      ↦ other
]

no_digit : (b : ℕ) (token : Token) (o : Option Token) → (is_ascii_digit b ≡ true → o ≡ None) → o ≡ Some token
    → is_ascii_digit b ≡ false
no_digit b token o h e = elim (cases_Bool (is_ascii_digit b))
    [ inl digit ↦ let f = h digit in absurd (cc (e, f)) | inr other ↦ other ]

digits_first : (d : ℕ) (more : List ℕ) (digits : List ℕ) → take_while is_ascii_digit (d ∷ more) ≡ digits → digits ≢ []
    → is_ascii_digit d ≡ true
digits_first d more digits run some = elim (cases_Bool (is_ascii_digit d)) [
  | inl digit ↦ digit
  | inr other ↦ let none : take_while is_ascii_digit (d ∷ more)
      ≡ [] = rw (take_while-cons is_ascii_digit d more, other) refl in absurd (some (sym run ∙ none))
]

pub kind_is : (p : Piece) (s m : List ℕ) → PieceAt p s m → kind_at s ≡ piece_kind p
kind_is (Blank b) s m h = rw (h.0, h.1) refl
kind_is (Digits []) s m h = absurd (h.2 refl)
kind_is (Digits (d ∷ digits)) s m h =
    let run = subst (λ (t : List ℕ). take_while is_ascii_digit t ≡ d ∷ digits) h.0 h.1 in
    let digit = digits_first d (digits ++ m) (d ∷ digits) run h.2 in
    rw (h.0, digit_no_blank d digit, digit) refl
kind_is (Long a b token) s m h =
    rw (h.0, no_blank a token _ (blank_no_long a b) h.1, no_digit a token _ (digit_no_long a b) h.1, h.1) refl
kind_is (Short b token) s m h =
    let none = subst (λ (t : List ℕ). long_at t ≡ None) h.0 h.1 in
    rw (h.0, no_blank b token _ (blank_no_symbol b) h.2, no_digit b token _ (digit_no_symbol b) h.2, none) refl

pub Piece-one : (p q : Piece) (s m n : List ℕ) → PieceAt p s m → PieceAt q s n → (p ≡ q) × (m ≡ n)
Piece-one (Blank b) (Blank b') s m n h g = let e = h.0 in let f = g.0 in (cc (e, f), cc (e, f))
Piece-one (Digits digits) (Digits digits') s m n h g =
    let same : digits ≡ digits' = sym h.1 ∙ g.1 in
    (ap Digits same, append_cancel_left digits m n (sym h.0 ∙ g.0 ∙ ap (λ (ds : List ℕ). ds ++ n) (sym same)))
Piece-one (Short b token) (Short b' token') s m n h g =
    let e = h.0 in let f = g.0 in
    let same : b ≡ b' = cc (e, f) in
    let x = h.2 in let y = g.2 in let z = ap (λ (x : ℕ). short_symbol (x ∷ [])) same in
    let tokens : token ≡ token' = cc (x, y, z) in
    (cc (same, tokens), cc (e, f))
Piece-one (Long a b token) (Long a' b' token') s m n h g =
    let e = h.0 in let f = g.0 in
    let first : a ≡ a' = cc (e, f) in
    let second : b ≡ b' = cc (e, f) in
    let x = h.1 in let y = g.1 in let z : long_symbol (a ∷ b ∷ []) ≡ long_symbol (a' ∷ b' ∷ []) = cc (first, second) in
    let tokens : token ≡ token' = cc (x, y, z) in
    (cc (first, second, tokens), cc (e, f))
Piece-one p q s m n h g = let k = sym (kind_is p s m h) ∙ kind_is q s n g in absurd (omega arith)

-- ---- whole texts

-- pieces at the front of a text are the first of all its pieces
chain_after : (ps qs : List Piece) (s t : List ℕ) → Chain PieceAt ps s t → Chain PieceAt qs s [] → (more : List Piece)
    × (qs ≡ ps ++ more) × Chain PieceAt more t []
chain_after [] qs s t e all = (qs, refl, subst (λ (u : List ℕ). Chain PieceAt qs u []) e all)
chain_after (p ∷ ps) [] s t (m, at, rest) none = absurd (nothing_stray s none p m at)
chain_after (p ∷ ps) (q ∷ qs) s t (m, at, rest) (n, at', rest') =
    let same = Piece-one p q s m n at at' in
    let r = chain_after ps qs m t rest (subst (λ (u : List ℕ). Chain PieceAt qs u []) (sym same.1) rest') in
    let first = same.0 in
    let others = r.1 in
    (r.0, cc (first, others), r.2)

no_pieces : (ps : List Piece) (s : List ℕ) → s ≡ [] → Chain PieceAt ps s [] → ps ≡ []
no_pieces [] s e all = refl
no_pieces (p ∷ ps) s e (m, at, rest) = absurd (nothing_stray s e p m at)

-- tokens at the front of a text are the first of all its tokens
pub spelled_after : (tokens all : List Token) (text rest : List ℕ) → Begins tokens text rest → Spells text all
    → (more : List Token) × (all ≡ tokens ++ more) × Spells rest more
spelled_after tokens all text rest b s =
    let r = chain_after b.pieces s.pieces text rest b.each s.each in (
      tokens_of_pieces r.0,
      s.tokens_are ∙ ap tokens_of_pieces r.1 ∙ filter_map-append piece_token b.pieces r.0
          ∙ ap (λ (ts : List Token). ts ++ tokens_of_pieces r.0) (sym b.tokens_are),
      record { pieces = r.0; each = r.2; tokens_are = refl },
    )

chain_append : (ps qs : List Piece) (s m t : List ℕ) → Chain PieceAt ps s m → Chain PieceAt qs m t
    → Chain PieceAt (ps ++ qs) s t
chain_append [] qs s m t e more = subst (λ (x : List ℕ). Chain PieceAt qs x t) (sym e) more
chain_append (p ∷ ps) qs s m t (n, at, rest) more = (n, at, chain_append ps qs n m t rest more)

pub Begins-append : (a b : List Token) (s m t : List ℕ) → Begins a s m → Begins b m t → Begins (a ++ b) s t
Begins-append a b s m t p q = record {
  pieces = p.pieces ++ q.pieces;
  each = chain_append p.pieces q.pieces s m t p.each q.each;
  tokens_are = rw (p.tokens_are, q.tokens_are) (sym (filter_map-append piece_token p.pieces q.pieces));
}

stray_spells : (rest : List ℕ) (ps : List Piece) → IsStray rest → Chain PieceAt ps rest [] → rest ≡ []
stray_spells rest [] stray e = e
stray_spells rest (p ∷ ps) stray (m, at, more) = absurd (stray p m at)

-- what follows the tokens is no token, so the text spells no tokens
pub stray_behind : (tokens all : List Token) (text rest : List ℕ) → Begins tokens text rest → IsStray rest → rest ≢ []
    → ¬ Spells text all
stray_behind tokens all text rest b stray some s =
    let r = spelled_after tokens all text rest b s in
    some (stray_spells rest r.2.pieces stray r.2.each)

-- a text spells at most one list of tokens
pub Spells-one : (text : List ℕ) (tokens others : List Token) → Spells text tokens → Spells text others → tokens
    ≡ others
Spells-one text tokens others p q =
    let r = spelled_after tokens others text [] p q in
    let e : r.2.pieces ≡ [] = no_pieces r.2.pieces [] refl r.2.each in
    let none : r.0 ≡ [] = r.2.tokens_are ∙ ap tokens_of_pieces e in
    sym (r.1 ∙ ap (λ (ts : List Token). tokens ++ ts) none ∙ append-nil tokens)
