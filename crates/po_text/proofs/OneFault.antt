-- A text has at most one lexical fault, and none if it spells lexemes.
use Rattle.po_text.proofs.Kit.{◌≡◌, ◌≢◌, ℕ, ◌<◌, ◌≤◌, Bool, true, false, List, [], ◌∷◌, ◌++◌, Some, None, refl, sym, ap}
use Rattle.po_text.proofs.Kit.{◌∙◌, subst, arith, inl, inr, ◌==◌, take_while, cases_Bool, PoKind, OpenString, BadText}
use Rattle.po_text.proofs.Kit.{Piece, White, Word, Quoted, PieceAt, is_white, is_word_byte, word_token, is_plain}
use Rattle.po_text.proofs.Kit.{is_octal, octal_value, escaped_byte, Plain, Escape, Octal, UnitAt, UnitsAt, IsOpenEnd}
use Rattle.po_text.proofs.Kit.{IsLawful, HasFault, Spells, Lexeme, line_of}
use Rattle.std.specs.Prelude.{◌||◌}
use Rattle.po_text.specs.declared.fault.PoKind.TheVariants.{BadEscape, BadWord}
use Rattle.po_text.specs.Spelling.{octal_run, IsBadEscape, FaultAt}
use Rattle.po_text.proofs.OneReading.{byte_kind, piece_kind, StartsAs, starts}
use Rattle.po_text.proofs.OneReading.{same_kind, word_no_white, nothing_stops, Piece-one}
use Rattle.po_text.proofs.Unique.{Chain-one, UnitsAt-one, Stops, plain_no_slash}
use Rattle.po_text.proofs.Unique.{head_is, octal_no_escape, octal_run-none, quote_stops}

-- no unit begins with a backslash before neither the letter of an escape nor octal digits up to 255
slash_stops : (s m : List ℕ) → s ≡ 92 ∷ m → ((c v : ℕ) (n : List ℕ) → m ≡ c ∷ n → escaped_byte c ≡ Some v → ⊥)
    → ((digits n : List ℕ) → m ≡ digits ++ n → octal_run m ≡ digits → digits ≢ [] → octal_value digits ≤ 255 → ⊥)
    → Stops UnitAt s
slash_stops s m e no_escape no_octal (Plain b) n p = plain_no_slash b s n m p.0 p.1 e
slash_stops s m e no_escape no_octal (Escape c v) n p = let f = p.0 in no_escape c v n (cc (e, f)) p.1
slash_stops s m e no_escape no_octal (Octal digits) n p =
    let f = p.0 in let split : m ≡ digits ++ n = cc (e, f) in
    no_octal digits n split (ap octal_run split ∙ p.1) p.2 p.3

none_is_none : (c v : ℕ) → escaped_byte c ≡ None → escaped_byte c ≡ Some v → ⊥
none_is_none c v e f = absurd (cc (e, f))

bad_stops : (s : List ℕ) → IsBadEscape s → Stops UnitAt s
bad_stops s (inl (c, more, e, no_end, no_octal, none)) = slash_stops s (c ∷ more) e
    (λ c' v n f is. let same : c ≡ c' = cc f in none_is_none c' v (ap escaped_byte (sym same) ∙ none) is)
    (λ digits n f run some small. some (sym run ∙ octal_run-none c more no_octal))
bad_stops s (inr (more, e, large)) = slash_stops s more e
    (λ c v n f is. elim (cases_Bool (is_octal c)) [
      | inl octal ↦ none_is_none c v (octal_no_escape c octal) is
      | inr other ↦ let empty : octal_run more ≡ [] = ap octal_run f
          ∙ octal_run-none c n other in let zero_value : octal_value (octal_run more)
          ≡ 0 = ap octal_value empty in absurd (omega arith)
    ])
    (λ digits n f run some small. let same : octal_value (octal_run more)
    ≡ octal_value digits = ap octal_value run in absurd (omega arith))

-- ---- where a string ends early

line_end_stops : (s m : List ℕ) → s ≡ 10 ∷ m → Stops UnitAt s
line_end_stops s m e (Plain b) n p = let f = p.0 in let same : 10 ≡ b = cc (e, f) in let plain : is_plain 10
    ≡ true = ap is_plain same ∙ p.1 in absurd (cc plain)
line_end_stops s m e (Escape c v) n p = let f = p.0 in absurd (omega (arith, head_is 10 92 m (c ∷ n) (sym e ∙ f)))
line_end_stops s m e (Octal digits) n p = let f = p.0 in absurd
    (omega (arith, head_is 10 92 m (digits ++ n) (sym e ∙ f)))

end_stops : Stops UnitAt []
end_stops (Plain b) n p = let f = p.0 in absurd (cc f)
end_stops _ n p = let f = p.0 in absurd (cc f)

octal_run-nil : octal_run [] ≡ []
unfolding octal_run
octal_run-nil = refl

open_stops : (s : List ℕ) → IsOpenEnd s → Stops UnitAt s
open_stops [] h = end_stops
open_stops (b ∷ []) (inl e) = line_end_stops (b ∷ []) [] (ap (λ (x : ℕ). x ∷ []) e)
open_stops (b ∷ []) (inr e) = slash_stops (b ∷ []) [] (ap (λ (x : ℕ). x ∷ []) e)
    (λ c v n f is. absurd (cc f)) (λ digits n f run some small. some (sym run ∙ octal_run-nil))
open_stops (b ∷ c ∷ more) (inl e) = line_end_stops (b ∷ c ∷ more) (c ∷ more) (ap (λ (x : ℕ). x ∷ c ∷ more) e)
open_stops (b ∷ c ∷ more) (inr e) = slash_stops (b ∷ c ∷ more) (c ∷ more) (ap (λ (x : ℕ). x ∷ c ∷ more) e.0)
    (λ c' v n f is. let same : 10 ≡ c' = let g = e.1 in cc (f, g) in let none : escaped_byte 10
    ≡ None = refl in none_is_none c' v (ap escaped_byte (sym same) ∙ none) is)
    (λ digits n f run some small. let octal : is_octal c ≡ false = ap is_octal e.1 in some
    (sym run ∙ octal_run-none c more octal))

-- ---- the kinds exclude one another

quote_no_open : (m : List ℕ) → IsOpenEnd (34 ∷ m) → ⊥
quote_no_open [] (inl e) = absurd (omega arith)
quote_no_open [] (inr e) = absurd (omega arith)
quote_no_open (c ∷ m) (inl e) = absurd (omega arith)
quote_no_open (c ∷ m) (inr e) = let f = e.0 in absurd (omega arith)

quote_no_bad : (m : List ℕ) → IsBadEscape (34 ∷ m) → ⊥
quote_no_bad m (inl (c, more, e, h, i, j)) = absurd (omega (arith, head_is 34 92 m (c ∷ more) e))
quote_no_bad m (inr (more, e, h)) = absurd (omega (arith, head_is 34 92 m more e))

no_octals : (m : List ℕ) → IsOpenEnd (92 ∷ m) → octal_run m ≡ []
no_octals [] h = octal_run-nil
no_octals (c ∷ m) (inl e) = absurd (omega arith)
no_octals (c ∷ m) (inr e) = octal_run-none c m (ap is_octal e.1)

open_slash : (c : ℕ) (m : List ℕ) → IsOpenEnd (92 ∷ c ∷ m) → c ≡ 10
open_slash c m (inl e) = absurd (omega arith)
open_slash c m (inr e) = e.1

bad_no_open : (s : List ℕ) → IsBadEscape s → IsOpenEnd s → ⊥
bad_no_open s (inl (c, more, e, no_end, no_octal, none)) h = no_end
    (open_slash c more (subst (λ (t : List ℕ). IsOpenEnd t) e h))
bad_no_open s (inr (more, e, large)) h =
    let empty = no_octals more (subst (λ (t : List ℕ). IsOpenEnd t) e h) in
    let zero_value : octal_value (octal_run more) ≡ 0 = ap octal_value empty in absurd (omega arith)

-- ---- no piece is where a fault is

or_false : (x y : Bool) → (x || y) ≡ false → (x ≡ false) × (y ≡ false)
or_false true y e = absurd (cc e)
or_false false y e = (refl, e)

other_kind : (b : ℕ) → ((is_white b || is_word_byte b) || ((b == 34 || b == 35) || (b == 91 || b == 93))) ≡ false
    → byte_kind b ≡ 6
other_kind b e =
    let h = or_false (is_white b || is_word_byte b) ((b == 34 || b == 35) || (b == 91 || b == 93)) e in
    let w = or_false (is_white b) (is_word_byte b) h.0 in
    let g = or_false (b == 34 || b == 35) (b == 91 || b == 93) h.1 in
    let x = or_false (b == 34) (b == 35) g.0 in
    let y = or_false (b == 91) (b == 93) g.1 in
    rw (w.0, w.1, x.1, y.0, y.1, x.0) refl

word_kind : (b : ℕ) → is_word_byte b ≡ true → byte_kind b ≡ 1
word_kind b e = rw (word_no_white b e, e) refl

piece_below : (p : Piece) → piece_kind p < 6
piece_below (White b) = omega arith
piece_below _ = omega arith

word_fault_stops : (rest : List ℕ) → StartsAs 1 rest → word_token (take_while is_word_byte rest) ≡ None
    → Stops PieceAt rest
word_fault_stops rest at none (Word bytes token) m h = let e = h.2 in let f = ap word_token h.1 in absurd
    (cc (e, f, none))
word_fault_stops rest at none p m h = let k = same_kind 1 (piece_kind p) rest at (starts p rest m h) in absurd
    (omega arith)

-- only a string follows a quote
quote_fault_stops : (inner rest : List ℕ) → rest ≡ 34 ∷ inner
    → ((bytes m : List ℕ) → UnitsAt bytes inner (34 ∷ m) → IsLawful bytes → ⊥) → Stops PieceAt rest
quote_fault_stops inner rest e never (Quoted bytes) m h =
    let f = h.1 in let same : h.0 ≡ inner = cc (e, f) in
    never bytes m (subst (λ (t : List ℕ). UnitsAt bytes t (34 ∷ m)) same h.2) h.3
quote_fault_stops inner rest e never p m h = let k = same_kind 5 (piece_kind p) rest (34, inner, e, refl)
    (starts p rest m h) in absurd (omega arith)

pub fault_stops : (kind : PoKind) (rest : List ℕ) → FaultAt kind rest → Stops PieceAt rest
fault_stops BadWord rest (inl (b, more, e, word, none)) = word_fault_stops rest (b, more, e, word_kind b word) none
fault_stops BadWord rest (inr (b, more, e, other)) = λ p m h. let k = same_kind 6 (piece_kind p) rest
    (b, more, e, other_kind b other) (starts p rest m h) in absurd (omega (arith, piece_below p))
fault_stops BadEscape rest (values, inner, stop, e, units, bad) = quote_fault_stops inner rest e
    (λ bytes m h lawful. quote_no_bad m (subst (λ (t : List ℕ). IsBadEscape t)
    (UnitsAt-one values bytes inner stop (34 ∷ m) units h (bad_stops stop bad) (quote_stops m)).1 bad))
fault_stops OpenString rest (values, inner, stop, e, units, ends) = quote_fault_stops inner rest e
    (λ bytes m h lawful. quote_no_open m (subst (λ (t : List ℕ). IsOpenEnd t)
    (UnitsAt-one values bytes inner stop (34 ∷ m) units h (open_stops stop ends) (quote_stops m)).1 ends))
fault_stops BadText rest (values, inner, stop, e, units, unlawful) = quote_fault_stops inner rest e
    (λ bytes m h lawful. unlawful (subst (λ (t : List ℕ). IsLawful t)
    (sym (UnitsAt-one values bytes inner (34 ∷ stop) (34 ∷ m) units h (quote_stops stop) (quote_stops m)).0)
    lawful))
fault_stops _ rest h = absurd h

-- a text that has a lexical fault spells no lexemes
pub no_both : (text : List ℕ) (found : List Lexeme) (kind : PoKind) (line : ℕ) → Spells text found
    → HasFault text kind line → ⊥
no_both text found kind line p q =
    let same = Chain-one PieceAt Piece-one p.pieces q.pieces text [] q.rest p.each q.each nothing_stops
    (fault_stops kind q.rest q.fault) in
    no_fault_at_end kind (subst (λ (t : List ℕ). FaultAt kind t) (sym same.1) q.fault)
  where
    no_fault_at_end : (kind : PoKind) → FaultAt kind [] → ⊥
    no_fault_at_end BadWord (inl (b, more, e, h, i)) = absurd (cc e)
    no_fault_at_end BadWord (inr (b, more, e, h)) = absurd (cc e)
    no_fault_at_end BadEscape (values, inner, stop, e, h, i) = absurd (cc e)
    no_fault_at_end OpenString (values, inner, stop, e, h, i) = absurd (cc e)
    no_fault_at_end BadText (values, inner, stop, e, h, i) = absurd (cc e)
    no_fault_at_end _ h = absurd h

-- the offset and the line of a lexical fault are unique
pub one_offset : (text : List ℕ) (kind kind' : PoKind) (line line' : ℕ) → (p : HasFault text kind line)
    → (q : HasFault text kind' line') → (p.rest ≡ q.rest) × (line ≡ line')
one_offset text kind kind' line line' p q =
    let same = Chain-one PieceAt Piece-one p.pieces q.pieces text p.rest q.rest p.each q.each
    (fault_stops kind p.rest p.fault) (fault_stops kind' q.rest q.fault) in
    (same.1, p.line_is ∙ ap line_of same.0 ∙ sym q.line_is)

-- ---- so is its kind

word_no_quote : (rest inner : List ℕ) → FaultAt BadWord rest → rest ≡ 34 ∷ inner → ⊥
word_no_quote rest inner (inl (b, more, e, word, none)) f = let k = same_kind 1 5 rest (b, more, e, word_kind b word)
    (34, inner, f, refl) in absurd (omega arith)
word_no_quote rest inner (inr (b, more, e, other)) f = let k = same_kind 6 5 rest (b, more, e, other_kind b other)
    (34, inner, f, refl) in absurd (omega arith)

stops_same : (rest values inner stop values' inner' stop' : List ℕ) → rest ≡ 34 ∷ inner → rest ≡ 34 ∷ inner'
    → UnitsAt values inner stop → UnitsAt values' inner' stop' → Stops UnitAt stop → Stops UnitAt stop' → stop ≡ stop'
stops_same rest values inner stop values' inner' stop' e f p q s t =
    let same : inner' ≡ inner = cc (e, f) in (UnitsAt-one values values' inner stop stop' p
    (subst (λ (x : List ℕ). UnitsAt values' x stop') same q) s t).1

escape_no_open : (rest : List ℕ) → FaultAt BadEscape rest → FaultAt OpenString rest → ⊥
escape_no_open rest (values, inner, stop, e, units, bad) (values', inner', stop', f, units', ends) =
    bad_no_open stop' (subst (λ (t : List ℕ). IsBadEscape t)
    (stops_same rest values inner stop values' inner' stop' e f units units' (bad_stops stop bad)
    (open_stops stop' ends)) bad) ends

escape_no_text : (rest : List ℕ) → FaultAt BadEscape rest → FaultAt BadText rest → ⊥
escape_no_text rest (values, inner, stop, e, units, bad) (values', inner', stop', f, units', unlawful) =
    quote_no_bad stop' (subst (λ (t : List ℕ). IsBadEscape t)
    (stops_same rest values inner stop values' inner' (34 ∷ stop') e f units units' (bad_stops stop bad)
    (quote_stops stop')) bad)

open_no_text : (rest : List ℕ) → FaultAt OpenString rest → FaultAt BadText rest → ⊥
open_no_text rest (values, inner, stop, e, units, ends) (values', inner', stop', f, units', unlawful) =
    quote_no_open stop' (subst (λ (t : List ℕ). IsOpenEnd t)
    (stops_same rest values inner stop values' inner' (34 ∷ stop') e f units units' (open_stops stop ends)
    (quote_stops stop')) ends)

pub one_kind : (kind kind' : PoKind) (rest : List ℕ) → FaultAt kind rest → FaultAt kind' rest → kind ≡ kind'
one_kind BadWord BadWord rest p q = refl
one_kind BadEscape BadEscape rest p q = refl
one_kind OpenString OpenString rest p q = refl
one_kind BadText BadText rest p q = refl
one_kind BadWord BadEscape rest p (values, inner, stop, e, h, i) = absurd (word_no_quote rest inner p e)
one_kind BadWord OpenString rest p (values, inner, stop, e, h, i) = absurd (word_no_quote rest inner p e)
one_kind BadWord BadText rest p (values, inner, stop, e, h, i) = absurd (word_no_quote rest inner p e)
one_kind BadEscape BadWord rest (values, inner, stop, e, h, i) q = absurd (word_no_quote rest inner q e)
one_kind OpenString BadWord rest (values, inner, stop, e, h, i) q = absurd (word_no_quote rest inner q e)
one_kind BadText BadWord rest (values, inner, stop, e, h, i) q = absurd (word_no_quote rest inner q e)
one_kind BadEscape OpenString rest p q = absurd (escape_no_open rest p q)
one_kind OpenString BadEscape rest p q = absurd (escape_no_open rest q p)
one_kind BadEscape BadText rest p q = absurd (escape_no_text rest p q)
one_kind BadText BadEscape rest p q = absurd (escape_no_text rest q p)
one_kind OpenString BadText rest p q = absurd (open_no_text rest p q)
one_kind BadText OpenString rest p q = absurd (open_no_text rest q p)
one_kind _ _ rest p q = absurd (first_of (assumption p, assumption q))

pub HasFault-one : (text : List ℕ) (kind kind' : PoKind) (line line' : ℕ) → HasFault text kind line
    → HasFault text kind' line' → (kind ≡ kind') × (line ≡ line')
HasFault-one text kind kind' line line' p q =
    let at = one_offset text kind kind' line line' p q in
    (one_kind kind kind' q.rest (subst (λ (t : List ℕ). FaultAt kind t) at.0 p.fault) q.fault, at.1)
