-- A text has an outcome: that it has none leads to ⊥. On the way to ⊥ any case may be split, decidable or not.
use Rattle.po_text.proofs.Kit.{◌≡◌, ℕ, zero, suc, ◌+◌, ◌<◌, ◌≤◌, true, List, [], ◌∷◌, ◌++◌, length, take, drop, Option}
use Rattle.po_text.proofs.Kit.{Some, None, refl, sym, ap, ◌∙◌, subst, arith, inl, inr, append_assoc, ◌⊎◌, take_while}
use Rattle.po_text.proofs.Kit.{prefix_len, cases_eq, ne_eqb, cases_Bool, append-nil, take-append-drop, length-drop}
use Rattle.po_text.proofs.Kit.{PoKind, OpenString, BadText, BadOrder, Chain, StringUnit, Plain, Escape, Octal, UnitAt}
use Rattle.po_text.proofs.Kit.{UnitsAt, unit_value, is_octal, octal_value, escaped_byte, IsOpenEnd, Piece, White}
use Rattle.po_text.proofs.Kit.{Comment, Word, OpenBracket, CloseBracket, Quoted, PieceAt, is_white, is_word_byte}
use Rattle.po_text.proofs.Kit.{is_not_line_end, word_token, HasFault, Spells, Lexeme, lexemes, line_of, Entry, Derives}
use Rattle.po_text.proofs.Kit.{all_tokens, IsOpenList, ClosesBy, Start, Reads, IsFaulty, body, Gives}
use Rattle.std.proofs.lemmas.Bool.{cases_lt}
use Rattle.po_text.specs.declared.fault.PoKind.TheVariants.{TooLarge, NotUtf8, BadEscape, BadWord, BadIndex}
use Rattle.po_text.specs.Spelling.{octal_run, IsBadEscape, FaultAt}
use Rattle.po_text.specs.Outcome.{HasGrammarFault, IsReadable, Refuses}
use Rattle.po_text.proofs.Chains.{Chain-append}
use Rattle.po_text.proofs.UnitLemmas.{UnitsAt-nil, UnitsAt-cons, octal_take, octal_some, octal_unit, open_at_line_end}
use Rattle.po_text.proofs.OpenLists.{taken_open}
use Rattle.po_text.proofs.Outcomes.{faulty_refuses}

option_cases : {A : Type 0} (o : Option A) → (o ≡ None) ⊎ ((x : A) × (o ≡ Some x))
option_cases None = inl refl
option_cases (Some x) = inr (x, refl)

-- ---- strings

-- what ends the units of a string: a quote, a bad escape, or the end of the line
abbrev EndsUnits : List ℕ → Type 0
EndsUnits text = ((more : List ℕ) × (text ≡ 34 ∷ more)) ⊎ (IsBadEscape text ⊎ IsOpenEnd text)

record BeginsUnit (text : List ℕ) : Type 0 where
  unit : StringUnit
  rest : List ℕ
  at : UnitAt unit text rest
  shorter : length rest < length text

octal_next : (c : ℕ) (more : List ℕ) → is_octal c ≡ true → BeginsUnit (92 ∷ c ∷ more) ⊎ EndsUnits (92 ∷ c ∷ more)
octal_next c more octal =
    let text = c ∷ more in
    let n = prefix_len is_octal (take 3 text) in
    let front : take n text ≡ octal_run text = octal_take text n refl in
    elim (cases_lt 255 (octal_value (octal_run text))) [
      | inl large ↦ inr (inr (inl (inr (text, refl, large))))
      | inr small ↦ inl (record {
        unit = Octal (octal_run text);
        rest = drop n text;
        at = octal_unit (octal_run text) (drop n text) text (sym (take-append-drop n text)
            ∙ ap (λ (t : List ℕ). t ++ drop n text) front) refl (octal_some c more octal) small;
        shorter = omega (arith, length-drop n text);
      })
    ]

slash_next : (more : List ℕ) → BeginsUnit (92 ∷ more) ⊎ EndsUnits (92 ∷ more)
slash_next [] = inr (inr (inr (inr refl)))
slash_next (c ∷ more) = elim (cases_Bool (is_octal c)) [
  | inl octal ↦ octal_next c more octal
  | inr other ↦ elim (option_cases (escaped_byte c)) [
    | inr (v, e) ↦ inl (record { unit = Escape c v; rest = more; at = (refl, e); shorter = omega arith })
    | inl none ↦ elim (cases_eq c 10) [
      | inl e ↦ inr (inr (inr (inr (refl, e))))
      | inr no_end ↦ inr (inr (inl (inl (c, more, refl, no_end, other, none))))
    ]
  ]
]

unit_next : (text : List ℕ) → BeginsUnit text ⊎ EndsUnits text
unit_next [] = inr (inr (inr tt))
unit_next (b ∷ more) = elim (cases_eq b 34) [
  | inl e ↦ inr (inl (more, ap (λ (x : ℕ). x ∷ more) e))
  | inr no_quote ↦ elim (cases_eq b 92) [
    | inl e ↦ subst (λ (x : ℕ). BeginsUnit (x ∷ more) ⊎ EndsUnits (x ∷ more)) (sym e) (slash_next more)
    | inr no_slash ↦ elim (cases_eq b 10) [
      | inl e ↦ inr (inr (inr (open_at_line_end b more e)))
      | inr no_end ↦ inl (record {
        unit = Plain b;
        rest = more;
        at =
            (refl, rw (ne_eqb b 34 no_quote, ne_eqb b 92 no_slash, ne_eqb b 10 no_end) refl);
        shorter = omega arith;
      })
    ]
  ]
]

-- the units at the front of a text, and where they stop
record UnitsTo (text : List ℕ) : Type 0 where
  values : List ℕ
  stop : List ℕ
  units : UnitsAt values text stop
  ends : EndsUnits stop
  falls : length stop ≤ length text

units_to : (n : ℕ) (text : List ℕ) → length text < n → UnitsTo text
units_to zero text short = absurd (omega arith)
units_to (suc n) text short = elim (unit_next text) [
  | inl next ↦
      let more = units_to n next.rest (omega (arith, short, next.shorter)) in
      record {
        values = unit_value next.unit ∷ more.values;
        stop = more.stop;
        units = UnitsAt-cons next.unit more.values text next.rest more.stop next.at more.units;
        ends = more.ends;
        falls = omega (arith, next.shorter, more.falls);
      }
  | inr ends ↦ record { values = []; stop = text; units = UnitsAt-nil text; ends = ends; falls = omega arith }
]

-- ---- pieces

abbrev NoPiece : List ℕ → Type 0
NoPiece text = (p : Piece) (rest : List ℕ) → length rest < length text → PieceAt p text rest → ⊥

abbrev NoFault : List ℕ → Type 0
NoFault text = (kind : PoKind) → FaultAt kind text → ⊥

string_next : (more : List ℕ) → NoPiece (34 ∷ more) → NoFault (34 ∷ more) → ⊥
string_next more no_piece no_fault = let to = units_to (length more + 1) more (omega arith) in elim to.ends [
  | inl (after, e) ↦
      let units : UnitsAt to.values more (34 ∷ after) = subst (λ (t : List ℕ). UnitsAt to.values more t) e to.units in
      no_fault BadText (
        to.values,
        more,
        after,
        refl,
        units,
        λ lawful. no_piece (Quoted to.values) after
            (omega (arith, to.falls, ap length e)) (more, refl, units, lawful),
      )
  | inr (inl bad) ↦ no_fault BadEscape (to.values, more, to.stop, refl, to.units, bad)
  | inr (inr ends) ↦ no_fault OpenString (to.values, more, to.stop, refl, to.units, ends)
]

comment_next : (more : List ℕ) → NoPiece (35 ∷ more) → ⊥
comment_next more no_piece =
    let n = prefix_len is_not_line_end more in
    let split : take n more ++ drop n more ≡ more = take-append-drop n more in
    no_piece (Comment (take n more)) (drop n more) (omega (arith, length-drop n more))
    (ap (λ (t : List ℕ). 35 ∷ t) (sym split), ap (λ (t : List ℕ). take_while is_not_line_end t) split)

word_next : (b : ℕ) (more : List ℕ) → is_word_byte b ≡ true → NoPiece (b ∷ more) → NoFault (b ∷ more) → ⊥
word_next b more word no_piece no_fault =
    let text = b ∷ more in
    let n = prefix_len is_word_byte text in
    let some : 0 < n = rw word (omega arith) in
    elim (option_cases (word_token (take n text))) [
      | inl none ↦ no_fault BadWord (inl (b, more, refl, word, none))
      | inr (token, is) ↦ no_piece (Word (take n text) token) (drop n text) (omega (arith, some, length-drop n text))
          (sym (take-append-drop n text), refl, is)
    ]

next_piece : (b : ℕ) (more : List ℕ) → NoPiece (b ∷ more) → NoFault (b ∷ more) → ⊥
next_piece b more no_piece no_fault = elim (cases_Bool (is_white b)) [
  | inl white ↦ no_piece (White b) more (omega arith) (refl, white)
  | inr no_white ↦ elim (cases_Bool (is_word_byte b)) [
    | inl word ↦ word_next b more word no_piece no_fault
    | inr no_word ↦ elim (cases_eq b 34) [
      | inl e ↦ string_next more (subst (λ (x : ℕ). NoPiece (x ∷ more)) e no_piece)
          (subst (λ (x : ℕ). NoFault (x ∷ more)) e no_fault)
      | inr no_quote ↦ elim (cases_eq b 35) [
        | inl e ↦ comment_next more (subst (λ (x : ℕ). NoPiece (x ∷ more)) e no_piece)
        | inr no_sign ↦ elim (cases_eq b 91) [
          | inl e ↦ no_piece OpenBracket more (omega arith) (ap (λ (x : ℕ). x ∷ more) e)
          | inr no_open ↦ elim (cases_eq b 93) [
            | inl e ↦ no_piece CloseBracket more (omega arith) (ap (λ (x : ℕ). x ∷ more) e)
            | inr no_close ↦ no_fault BadWord (inr (
              b,
              more,
              refl,
              rw (
                no_white,
                no_word,
                ne_eqb b 34 no_quote,
                ne_eqb b 35 no_sign,
                ne_eqb b 91 no_open,
                ne_eqb b 93
                    no_close,
              ) refl,
            ))
          ]
        ]
      ]
    ]
  ]
]

-- from a stage that pieces reach
lexes_from : (n : ℕ) (text rest : List ℕ) (pieces : List Piece) → length rest < n → Chain PieceAt pieces text rest
    → ((found : List Lexeme) → Spells text found → ⊥) → ((kind : PoKind) (line : ℕ) → HasFault text kind line → ⊥) → ⊥
lexes_from zero text rest pieces short each no_lexemes no_fault = omega arith
lexes_from (suc n) text [] pieces short each no_lexemes no_fault = no_lexemes (lexemes 1 [] pieces)
    (record { pieces = pieces; each = each; found_are = refl })
lexes_from (suc n) text (b ∷ more) pieces short each no_lexemes no_fault =
    next_piece b more
    (λ p rest less at. lexes_from n text rest (pieces ++ p ∷ []) (omega (arith, short, less))
    (Chain-append PieceAt pieces (p ∷ []) text (b ∷ more) rest each (rest, at, refl)) no_lexemes no_fault)
    (λ kind fault. no_fault kind (line_of pieces) (record {
      pieces = pieces;
      rest = b
          ∷ more;
      each = each;
      fault = fault;
      line_is = refl;
    }))

-- ---- grammar

last_of : (x : Lexeme) (xs : List Lexeme) → (ys : List Lexeme) × (y : Lexeme) × (x ∷ xs ≡ ys ++ y ∷ [])
last_of x [] = ([], x, refl)
last_of x (z ∷ xs) = let (ys, y, e) = last_of z xs in (x ∷ ys, y, ap (λ (t : List Lexeme). x ∷ t) e)

-- an open list, from its end
ends : (found : List Lexeme) → IsOpenList (all_tokens found) → ((entries : List Entry) → Derives found entries → ⊥)
    → ((kind : PoKind) (line : ℕ) → HasGrammarFault found kind line → ⊥) → ⊥
ends [] opened no_entries no_fault = no_entries [] ([], refl)
ends (x ∷ xs) opened no_entries no_fault =
    let (before, last, e) = last_of x xs in
    no_fault BadOrder last.line (inr (
      refl,
      record {
        before = before;
        x = last;
        split = e;
        still_open = opened;
        underived = no_entries;
        line_is = refl;
      },
    ))

-- from a stage up to which the list is open
derives_from : (found before after : List Lexeme) → found ≡ before ++ after → IsOpenList (all_tokens before)
    → ((entries : List Entry) → Derives found entries → ⊥) →
    ((kind : PoKind) (line : ℕ) → HasGrammarFault found kind line → ⊥) → ⊥
derives_from found before [] split opened no_entries no_fault =
    ends found (subst (λ (ls : List Lexeme). IsOpenList (all_tokens ls)) (sym (split ∙ append-nil before)) opened)
    no_entries no_fault
derives_from found before (x ∷ after) split opened no_entries no_fault =
    let closed : IsOpenList (all_tokens (before ++ x ∷ [])) → ⊥ = λ o. derives_from found (before ++ x ∷ []) after
    (split ∙ sym (append_assoc before (x ∷ []) after)) o no_entries no_fault in
    let refuse : (kind : PoKind) (line : ℕ) → ClosesBy kind before x line
    → ⊥ = λ kind line how. no_fault kind line (inl (record
    { before = before; x = x; after = after; split = split; open_before = opened; closed = closed; how = how })) in
    refuse BadOrder x.line (λ n four. refuse BadText n four, λ index. refuse BadIndex x.line (index, refl), refl)

-- ---- whole texts

reads_some : (text : List ℕ) → ((entries : List Entry) → Reads text entries → ⊥)
    → ((kind : PoKind) (line : ℕ) → IsFaulty text kind line → ⊥) → ⊥
reads_some text no_entries no_fault =
    lexes_from (length text + 1) text text [] (omega arith) refl
    (λ found spells.
    derives_from found [] found refl (taken_open [] Start refl)
    (λ entries derives. no_entries entries (found, spells, derives))
    (λ kind line fault. no_fault kind line (inr (found, spells, fault))))
    (λ kind line fault. no_fault kind line (inl fault))

pub some_outcome : (text : List ℕ) → ((entries : List Entry) → Gives text entries → ⊥)
    → ((kind : PoKind) × (line : ℕ) × Refuses text kind line → ⊥) → ⊥
some_outcome text no_entries no_refusal = elim (cases_lt 67108864 (length text)) [
  | inl large ↦ no_refusal (TooLarge, 0, (large, refl))
  | inr small ↦ no_refusal (
    NotUtf8,
    _,
    record {
      size = small;
      undecodable = λ utf8.
          let readable : IsReadable text = record { size = small; utf8 = utf8 } in
          reads_some (body text) (λ entries reads. no_entries entries (record { readable = readable; reads = reads }))
          (λ kind line fault. no_refusal (kind, line, faulty_refuses text kind line readable fault));
      line_is = refl;
    },
  )
]
