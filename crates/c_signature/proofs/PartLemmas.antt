-- The parts of a directive: each value has one form, and which front is the longest.
use Rattle.std.proofs.Common.{◌≡◌, ℕ, zero, suc, ◌<◌, ◌≤◌, ◌^◌, true, false, List, [], ◌∷◌, ◌++◌, length}
use Rattle.std.proofs.Common.{take, drop, get_or, Option, None, Some, refl, sym, ap, ◌∙◌, arith, inl, inr}
use Rattle.std.proofs.lemmas.List.{append_cancel_right, append_assoc, take_at, drop_at}
use Rattle.std.proofs.lemmas.Bool.{and_parts, and_from, leb-true, le-leb}
use Rattle.std.specs.List.{list_all}
use Rattle.std.specs.Char.{is_ascii_digit}
use Rattle.std.specs.Str.{bytes_eq}
use Rattle.std.specs.Prelude.{codes, nat_le, if◌then◌else◌}
use Rattle.std.proofs.Math.Nat.{pow-le-pow_right}
use Rattle.c_signature.specs.declared.Size.TheVariants.{Byte, Short, Plain, Long, LongLong, Max, SizeT, PtrDiff}
use Rattle.c_signature.specs.Pieces.{Amount, Fixed, Asked, Modifier, Of, LongDouble}
use Rattle.byte_text.specs.Decimal.{decimal_value}
use Rattle.c_signature.specs.Pieces.{Longest, NumberForm, FlagsForm, WidthForm, PrecisionForm, ModifierForm, is_flag}
use Rattle.c_signature.specs.Pieces.{dollar, star, dot, IsNumeral, is_first_digit}
use Rattle.c_signature.specs.FormatScanning.{BeginsNumber, IsNumberOf}
use Rattle.c_signature.specs.Readers.{IsRun}
use Rattle.c_signature.proofs.Runs.{run_longest, one_run}

-- ---- one reading

-- two longest fronts are equal, and so are their values if a front has one value
pub longest_one : {V : Type 0} (Form : V → List ℕ → Type 0) →
    ((v w : V) (front : List ℕ) → Form v front → Form w front → v ≡ w) → (v w : V) (text rest more : List ℕ)
    → Longest Form v text rest → Longest Form w text more → (v ≡ w) × (rest ≡ more)
longest_one Form one v w text rest more p q =
    let up = p.longest w q.front more q.text_is q.form in
    let down = q.longest v p.front rest p.text_is p.form in
    let long : length p.front ≡ length q.front = omega arith in
    let whole : p.front ++ rest ≡ q.front ++ more = sym p.text_is ∙ q.text_is in
    let fronts : p.front ≡ q.front = sym (take_at p.front rest (length q.front) long)
    ∙ ap (λ (t : List ℕ). take (length q.front) t) whole ∙ take_at q.front more (length q.front) refl in
    let rests : rest ≡ more = sym (drop_at p.front rest (length q.front) long)
    ∙ ap (λ (t : List ℕ). drop (length q.front) t) whole ∙ drop_at q.front more (length q.front) refl in
    (one v w q.front (rw fronts at p.form) q.form, rests)

-- ---- flags

pub flags_value : (v w front : List ℕ) → FlagsForm v front → FlagsForm w front → v ≡ w
flags_value v w front p q = sym p.0 ∙ q.0

pub longest_flags : (text run rest : List ℕ) → IsRun is_flag text run rest → Longest FlagsForm run text rest
longest_flags text run rest is = record {
  front = run;
  text_is = is.text_is;
  form = (refl, is.passes);
  longest = λ other longer more e form. run_longest is_flag text run rest longer more is e (rw form.0 form.1);
}

-- ---- numbers

digit_bounds : (b : ℕ) → is_ascii_digit b ≡ true → (48 ≤ b) × (b ≤ 57)
digit_bounds b e = let both = and_parts (nat_le 48 b) (nat_le b 57) e in (leb-true 48 b both.0, leb-true b 57 both.1)

-- digits that don't begin with 0 are a numeral
pub numeral_from : (digits : List ℕ) → list_all is_ascii_digit digits ≡ true → 0 < length digits
    → (get_or digits 0 0 ≡ 48 → ⊥) → IsNumeral digits
numeral_from [] pass some first = absurd (omega arith)
numeral_from (b ∷ more) pass some first =
    let both = and_parts (is_ascii_digit b) (list_all is_ascii_digit more) pass in
    let bounds = digit_bounds b both.0 in
    (and_from (nat_le 49 b) (nat_le b 57) (le-leb 49 b (omega arith)) (le-leb b 57 bounds.1), both.1)

pub numeral_digits : (digits : List ℕ) → IsNumeral digits → list_all is_ascii_digit digits ≡ true
numeral_digits [] bad = absurd bad
numeral_digits (b ∷ more) (first, others) =
    let both = and_parts (nat_le 49 b) (nat_le b 57) first in
    let low : 49 ≤ b = leb-true 49 b both.0 in
    and_from (is_ascii_digit b) (list_all is_ascii_digit more)
    (and_from (nat_le 48 b) (nat_le b 57) (le-leb 48 b (omega arith)) both.1) others

-- the digit at an index
pub digit_at : (digits : List ℕ) (i : ℕ) → list_all is_ascii_digit digits ≡ true → i < length digits
    → (48 ≤ get_or digits i 0) × (get_or digits i 0 ≤ 57)
digit_at [] i pass lt = absurd (omega arith)
digit_at (b ∷ more) zero pass lt = digit_bounds b (and_parts (is_ascii_digit b) (list_all is_ascii_digit more) pass).0
digit_at (b ∷ more) (suc i) pass lt = digit_at more i (and_parts (is_ascii_digit b) (list_all is_ascii_digit more)
    pass).1 (omega arith)

-- the value of at most 8 digits, which leaves room for a ninth
pub number_room : (v i n : ℕ) → v < 10 ^ i → i < n → n ≤ 9 → v < 100000000
number_room v i n small lt le =
    let le8 : i ≤ 8 = omega arith in
    let top : 10 ^ i ≤ 100000000 = pow-le-pow_right {n = 10} (omega arith) {i = i} {j = 8} le8 in
    omega (arith, small, top)

no_end : (xs : List ℕ) (x : ℕ) → [] ≡ xs ++ x ∷ [] → ⊥
no_end [] x e = cc e
no_end (y ∷ xs) x e = cc e

pub number_value : (v w : Option ℕ) (front : List ℕ) → NumberForm v front → NumberForm w front → v ≡ w
number_value None None front p q = refl
number_value None (Some n) front p (ds, e, num, few, is) = absurd (no_end ds dollar (sym p ∙ e))
number_value (Some m) None front (ds, e, num, few, is) q = absurd (no_end ds dollar (sym q ∙ e))
number_value (Some m) (Some n) front (ds, e, num, few, is) (es, f, num2, few2, is2) =
    let same : ds ≡ es = append_cancel_right ds es (dollar ∷ []) (sym e ∙ f) in
    ap Some (is ∙ ap decimal_value same ∙ sym is2)

number_run : (text digits after ds more : List ℕ) → IsRun is_ascii_digit text digits after → text ≡ (ds ++ dollar ∷ [])
    ++ more → IsNumeral ds → (digits ≡ ds) × (after ≡ dollar ∷ more)
number_run text digits after ds more is e num =
    one_run is_ascii_digit digits after ds (dollar ∷ more) is.passes is.stops (numeral_digits ds num) refl
    (sym is.text_is ∙ e ∙ append_assoc ds (dollar ∷ []) more)

-- digits and a dollar sign
pub longest_number : (m : ℕ) (text digits rest : List ℕ) → IsRun is_ascii_digit text digits (dollar ∷ rest)
    → IsNumberOf digits (Some m) → Longest NumberForm (Some m) text rest
longest_number m text digits rest is (number, value) = record {
  front = digits ++ dollar ∷ [];
  text_is = is.text_is ∙ sym (append_assoc digits (dollar ∷ []) rest);
  form = (digits, refl, number.numeral, number.short, value);
  longest = longest_there;
}
  where
    longest_there : (other : Option ℕ) (longer more : List ℕ) → text ≡ longer ++ more → NumberForm other longer
        → length longer ≤ length (digits ++ dollar ∷ [])
    longest_there None longer more e form = rw form (omega arith)
    longest_there (Some k) longer more e (ds, f, num, few, also) =
        let same = number_run text digits (dollar ∷ rest) ds more is (rw f at e) num in
        rw (f, same.0) (omega arith)

-- no front is a number
longest_none : (text : List ℕ) → ((ds more : List ℕ) → text ≡ (ds ++ dollar ∷ []) ++ more → IsNumeral ds → length ds ≤ 9
    → ⊥) → Longest NumberForm None text text
longest_none text none = record { front = []; text_is = refl; form = refl; longest = longest_there }
  where
    longest_there : (other : Option ℕ) (longer more : List ℕ) → text ≡ longer ++ more → NumberForm other longer
        → length longer ≤ 0
    longest_there None longer more e form = rw form (omega arith)
    longest_there (Some k) longer more e (ds, f, num, few, also) = absurd (none ds more (rw f at e) num few)

-- digits without a dollar sign
pub no_dollar : (text digits after : List ℕ) → IsRun is_ascii_digit text digits after
    → ((rest : List ℕ) → after ≡ dollar ∷ rest → ⊥) → Longest NumberForm None text text
no_dollar text digits after is none = longest_none text (λ ds more e num few. none more
    (number_run text digits after ds more is e num).1)

-- digits that are no argument number
pub no_number : (text digits after : List ℕ) → IsRun is_ascii_digit text digits after → IsNumberOf digits None
    → Longest NumberForm None text text
no_number text digits after is none = longest_none text (λ ds more e num few.
    let same = number_run text digits after ds more is e num in
    none (rw same.0 (record { numeral = num; short = few })))

-- ---- widths and precisions

star_no_numeral : (after : List ℕ) → IsNumeral (star ∷ after) → ⊥
star_no_numeral after (first, others) = cc first

pub width_value : (v w : Amount) (front : List ℕ) → WidthForm v front → WidthForm w front → v ≡ w
width_value Fixed Fixed front p q = refl
width_value Fixed (Asked n) front (inl e) (after, f, form) = absurd (cc (e, f))
width_value Fixed (Asked n) front (inr num) (after, f, form) = absurd (star_no_numeral after (rw f at num))
width_value (Asked m) Fixed front (after, f, form) (inl e) = absurd (cc (e, f))
width_value (Asked m) Fixed front (after, f, form) (inr num) = absurd (star_no_numeral after (rw f at num))
width_value (Asked m) (Asked n) front (after, f, form) (later, g, other) =
    let same : after ≡ later = cc (f, g) in
    ap Asked (number_value m n later (rw same at form) other)

star_no_digits : (digits after : List ℕ) → list_all is_ascii_digit digits ≡ true → digits ≡ star ∷ after → ⊥
star_no_digits digits after pass e =
    let false_is : false ≡ true = rw e at pass in
    cc false_is

pub precision_value : (v w : Amount) (front : List ℕ) → PrecisionForm v front → PrecisionForm w front → v ≡ w
precision_value Fixed Fixed front p q = refl
precision_value Fixed (Asked n) front (inl e) (after, f, form) = absurd (cc (e, f))
precision_value Fixed (Asked n) front (inr (digits, e, pass)) (after, f, form) = absurd
    (star_no_digits digits after pass (cc (e, f)))
precision_value (Asked m) Fixed front (after, f, form) (inl e) = absurd (cc (e, f))
precision_value (Asked m) Fixed front (after, f, form) (inr (digits, e, pass)) = absurd
    (star_no_digits digits after pass (cc (e, f)))
precision_value (Asked m) (Asked n) front (after, f, form) (later, g, other) =
    let same : after ≡ later = cc (f, g) in
    ap Asked (number_value m n later (rw same at form) other)

-- `*` and the number after it
pub width_star : (n : Option ℕ) (after rest : List ℕ) → Longest NumberForm n after rest
    → Longest WidthForm (Asked n) (star ∷ after) rest
width_star n after rest p = record {
  front = star ∷ p.front;
  text_is = ap (λ (t : List ℕ). star ∷ t) p.text_is;
  form = (p.front, refl, p.form);
  longest = longest_there;
}
  where
    longest_there : (other : Amount) (longer more : List ℕ) → star ∷ after ≡ longer ++ more → WidthForm other longer
        → length longer ≤ suc (length p.front)
    longest_there Fixed longer more e (inl none) = rw none (omega arith)
    longest_there Fixed [] more e (inr num) = omega arith
    longest_there Fixed (b ∷ longer) more e (inr num) = let same : star
        ≡ b = cc e in absurd (star_no_numeral longer (rw (← same) at num))
    longest_there (Asked k) longer more e (later, f, form) =
        let tails : after ≡ later ++ more = cc (e, f) in
        let fits = p.longest k later more tails form in
        rw f (omega (arith, fits))

numeral_run : (b : ℕ) (more digits rest : List ℕ) → IsRun is_ascii_digit (b ∷ more) digits rest → is_first_digit b
    ≡ true → IsNumeral digits
numeral_run b more [] rest is first =
    let both = and_parts (nat_le 49 b) (nat_le b 57) first in
    let low : 49 ≤ b = leb-true 49 b both.0 in
    let digit : is_ascii_digit b ≡ true = and_from (nat_le 48 b) (nat_le b 57) (le-leb 48 b (omega arith)) both.1 in
    let here : is_ascii_digit b ≡ false = rw (← is.text_is) at is.stops in
    absurd (cc (digit, here))
numeral_run b more (d ∷ digits) rest is first =
    let same : b ≡ d = cc is.text_is in
    (rw (← same) first, (and_parts (is_ascii_digit d) (list_all is_ascii_digit digits) is.passes).1)

-- digits that don't begin with 0
pub width_digits : (text digits rest : List ℕ) → BeginsNumber text → IsRun is_ascii_digit text digits rest
    → Longest WidthForm Fixed text rest
width_digits [] digits rest begins is = absurd begins
width_digits (b ∷ text) digits rest first is = record {
  front = digits;
  text_is = is.text_is;
  form = inr (numeral_run b text digits rest is first);
  longest = longest_there;
}
  where
    longest_there : (other : Amount) (longer over : List ℕ) → b ∷ text ≡ longer ++ over → WidthForm other longer
        → length longer ≤ length digits
    longest_there Fixed longer over f (inl none) = rw none (omega arith)
    longest_there Fixed longer over f (inr num) = run_longest is_ascii_digit (b ∷ text) digits rest longer over is f
        (numeral_digits longer num)
    longest_there (Asked k) longer over f (later, g, form) =
        let same : b ≡ star = cc (f, g) in
        let here : is_first_digit star ≡ true = rw same at first in
        absurd (cc here)

-- neither `*` nor digits
pub width_none : (text : List ℕ) → ((rest : List ℕ) → text ≡ star ∷ rest → ⊥) → (BeginsNumber text → ⊥)
    → Longest WidthForm Fixed text text
width_none text no_star no_digit = record { front = []; text_is = refl; form = inl refl; longest = longest_there }
  where
    longest_there : (other : Amount) (longer more : List ℕ) → text ≡ longer ++ more → WidthForm other longer
        → length longer ≤ 0
    longest_there Fixed longer more e (inl empty) = rw empty (omega arith)
    longest_there Fixed [] more e (inr num) = omega arith
    longest_there Fixed (b ∷ longer) more e (inr num) = absurd (no_digit (rw e num.0))
    longest_there (Asked k) longer more e (later, f, form) = absurd
        (no_star (later ++ more) (e ∙ ap (λ (t : List ℕ). t ++ more) f))

-- `.*` and the number after it
pub precision_star : (n : Option ℕ) (after rest : List ℕ) → Longest NumberForm n after rest
    → Longest PrecisionForm (Asked n) (dot ∷ star ∷ after) rest
precision_star n after rest p = record {
  front = dot ∷ star ∷ p.front;
  text_is = ap (λ (t : List ℕ). dot ∷ star ∷ t) p.text_is;
  form = (p.front, refl, p.form);
  longest = longest_there;
}
  where
    longest_there : (other : Amount) (longer more : List ℕ) → dot ∷ star ∷ after ≡ longer ++ more
        → PrecisionForm other longer → length longer ≤ suc (suc (length p.front))
    longest_there Fixed longer more e (inl none) = rw none (omega arith)
    longest_there Fixed longer more e (inr ([], f, pass)) = rw f (omega arith)
    longest_there Fixed longer more e (inr (b ∷ digits, f, pass)) =
        let same : b ≡ star = cc (e, f) in
        absurd (star_no_digits (b ∷ digits) digits pass (ap (λ (t : ℕ). t ∷ digits) same))
    longest_there (Asked k) longer more e (later, f, form) =
        let tails : after ≡ later ++ more = cc (e, f) in
        let fits = p.longest k later more tails form in
        rw f (omega (arith, fits))

-- a dot and digits
pub precision_digits : (after digits rest : List ℕ) → ((more : List ℕ) → after ≡ star ∷ more → ⊥)
    → IsRun is_ascii_digit after digits rest → Longest PrecisionForm Fixed (dot ∷ after) rest
precision_digits after digits rest no_star is = record {
  front = dot ∷ digits;
  text_is = ap (λ (t : List ℕ). dot ∷ t) is.text_is;
  form = inr (digits, refl, is.passes);
  longest = longest_there;
}
  where
    longest_there : (other : Amount) (longer more : List ℕ) → dot ∷ after ≡ longer ++ more → PrecisionForm other longer
        → length longer ≤ suc (length digits)
    longest_there Fixed longer more e (inl none) = rw none (omega arith)
    longest_there Fixed longer more e (inr (others, f, pass)) =
        let tails : after ≡ others ++ more = cc (e, f) in
        let fits = run_longest is_ascii_digit after digits rest others more is tails pass in
        rw f (omega (arith, fits))
    longest_there (Asked k) longer more e (later, f, form) = let tails : after ≡ star
        ∷ (later ++ more) = cc (e, f) in absurd (no_star (later ++ more) tails)

-- no dot
pub precision_none : (text : List ℕ) → ((more : List ℕ) → text ≡ dot ∷ more → ⊥) → Longest PrecisionForm Fixed text text
precision_none text none = record { front = []; text_is = refl; form = inl refl; longest = longest_there }
  where
    longest_there : (other : Amount) (longer more : List ℕ) → text ≡ longer ++ more → PrecisionForm other longer
        → length longer ≤ 0
    longest_there Fixed longer more e (inl empty) = rw empty (omega arith)
    longest_there Fixed longer more e (inr (digits, f, pass)) = absurd
        (none (digits ++ more) (e ∙ ap (λ (t : List ℕ). t ++ more) f))
    longest_there (Asked k) longer more e (later, f, form) = absurd
        (none (star ∷ (later ++ more)) (e ∙ ap (λ (t : List ℕ). t ++ more) f))

-- ---- length modifiers

-- the modifier that a text spells
spelled : List ℕ → Option Modifier
spelled front =
    if bytes_eq front [] then Some (Of Plain) else
    if bytes_eq front (codes "hh") then Some (Of Byte) else
    if bytes_eq front (codes "h") then Some (Of Short) else
    if bytes_eq front (codes "l") then Some (Of Long) else
    if bytes_eq front (codes "ll") then Some (Of LongLong) else
    if bytes_eq front (codes "q") then Some (Of LongLong) else
    if bytes_eq front (codes "j") then Some (Of Max) else
    if bytes_eq front (codes "z") then Some (Of SizeT) else
    if bytes_eq front (codes "t") then Some (Of PtrDiff) else
    if bytes_eq front (codes "L") then Some LongDouble else None

is_spelled : (m : Modifier) (front : List ℕ) → ModifierForm m front → Some m ≡ spelled front
unfolding spelled
is_spelled (Of Plain) front e = rw e refl
is_spelled (Of Byte) front e = rw e refl
is_spelled (Of Short) front e = rw e refl
is_spelled (Of Long) front e = rw e refl
is_spelled (Of LongLong) front (inl e) = rw e refl
is_spelled (Of LongLong) front (inr e) = rw e refl
is_spelled (Of Max) front e = rw e refl
is_spelled (Of SizeT) front e = rw e refl
is_spelled (Of PtrDiff) front e = rw e refl
is_spelled LongDouble front e = rw e refl

pub modifier_value : (v w : Modifier) (front : List ℕ) → ModifierForm v front → ModifierForm w front → v ≡ w
modifier_value v w front p q = let e = is_spelled v front p in let f = is_spelled w front q in cc (e, f)

short_modifier : (m : Modifier) (front : List ℕ) → ModifierForm m front → length front ≤ 2
short_modifier (Of Plain) front e = rw e (omega arith)
short_modifier (Of Byte) front e = rw e (omega arith)
short_modifier (Of Short) front e = rw e (omega arith)
short_modifier (Of Long) front e = rw e (omega arith)
short_modifier (Of LongLong) front (inl e) = rw e (omega arith)
short_modifier (Of LongLong) front (inr e) = rw e (omega arith)
short_modifier (Of Max) front e = rw e (omega arith)
short_modifier (Of SizeT) front e = rw e (omega arith)
short_modifier (Of PtrDiff) front e = rw e (omega arith)
short_modifier LongDouble front e = rw e (omega arith)

pub modifier_ll : (rest : List ℕ) → Longest ModifierForm (Of LongLong) (108 ∷ 108 ∷ rest) rest
modifier_ll rest = record {
  front = codes "ll";
  text_is = refl;
  form = inl refl;
  longest = λ other longer more e form.
      short_modifier other longer form;
}

pub not_at : (b : ℕ) (rest front more word : List ℕ) → b ∷ rest ≡ front ++ more → front ≡ word
    → (b ≡ get_or (word ++ more) 0 0 → ⊥) → ⊥
not_at b rest front more word f e apart = apart (ap (λ (t : List ℕ). get_or t 0 0)
    (f ∙ ap (λ (t : List ℕ). t ++ more) e))

q_alone : (m : Modifier) (longer more rest : List ℕ) → 113 ∷ rest ≡ longer ++ more → ModifierForm m longer
    → length longer ≤ 1
q_alone (Of Plain) longer more rest f e = rw e (omega arith)
q_alone (Of Byte) longer more rest f e = absurd (not_at 113 rest longer more (codes "hh") f e (λ g. omega arith))
q_alone (Of Short) longer more rest f e = rw e (omega arith)
q_alone (Of Long) longer more rest f e = rw e (omega arith)
q_alone (Of LongLong) longer more rest f (inl e) = absurd (not_at 113 rest longer more (codes "ll") f e
    (λ g. omega arith))
q_alone (Of LongLong) longer more rest f (inr e) = rw e (omega arith)
q_alone (Of Max) longer more rest f e = rw e (omega arith)
q_alone (Of SizeT) longer more rest f e = rw e (omega arith)
q_alone (Of PtrDiff) longer more rest f e = rw e (omega arith)
q_alone LongDouble longer more rest f e = rw e (omega arith)

pub modifier_q : (rest : List ℕ) → Longest ModifierForm (Of LongLong) (113 ∷ rest) rest
modifier_q rest = record {
  front = codes "q";
  text_is = refl;
  form = inr refl;
  longest = λ other longer more e form.
      q_alone other longer more rest e form;
}
