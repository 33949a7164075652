-- How many lines end, one after another.
use Rattle.std.proofs.Common.{◌≡◌, ◌∙◌, refl, sym, ap, subst, ℕ, zero, suc, ◌+◌, ◌-◌, ◌<◌, ◌≤◌, true, false, List, []}
use Rattle.std.proofs.Common.{◌∷◌, ◌++◌, length, get_or, take, drop, arith, add-one, append_assoc, length-append}
use Rattle.std.proofs.Common.{length-drop, inl, inr, Option, IsErrOf}
use Rattle.std.proofs.Math.Seq.{take-add}
use Rattle.std.proofs.lemmas.Bool.{cases_Bool, cases_lt}
use Rattle.std.proofs.lemmas.List.{append-nil, drop-append-le, take-append-le, drop-drop, drop_all, get_or-drop}
use Rattle.std.proofs.lemmas.List.{get_or_append_left, get_or-append_right}
use Rattle.std.proofs.lemmas.List.Sums.{fails_before_first, passes_at_first}
use Rattle.std.specs.List.{concat, onto_first, position_or_len}
use Rattle.devices.specs.Devices.{RisesBy}
use Rattle.devices.specs.Lines.{is_line_end, lines}
use Rattle.devices.specs.Incoming.{Incoming, MayCome, HasLineEnd, HasEnd, HasEnds, EndsLine, EndsLines, CutsLines}
use Rattle.devices.specs.Incoming.{EndsFewer, LacksEnd, LacksLines}
use Rattle.devices.specs.declared.incoming.LineInputFault.{LineInputFault}
use Rattle.devices.specs.declared.incoming.LineInputFault.TheVariants.{TooLong, Unreadable, Memory}
use Rattle.devices.specs.Arrivals.{AddsInput, Comes}
use Rattle.devices.proofs.Arriving.{adds_none, adds_then, both, failed, rises_both, rises_none}
use Rattle.devices.proofs.Ends.{one_line}

-- ---- lists of lines

-- y and ys follow place i of a list
record Cut {X : Type 0} (i : ℕ) (xs : List X) (y : X) (ys : List X) : Type 0 where
  within : i < length xs
  behind : drop (suc i) xs ≡ ys
  front : take (suc i) xs ≡ take i xs ++ y ∷ []

cut_at : {X : Type 0} (i : ℕ) (xs : List X) (y : X) (ys : List X) → drop i xs ≡ y ∷ ys → Cut i xs y ys
cut_at zero [] y ys e = absurd (cc)
cut_at zero (x ∷ xs) y ys e = record { within = omega arith; behind = cc; front = cc }
cut_at (suc i) [] y ys e = absurd (cc)
cut_at (suc i) (x ∷ xs) y ys e = let h = cut_at i xs y ys e in record
    { within = omega arith; behind = h.behind; front = ap (λ zs. x ∷ zs) h.front }

concat-snoc : (ls : List (List ℕ)) (l : List ℕ) → concat (ls ++ l ∷ []) ≡ concat ls ++ l
concat-snoc [] l = append-nil l
concat-snoc (x ∷ ls) l = ap (λ zs. x ++ zs) (concat-snoc ls l) ∙ sym (append_assoc x (concat ls) l)

some_first : (x : ℕ) (ls : List (List ℕ)) → 0 < length (onto_first x ls)
some_first x [] = omega arith
some_first x (l ∷ ls) = omega arith

some_line : (xs : List ℕ) → 0 < length xs → 0 < length (lines xs)
some_line [] some = absurd (omega arith)
some_line (x ∷ xs) some = elim (cases_Bool (is_line_end x)) [
  | inl ends ↦ rw ends (omega arith)
  | inr goes ↦ rw goes (some_first x (lines xs))
]

-- ---- more comes

pub ends_grown : (count : ℕ) (x y : Incoming) (from end : ℕ) (more : List ℕ) → x.ended ≡ false → y.left ≡ x.left ++ more
    → EndsLines count x from end → EndsLines count y from end
ends_grown count x y from end more going grown had = record {
  low = had.low;
  within = omega (arith, had.within, ap length grown, length-append x.left more);
  cut = λ text may. cut_of text;
}
  where
    front : (k : ℕ) → k ≤ length x.left → drop k y.left ≡ drop k x.left ++ more
    front k within = ap (drop k) grown ∙ drop-append-le k x.left more within

    behind : (k : ℕ) (text : List ℕ) → k ≤ length x.left → drop k y.left ++ text ≡ drop k x.left ++ (more ++ text)
    behind k text within = ap (λ zs. zs ++ text) (front k within) ∙ append_assoc (drop k x.left) more text

    cut_of : (text : List ℕ) → CutsLines count (drop from y.left ++ text) (take (end - from) (drop from y.left))
        (drop end y.left ++ text)
    cut_of text =
        let low : from ≤ length x.left = omega (arith, had.low, had.within) in
        let parts : take (end - from) (drop from y.left) ≡ take (end - from) (drop from x.left) = ap (take (end - from))
        (front from low) ∙ take-append-le (end - from) (drop from x.left) more
        (omega (arith, had.low, had.within, length-drop from x.left)) in
        rw (behind from text low, parts, behind end text had.within) (had.cut (more ++ text)
        (λ ended. both x.ended ended going))

pub ends_later : (count : ℕ) (a b : Option (List ℕ)) (x y : Incoming) (from end : ℕ) → AddsInput a b x y
    → EndsLines count x from end → EndsLines count y from end
ends_later count a b x y from end adds had = elim (cases_Bool x.ended) [
  | inl ended ↦ subst (λ v. EndsLines count v from end) (sym (adds.stays ended)) had
  | inr going ↦ ends_grown count x y from end adds.more going adds.behind had
]

-- ---- one line more

pub ends_none : (input : Incoming) (from : ℕ) → from ≤ length input.left → EndsLines 0 input from from
ends_none input from within = record {
  low = omega arith;
  within = within;
  cut = λ text may. record {
    enough = omega arith;
    front_is = let none : from - from ≡ 0 = omega arith in rw none refl;
    rest_is = refl;
  };
}

pub ends_more : (count : ℕ) (input : Incoming) (from end behind : ℕ) → EndsLines count input from end
    → EndsLine input end behind → EndsLines (count + 1) input from behind
ends_more count input from end behind had line = record {
  low = omega (arith, had.low, line.some);
  within = line.within;
  cut = λ text may. cut_of text (had.cut text may) (line.cut text may);
}
  where
    cut_of : (text : List ℕ)
        → CutsLines count (drop from input.left ++ text) (take (end - from) (drop from input.left))
        (drop end input.left ++ text)
        → lines (drop end input.left ++ text)
        ≡ take (behind - end) (drop end input.left) ∷ lines (drop behind input.left ++ text)
        → CutsLines (count + 1) (drop from input.left ++ text) (take (behind - from) (drop from input.left))
        (drop behind input.left ++ text)
    cut_of text before one =
        let all : List (List ℕ) = lines (drop from input.left ++ text) in
        let line_is : List ℕ = take (behind - end) (drop end input.left) in
        let cut = cut_at count all line_is (lines (drop behind input.left ++ text)) (sym before.rest_is ∙ one) in
        let far : behind - from ≡ (end - from) + (behind - end) = omega (arith, had.low, line.some) in
        let there : from + (end - from) ≡ end = omega (arith, had.low) in
        record {
          enough = omega (arith, cut.within);
          front_is = ap (λ n. take n (drop from input.left)) far
              ∙ take-add (end - from) (behind - end) (drop from input.left)
              ∙ ap (λ zs. take (end - from) (drop from input.left) ++ take (behind - end) zs)
              (drop-drop (end - from) from input.left ∙ ap (λ n. drop n input.left) there)
              ∙ ap (λ zs. zs ++ line_is) before.front_is ∙ sym (concat-snoc (take count all) line_is)
              ∙ rw (add-one, cut.front) refl;
          rest_is = rw add-one (sym cut.behind);
        }

-- fewer lines than are asked for
pub lacks_lines : (count n : ℕ) (input : Incoming) (from end : ℕ) → n < count → EndsLines n input from end
    → input.ended ≡ true → length input.left ≡ end → LacksLines count input from
lacks_lines count n input from end fewer had ended whole =
    let cut = had.cut [] (λ _. refl) in
    let rest : drop n (lines (drop from input.left ++ [])) ≡ [] = sym cut.rest_is
    ∙ ap (λ zs. lines (zs ++ [])) (drop_all end input.left (omega arith)) in
    let same : drop from input.left ++ [] ≡ drop from input.left = append-nil (drop from input.left) in
    record {
      ended = ended;
      fewer = omega (
        arith,
        length-drop n (lines (drop from input.left ++ [])),
        ap length rest,
        ap (λ zs. length (lines zs)) same,
      );
    }

-- ---- the end of each line is there, where the ends of all are

-- where the first LF of a text is; its length if it has none
abbrev first_end : List ℕ → ℕ
first_end text = position_or_len is_line_end text

-- a byte that is no LF
abbrev text_more : List ℕ
text_more = 65 ∷ []

lacks_more : (xs : List ℕ) → position_or_len is_line_end xs ≡ length xs → (k : ℕ) → k < length (xs ++ 65 ∷ [])
    → is_line_end (get_or (xs ++ 65 ∷ []) k 0) ≡ false
lacks_more xs none k below = elim (cases_lt k (length xs)) [
  | inl lt ↦ rw (get_or_append_left xs (65 ∷ []) 0 k lt) (fails_before_first is_line_end xs k 0 (omega arith))
  | inr le ↦
      let last : k - length xs ≡ 0 = omega (arith, length-append xs (65 ∷ [])) in
      rw (get_or-append_right xs (65 ∷ []) (length xs) k 0 refl le, last) refl
]

position_or_len-le : (xs : List ℕ) → position_or_len is_line_end xs ≤ length xs
position_or_len-le [] = omega arith
position_or_len-le (x ∷ xs) = elim (cases_Bool (is_line_end x)) [
  | inl ends ↦ rw ends (omega arith)
  | inr goes ↦ let rest = position_or_len-le xs in rw goes (omega arith)
]

one_left : (n : ℕ) (all : List (List ℕ)) (line : List ℕ) → drop n all ≡ line ∷ [] → length all ≡ n + 1
one_left n all line e = omega (arith, length-drop n all, ap length e)

-- the last line has no LF, so more may come before its end
not_last : (count n : ℕ) (input : Incoming) (from here end : ℕ) → n < count → input.ended ≡ false
    → EndsLines n input from here → EndsLines count input from end
    → position_or_len is_line_end (drop here input.left) ≡ length (drop here input.left) → ⊥
not_last count n input from here end below going had whole none =
    let may : MayCome input text_more = λ ended. both input.ended ended going in
    let first = had.cut text_more may in
    let last = whole.cut text_more may in
    let left : List ℕ = drop here input.left in
    let alone : lines (left ++ text_more) ≡ (left ++ text_more) ∷ [] = one_line (left ++ text_more)
    (omega (arith, length-append left text_more)) (lacks_more left none) in
    let all : List (List ℕ) = lines (drop from input.left ++ text_more) in
    let size : length all ≡ n + 1 = one_left n all (left ++ text_more) (sym first.rest_is ∙ alone) in
    let rest : List ℕ = drop end input.left in
    let some = some_line (rest ++ text_more) (omega (arith, length-append rest text_more)) in
    absurd (omega (arith, size, last.enough, ap length last.rest_is, length-drop count all, some))

line_end_there : (input : Incoming) (here : ℕ)
    → position_or_len is_line_end (drop here input.left) < length (drop here input.left) → HasLineEnd input.left here
line_end_there input here below =
    let k : ℕ = position_or_len is_line_end (drop here input.left) in
    record {
      offset = here + k;
      low = omega arith;
      high = omega (arith, length-drop here input.left);
      ends = rw (← get_or-drop here input.left k 0) (passes_at_first is_line_end (drop here input.left) 0 below);
    }

pub has_end : (count n : ℕ) (input : Incoming) (from here : ℕ) → n < count → EndsLines n input from here
    → HasEnds count input from → HasEnd input here
has_end count n input from here below had (inl ended) = inl ended
has_end count n input from here below had (inr whole) = elim (cases_Bool input.ended) [
  | inl ended ↦ inl ended
  | inr going ↦ inr (elim (cases_lt (first_end (drop here input.left)) (length (drop here input.left))) [
    | inl lt ↦ line_end_there input here lt
    | inr le ↦ absurd (not_last count n input from here whole.0 below going had whole.1
        (omega (arith, position_or_len-le (drop here input.left))))
  ])
]

-- ---- the loop

-- `counted` lines end at `end`
pub record HasCounted (before after : Option (List ℕ)) (failed failed' reads reads' counted : ℕ) (old new : Incoming)
    (from end most : ℕ) : Type 0 where
  pub came : AddsInput before after old new
  pub ends : EndsLines counted new from end
  pub within : 0 < counted → end ≤ most
  pub later : failed ≤ failed'
  pub reads_later : RisesBy 0 reads reads'

pub counted_none : (a : Option (List ℕ)) (failed reads : ℕ) (input : Incoming) (from most : ℕ)
    → from ≤ length input.left → HasCounted a a failed failed reads reads 0 input input from from most
counted_none a failed reads input from most within = record {
  came = adds_none a input;
  ends = ends_none input from within;
  within = λ some. absurd (omega arith);
  later = omega arith;
  reads_later = rises_none reads;
}

pub counted_more : (a b c : Option (List ℕ)) (f f' f'' r r' r'' n : ℕ) (x y z : Incoming) (from end behind most : ℕ)
    → HasCounted a b f f' r r' n x y from end most → AddsInput b c y z → EndsLine z end behind → behind ≤ most
    → f' ≤ f''
    → RisesBy 0 r' r'' → HasCounted a c f f'' r r'' (n + 1) x z from behind most
counted_more a b c f f' f'' r r' r'' n x y z from end behind most had adds line within later reads = record {
  came = adds_then a b c x y z had.came adds;
  ends = ends_more n z from end behind (ends_later n b c y z from end adds had.ends) line;
  within = λ some. within;
  later = omega (arith, had.later);
  reads_later = rises_both 0 0 r r' r'' had.reads_later reads;
}

-- the input ended before all were counted
pub counted_all : (a b c : Option (List ℕ)) (f f' r r' n count : ℕ) (x y z : Incoming) (from end most : ℕ)
    → HasCounted a b f f' r r' n x y from end most → AddsInput b c y z → n < count → (z.ended ≡ true)
    × (length z.left ≡ end) → LacksLines count z from
counted_all a b c f f' r r' n count x y z from end most had adds below none = lacks_lines count n z from end below
    (ends_later n b c y z from end adds had.ends) none.0 none.1

-- where the ends of all are there, so is this one, and nothing is read
pub lazy_more : {R : Type 0} (count n : ℕ) (a a' a'' : R) (x y z : Incoming) (from here : ℕ) → n < count
    → EndsLines n y from here → (HasEnds count x from → (a' ≡ a) × (y ≡ x))
    → (HasEnd y here → (a'' ≡ a') × (z ≡ y)) → HasEnds count x from → (a'' ≡ a) × (z ≡ x)
lazy_more count n a a' a'' x y z from here below had before one all =
    let first = before all in
    let there : HasEnd y here = has_end count n y from here below had
    (subst (λ v. HasEnds count v from) (sym first.1) all) in
    let second = one there in
    (second.0 ∙ first.0, second.1 ∙ first.1)

-- the line after those that end is too long
pub ends_fewer : (T : Type 0) (a b c : Option (List ℕ)) (f f' r r' n count : ℕ) (x y z : Incoming)
    (from end most : ℕ) (fault : LineInputFault) → HasCounted a b f f' r r' n x y from end most → n < count
    → Comes b c y z (failed T fault)
    → (IsErrOf (failed T fault) TooLong → (most < length z.left) × LacksEnd z.left end most)
    → IsErrOf (failed T fault) TooLong → EndsFewer count z from most
ends_fewer T a b c f f' r r' n count x y z from end most TooLong had below adds long is = record {
  ended = n;
  fewer = below;
  end = end;
  ends = ends_later n b c y z from end adds had.ends;
  lacks = (long is).1;
  over = (long is).0;
}
ends_fewer T a b c f f' r r' n count x y z from end most Unreadable had below comes long is = absurd (cc)
ends_fewer T a b c f f' r r' n count x y z from end most Memory had below comes long is = absurd (cc)
