-- Lines that are taken off an input.
use Rattle.catserve.proofs.Common.{◌≡◌, ◌∙◌, refl, sym, ap, subst, ℕ, zero, suc, ◌+◌, ◌-◌, ◌<◌, ◌≤◌, true, List, []}
use Rattle.catserve.proofs.Common.{◌∷◌, ◌++◌, length, take, drop, arith, inl, append_assoc, length-append, Option, Some}
use Rattle.catserve.proofs.Common.{None, IfSome, IfNone, Result, Err, IsErrOf, length-drop, concat, IsUtf8, append-nil}
use Rattle.catserve.proofs.Common.{nil_from_length, take-append-le, drop-append-le, take-append-drop, length-take-le}
use Rattle.catserve.proofs.Common.{take-add, take-nil, concat-append, lines, Incoming, MayCome, EndsLine, EndsLines}
use Rattle.catserve.proofs.Common.{consumes_none, consumes_both, rises_none, rises_both, most_script, ScriptKind}
use Rattle.catserve.proofs.Common.{SessionFault, InputSeen, FailsToRead, HearingValue, CountsOn, HasTaken, HasGot}
use Rattle.catserve.proofs.Common.{Stays, HearsNothing, HearsNoLine, FailsFor, EndsNext, HearsText, HearsUndecodable}
use Rattle.catserve.proofs.Common.{most_lines}
use Rattle.std.proofs.Math.Nat.{sub-zero}
use Rattle.devices.specs.Arrivals.{AddsInput, AddsSome, Comes}
use Rattle.devices.specs.declared.incoming.LineInputFault.{LineInputFault}
use Rattle.devices.specs.declared.incoming.LineInputFault.TheVariants as line_fault
use Rattle.script_text.specs.declared.fault.ScriptKind.TheVariants as kind

-- ---- what was read

may_add : (x y : Incoming) (more text : List ℕ) → y.left ≡ x.left ++ more → (x.ended ≡ true → y ≡ x) → MayCome y text
    → MayCome x (more ++ text)
may_add x y more text behind stays may ended =
    let same : y ≡ x = stays ended in
    let none : more ≡ [] = nil_from_length more
    (omega (arith, ap length behind, ap (λ (v : Incoming). length v.left) same, length-append x.left more)) in
    rw none (may (ap (λ (v : Incoming). v.ended) same ∙ ended))

pub counts_none : {i : InputSeen} → CountsOn i i
counts_none {i} = record { later = omega arith; reads = rises_none i.reads }

pub counts_both : {i j k : InputSeen} → CountsOn i j → CountsOn j k → CountsOn i k
counts_both {i} {j} {k} a b = record {
  later = omega (arith, a.later, b.later);
  reads = rises_both 0 0 i.reads j.reads k.reads a.reads b.reads;
}

pub stays_whole : {i j : InputSeen} {x y : HearingValue} → AddsInput i.left j.left x.input y.input → CountsOn i j
    → y.number ≡ x.number → y.size ≡ x.size → Stays i j x y []
stays_whole {x} {y} adds counts number size = record {
  got = record {
    more = adds.more;
    read = rw (append-nil adds.more) adds.consumed;
    behind = adds.behind;
    may = λ text. may_add x.input y.input adds.more text adds.behind adds.stays;
    at_end = adds.at_end;
    counts = counts;
  };
  number = number;
  size = size;
}

pub stays_lost : {i j : InputSeen} {x y : HearingValue} (adds : AddsSome i.left j.left x.input y.input) → CountsOn i j
    → y.number ≡ x.number → y.size ≡ x.size → Stays i j x y adds.lost
stays_lost {x} {y} adds counts number size = record {
  got = record {
    more = adds.more;
    read = adds.consumed;
    behind = adds.behind;
    may = λ text. may_add x.input y.input adds.more text adds.behind adds.stays;
    at_end = adds.at_end;
    counts = counts;
  };
  number = number;
  size = size;
}

abbrev pub stays_put : {i : InputSeen} {x : HearingValue} → Stays i i x x []
stays_put {i} {x} = record {
  got = record {
    more = [];
    read = consumes_none i.left;
    behind = sym (append-nil x.input.left);
    may = λ text may. may;
    at_end = λ before. before;
    counts = counts_none;
  };
  number = refl;
  size = refl;
}

pub found_so : {i j : InputSeen} {x y : HearingValue} (end : Option ℕ) → Stays i j x y [] → x.number < most_lines
    → x.size ≤ most_script → IfSome end (λ place. EndsLine y.input 0 place)
    → IfSome end (λ place. place ≤ most_script - x.size)
    → IfNone end ((y.input.ended ≡ true) × (length y.input.left ≡ 0)) → EndsNext i j x y end
found_so (Some place) stays few size line within none = record
    { stays = stays; line = (line, omega (arith, size, within)); none = tt; few = few }
found_so None stays few size line within none = record { stays = stays; line = tt; none = none; few = few }

-- ---- what was taken

abbrev pub taken_none : {i : InputSeen} {x : Incoming} → HasTaken i i x x []
taken_none {i} {x} = record {
  more = [];
  read = consumes_none i.left;
  may = λ text may. may;
  cut = λ text may. ap (λ xs. lines (xs ++ text)) (append-nil x.left);
  whole = append-nil x.left;
  at_end = λ before. before;
  counts = counts_none;
}

abbrev pub taken_then : {i j k : InputSeen} {x y z : Incoming} {front back : List (List ℕ)} → HasTaken i j x y front
    → HasTaken j k y z back → HasTaken i k x z (front ++ back)
taken_then {i} {j} {k} {x} {y} {z} {front} {back} a b = record {
  more = a.more ++ b.more;
  read = consumes_both i.left j.left k.left a.more b.more a.read b.read;
  may = λ text may. subst (MayCome x) (sym (append_assoc a.more b.more text)) (a.may (b.more ++ text) (b.may text may));
  cut = λ text may. simp append_assoc (simp append_assoc at (a.cut (b.more ++ text) (b.may text may))
      ∙ ap (λ ls. front ++ ls) (simp append_assoc at (b.cut text may)));
  whole = rw (← append_assoc x.left a.more b.more, a.whole, concat-append, append_assoc (concat front))
      (ap (λ xs. concat front ++ xs) b.whole ∙ sym (append_assoc (concat front) (concat back) z.left));
  at_end = λ before. b.at_end (a.at_end before);
  counts = counts_both a.counts b.counts;
}

-- what was got is there to be taken
abbrev pub got_taken : {i j : InputSeen} {x y z : Incoming} {raw : List (List ℕ)} → HasGot i j x y []
    → z.ended ≡ y.ended → y.left ≡ concat raw ++ z.left
    → ((text : List ℕ) → MayCome y text → lines (y.left ++ text) ≡ raw ++ lines (z.left ++ text)) → HasTaken i j x z raw
got_taken {y} {z} got same whole cut =
    let may_y : (text : List ℕ) → MayCome z text → MayCome y text = λ text may ended. may (same ∙ ended) in
    record {
      more = got.more;
      read = rw (← append-nil got.more) got.read;
      may = λ text may. got.may text (may_y text may);
      cut = λ text may. ap (λ xs. lines (xs ++ text)) (sym got.behind) ∙ cut text (may_y text may);
      whole = sym got.behind ∙ whole;
      at_end = λ before ended. got.at_end before (sym same ∙ ended);
      counts = got.counts;
    }

drop_zero : (xs : List ℕ) → drop 0 xs ≡ xs
drop_zero [] = refl
drop_zero (x ∷ xs) = refl

-- one line is taken
pub line_cut : {y : Incoming} {end : ℕ} → EndsLine y 0 end → (text : List ℕ) → MayCome y text
    → lines (y.left ++ text) ≡ (take end y.left ∷ []) ++ lines (drop end y.left ++ text)
line_cut ends text may = simp (drop_zero, sub-zero) at (ends.cut text may)

pub line_whole : (y : Incoming) (end : ℕ) → y.left ≡ concat (take end y.left ∷ []) ++ drop end y.left
line_whole y end = sym (ap (λ xs. xs ++ drop end y.left) (append-nil (take end y.left)) ∙ take-append-drop end y.left)

-- ---- a load with its text

again_first : (b count : ℕ) (text : List ℕ) → lines (concat (take count (lines text))) ≡ take count (lines text)
    → lines (concat (take (suc count) (lines text))) ≡ take (suc count) (lines text)
    → lines (concat (take (suc count) (lines (b ∷ text)))) ≡ take (suc count) (lines (b ∷ text))
again_first b count text once twice = grind (arith, take-nil)

-- the first lines of a text are the lines of what they are together
pub lines_again : (count : ℕ) (text : List ℕ) → lines (concat (take count (lines text))) ≡ take count (lines text)
lines_again (suc count) (b ∷ text) =
    again_first b count text (lines_again count text) (lines_again (suc count) text)
lines_again _ _ = refl

-- a line that ends goes on to end
pub line_later : {i j : InputSeen} {x y : Incoming} {end : ℕ} → HasGot i j x y [] → EndsLine x 0 end → EndsLine y 0 end
line_later {x} got ends =
    record {
      some = ends.some;
      within = omega (arith, ends.within, ap length got.behind, length-append x.left got.more);
      cut = λ text may. rw got.behind (simp (sub-zero, take-append-le, drop-append-le, ends.within, append_assoc)
          (line_cut ends (got.more ++ text) (got.may text may)));
    }

pub first_same : {i j : InputSeen} {x y : Incoming} {end : ℕ} → HasGot i j x y [] → EndsLine x 0 end
    → take end y.left ≡ take end x.left
first_same {x} {end} got ends = ap (take end) got.behind ∙ take-append-le end x.left got.more ends.within

-- the line that ends there, and the text that follows it
pub text_heard : {i j : InputSeen} {x y : Incoming} {end count place : ℕ} → HasGot i j x y [] → EndsLine x 0 end
    → EndsLines count y end place
    → (texts : List (List ℕ)) × (length texts ≡ count) × (take (place - end) (drop end y.left) ≡ concat texts)
    × (take place y.left ≡ concat (take end x.left ∷ texts)) × ((more : List ℕ) → MayCome y more
    → lines (y.left ++ more) ≡ (take end x.left ∷ texts) ++ lines (drop place y.left ++ more))
text_heard {x} {y} {end} {count} {place} got first ends =
    let line : EndsLine y 0 end = line_later got first in
    let same : take end y.left ≡ take end x.left = first_same got first in
    let text : List ℕ = take (place - end) (drop end y.left) in
    let none : MayCome y [] = λ ended. refl in
    let at : (more : List ℕ) → MayCome y more → lines text ≡ take count (lines (drop end y.left ++ more)) =
    λ more may. ap lines (ends.cut more may).front_is ∙ lines_again count (drop end y.left ++ more) in
    let counted : length (lines text) ≡ count = ap length (at [] none)
    ∙ length-take-le count (lines (drop end y.left ++ [])) (ends.cut [] none).enough in
    let whole : text ≡ concat (lines text) = (ends.cut [] none).front_is ∙ ap concat (sym (at [] none)) in
    let all : take place y.left ≡ take end y.left ++ text = ap (λ n. take n y.left) (omega (arith, ends.low))
    ∙ take-add end (place - end) y.left in
    let together : take place y.left ≡ concat (take end x.left ∷ lines text) = all
    ∙ ap (λ xs. xs ++ text) same ∙ ap (λ xs. take end x.left ++ xs) whole in (
      lines text,
      counted,
      whole,
      together,
      (λ more may. rw (line_cut line more may, same, at more may, (ends.cut more may).rest_is)
          (ap (λ ls. take end x.left ∷ ls) (sym (take-append-drop count (lines (drop end y.left ++ more)))))),
    )

few_first : (b : ℕ) (text : List ℕ) → length (lines text) ≤ length text → length (lines (b ∷ text)) ≤ suc (length text)
few_first b text few = grind arith

-- it isn't UTF-8
pub text_undecodable : {i j : InputSeen} {x y : HearingValue} {end count place : ℕ} → Stays i j x y []
    → EndsLine x.input 0 end → EndsLines count y.input end place → ¬ IsUtf8 (take place y.input.left)
    → HearsUndecodable i j x y x.number
text_undecodable {x} {y} {end} {place} stays line ends undecodable =
    let (texts, counted, whole, together, cut) = text_heard stays.got line ends in
    record {
      stays = stays;
      line_is = refl;
      raw = take end x.input.left ∷ texts;
      behind = drop place y.input.left;
      begins = sym (take-append-drop place y.input.left) ∙ ap (λ xs. xs ++ drop place y.input.left) together;
      cut = cut;
      undecodable = subst (λ bytes. ¬ IsUtf8 bytes) together undecodable;
    }

-- it is taken off
pub text_taken : {i j : InputSeen} {x y : HearingValue} {end count place : ℕ} {bytes : List ℕ} → Stays i j x y []
    → EndsLine x.input 0 end → EndsLines count y.input end place → IsUtf8 (take place y.input.left)
    → bytes ≡ take (place - end) (drop end y.input.left) → HearsText i j x (record {
      input = record { left = drop place y.input.left; ended = y.input.ended };
      number = x.number + (1 + count);
      size = x.size + place;
    }) end count bytes
text_taken {x} {y} {place} stays line ends utf8 bytes_are =
    let (texts, counted, whole, together, cut) = text_heard stays.got line ends in
    record {
      texts = texts;
      counted = counted;
      bytes_are = bytes_are ∙ whole;
      taken = got_taken stays.got refl (sym (take-append-drop place y.input.left)
          ∙ ap (λ xs. xs ++ drop place y.input.left) together) cut;
      utf8 = subst IsUtf8 together utf8;
      number = refl;
      size = ap (λ n. x.size + n) (sym (length-take-le place y.input.left ends.within) ∙ ap length together);
    }

-- a text has no more lines than bytes
pub few_lines : (text : List ℕ) → length (lines text) ≤ length text
few_lines [] = omega arith
few_lines (b ∷ text) = few_first b text (few_lines text)

-- ---- why nothing was heard

abbrev Failed : LineInputFault → Result (Option ℕ) LineInputFault
Failed fault = Err fault

pub nothing_heard : {i j : InputSeen} (x y : HearingValue) (fault : LineInputFault) (f : SessionFault)
    → Comes i.left j.left x.input y.input (Failed fault) → CountsOn i j → y.number ≡ x.number → y.size ≡ x.size
    → (IsErrOf (Failed fault) line_fault.TooLong → most_script < x.size + length y.input.left)
    → (IsErrOf (Failed fault) line_fault.Unreadable → FailsToRead i j) → FailsFor fault x.number f
    → HearsNothing i j x y f.kind f.line
nothing_heard x y line_fault.TooLong f comes counts number size over failed is = rw is
    (record { stays = stays_whole comes counts number size; line_is = refl; over = inl (over refl) })
nothing_heard x y line_fault.Unreadable f comes counts number size over failed is = rw is
    ((comes.lost, stays_lost comes counts number size), failed refl, refl)
nothing_heard x y line_fault.Memory f comes counts number size over failed is = rw is
    ((comes.lost, stays_lost comes counts number size), refl)

-- whatever a bad line means
pub no_line : (Bad : ℕ → Type 0) (i j : InputSeen) (x y : HearingValue) (kind : ScriptKind) (line : ℕ)
    → HearsNothing i j x y kind line → HearsNoLine Bad i j x y kind line
no_line Bad i j x y kind.NotUtf8 line h = absurd h
no_line Bad i j x y _ line h = search

some_line : (b : ℕ) (text : List ℕ) → length (lines (b ∷ text)) ≡ 0 → ⊥
some_line b text none = grind arith

-- the lines of a text are no more than its bytes, and without lines there are none
pub text_within : {y : Incoming} {end count place : ℕ} → EndsLines count y end place
    → (count ≤ place - end) × (count ≡ 0 → place ≡ end)
text_within {y} {end} {count} {place} ends =
    let text : List ℕ = take (place - end) (drop end y.left) in
    let none : MayCome y [] = λ ended. refl in
    let at : lines text ≡ take count (lines (drop end y.left ++ [])) = ap lines (ends.cut [] none).front_is
    ∙ lines_again count (drop end y.left ++ []) in
    let counted : length (lines text) ≡ count = ap length at
    ∙ length-take-le count (lines (drop end y.left ++ [])) (ends.cut [] none).enough in
    let size : length text ≡ place - end = length-take-le (place - end) (drop end y.left)
    (omega (arith, ends.low, ends.within, length-drop end y.left)) in (
      omega (arith, few_lines text, counted, size),
      λ zero. omega (arith, ends.low, size, ap length (no_bytes text (counted ∙ zero))),
    )
  where
    no_bytes : (text : List ℕ) → length (lines text) ≡ 0 → text ≡ []
    no_bytes [] e = refl
    no_bytes (b ∷ text) e = absurd (some_line b text e)

-- so the text ends within the limit that its line ends within
pub text_ends_within : {y : Incoming} {end : ℕ} (count : ℕ) {place : ℕ} (most : ℕ) → EndsLines count y end place
    → end ≤ most → (0 < count → place ≤ most) → place ≤ most
text_ends_within zero most ends line text = omega (arith, line, (text_within ends).1 refl)
text_ends_within (suc count) most ends line text = text (omega arith)
