-- What the lines of a session say, one after another.
use Rattle.catserve.proofs.Common.{◌≡◌, ◌∙◌, refl, sym, ap, ℕ, ◌+◌, ◌<◌, ◌≤◌, fold, List, [], ◌∷◌, ◌++◌, length, take}
use Rattle.catserve.proofs.Common.{drop, arith, inl, inr, append_assoc, length-append, Option, Some, None, Err, concat}
use Rattle.catserve.proofs.Common.{IsUtf8, concat-append, IsUtf8-append, take-append_seam, drop-append_seam, lines}
use Rattle.catserve.proofs.Common.{without_end, Incoming, MayCome, Line, line_of, command_with, command_list}
use Rattle.catserve.proofs.Common.{text_lines, Command, Says, and_then, commands_from, script_of, Gathered, empty_round}
use Rattle.catserve.proofs.Common.{nothing, gathered_with, going_on, loads_so_far, skips, says_with, too_long, gathers}
use Rattle.catserve.proofs.Common.{begins_with, InputSeen, round_end, session_script, HaveEnded, HearingValue, HasTaken}
use Rattle.catserve.proofs.Common.{HasSaid, BeginAlike, Follows, Begins, HasHeard}
use Rattle.script_text.specs.Gathering.{both}

-- ---- one line

-- a line with its text
pub says_text : {workers number : ℕ} (raw : List ℕ) (line : Line) (texts : List (List ℕ))
    → line_of workers (without_end raw) ≡ Some line → length texts ≡ text_lines line → IsUtf8 (concat (raw ∷ texts))
    → HasSaid workers number (raw ∷ texts) (command_list (command_with line (concat texts)))
says_text {workers} {number} raw line texts is counted utf8 = record {
  some = omega arith;
  says = says;
  utf8 = utf8;
} where
  says : (behind : List (List ℕ)) → commands_from workers number 0 ((raw ∷ texts) ++ behind)
      ≡ and_then (Says (command_list (command_with line (concat texts))) 0) number (λ text. commands_from workers
      (number + length (raw ∷ texts)) text behind)
  says behind =
      let count = text_lines line in
      let enough : count ≤ length (texts ++ behind) = omega (arith, counted, length-append texts behind) in
      let its : take count (texts ++ behind) ≡ texts = ap (λ n. take n (texts ++ behind)) (sym counted)
      ∙ take-append_seam texts behind in
      let rest : drop count (texts ++ behind) ≡ behind = ap (λ n. drop n (texts ++ behind)) (sym counted)
      ∙ drop-append_seam texts behind in
      rw (is, says_with line (texts ++ behind) enough, its)
      (ap (λ found. and_then (Says (command_list (command_with line (concat texts))) 0) number (λ text. found))
      (skips workers count (number + 1) (texts ++ behind) enough
      ∙ ap (λ ls. commands_from workers (number + 1 + count) 0 ls) rest
      ∙ ap (λ n. commands_from workers n 0 behind) (omega (arith, counted))))

-- a bad line
pub bad_line : (workers number : ℕ) (raw : List ℕ) (behind : List (List ℕ)) → line_of workers (without_end raw) ≡ None
    → commands_from workers number 0 (raw ∷ behind) ≡ Err number
bad_line workers number raw behind is = rw is refl

-- a load that counts more lines than there are
pub bad_text : (workers number : ℕ) (raw : List ℕ) (line : Line) (behind : List ℕ)
    → line_of workers (without_end raw) ≡ Some line → length (lines behind) < text_lines line
    → commands_from workers number 0 (raw ∷ lines behind) ≡ Err number
bad_text workers number raw line behind is fewer = rw (is, too_long line (lines behind) fewer) refl

-- ---- one after another

pub heard_none : {workers first : ℕ} → 0 < first → HasHeard workers first [] nothing first
heard_none {workers} {first} some = record {
  going = λ behind. begins_with workers (commands_from workers first 0 behind);
  number_is = omega arith;
  few = some;
  utf8 = search Rattle.std.proofs.lemmas.Str.IsUtf8-nil;
}

pub heard_more : {workers first : ℕ} {front raw : List (List ℕ)} {g : Gathered} {number next : ℕ}
    {commands : List Command} → HasHeard workers first front g number → HasSaid workers number raw commands
    → next ≡ number + length raw → loads_so_far (fold gathered_with g commands) ≤ loads_so_far g + 1
    → HasHeard workers first (front ++ raw) (fold gathered_with g commands) next
heard_more {workers} {first} {front} {raw} {g} {number} {commands} heard said next_is few = record {
  going = λ behind. ap (λ ls. script_of workers (commands_from workers first 0 ls)) (append_assoc front raw behind)
      ∙ heard.going (raw ++ behind) ∙ ap (λ found. going_on workers g found) (said.says behind)
      ∙ gathers workers number g commands (commands_from workers (number + length raw) 0 behind)
      ∙ ap (λ n. going_on workers (fold gathered_with g commands) (commands_from workers n 0 behind)) (sym next_is);
  number_is = omega (arith, heard.number_is, next_is, length-append front raw);
  few = omega (arith, few, heard.few, next_is, said.some);
  utf8 = rw (concat-append front raw) (IsUtf8-append (concat front) (concat raw) heard.utf8 said.utf8);
}

-- ---- after the front

alike_self : (ls : List (List ℕ)) → BeginAlike ls ls
alike_self [] = tt
alike_self (l ∷ ls) = refl

-- what comes follows
pub follows_all : (input : Incoming) (text : List ℕ) → MayCome input text → Follows input (lines (input.left ++ text))
follows_all input text may = inr (text, may, alike_self (lines (input.left ++ text)))

-- so do the first lines of it, followed by the end of a round
pub follows_end : {i j : InputSeen} {x y : Incoming} (front : List (List ℕ)) → HasTaken i j x y front
    → Follows x (front ++ round_end ∷ [])
follows_end [] taken = inl refl
follows_end {x} {y} (l ∷ front) taken =
    let none : MayCome y [] = λ ended. refl in
    let cut = ap lines (sym (append_assoc x.left taken.more [])) ∙ taken.cut [] none in
    inr (taken.more ++ [], taken.may [] none, rw cut refl)

-- the rounds that have ended
abbrev pub ended_so : {given : Option ℕ} {first i j : InputSeen} {x : HearingValue} (y : HearingValue) {workers : ℕ}
    (b : Begins given first i x workers) {front : List (List ℕ)} {g : Gathered} → HasTaken i j x.input y.input front
    → HasHeard workers x.number front g y.number → HaveEnded given (b.front ++ front) workers g.ended
ended_so {given} y b {front} {g} taken heard = record {
  last = both g.current empty_round;
  says = ap (session_script given) (append_assoc b.front front (round_end ∷ []))
      ∙ b.going (front ++ round_end ∷ []) (follows_end front taken) ∙ heard.going (round_end ∷ []) ∙ refl;
}
