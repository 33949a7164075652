-- The preamble of a session.
use Rattle.catserve.proofs.Common.{◌≡◌, ◌∙◌, refl, sym, ap, subst, ℕ, ◌+◌, true, false, List, [], ◌∷◌, ◌++◌, length}
use Rattle.catserve.proofs.Common.{take, drop, arith, inl, inr, append_assoc, length-append, Some, None, concat, IsUtf8}
use Rattle.catserve.proofs.Common.{append-nil, length-take-le, concat-append, IsUtf8-append, IsUtf8-nil, lines}
use Rattle.catserve.proofs.Common.{without_end, Incoming, EndsLine, is_blank, workers_line, commands_from, script_from}
use Rattle.catserve.proofs.Common.{script_of, ScriptKind, InputSeen, HearingValue, HasTaken, Stays, HasPassed, Begins}
use Rattle.catserve.proofs.Common.{Follows, BeginAlike, unheard_session, HearsNothing, FailsInPreamble}
use Rattle.script_text.specs.LineFields.{fields}
use Rattle.script_text.specs.declared.fault.ScriptKind.TheVariants as kind
use Rattle.catserve.proofs.LinesTaken.{no_line, taken_none, taken_then, got_taken, line_cut, line_whole}
use Rattle.catserve.proofs.SessionHears.{stays_taken}

abbrev pub passed_none : {i : InputSeen} {x : HearingValue} → HasPassed i i x x []
passed_none = record {
  taken = taken_none;
  passes = λ behind. refl;
  number = omega arith;
  size = omega arith;
  utf8 = IsUtf8-nil;
}

-- the next line, which ends there, as what is taken
abbrev pub behind_line : HearingValue → ℕ → HearingValue
behind_line y end = record {
  input = record { left = drop end y.input.left; ended = y.input.ended };
  number = y.number + 1;
  size = y.size + end;
}

abbrev pub line_taken : {i j : InputSeen} {x y : HearingValue} {end : ℕ} → Stays i j x y [] → EndsLine y.input 0 end
    → HasTaken i j x.input (behind_line y end).input (take end y.input.left ∷ [])
line_taken {y} {end} stays ends = got_taken stays.got refl (line_whole y.input end) (line_cut ends)

pub line_size : (y : HearingValue) {end : ℕ} → EndsLine y.input 0 end
    → length (concat (take end y.input.left ∷ [])) ≡ end
line_size y {end} ends = ap length (append-nil (take end y.input.left)) ∙ length-take-le end y.input.left ends.within

-- the front with one line more: what was taken, its lines, its bytes, and that it is UTF-8
abbrev pub one_more : {i j k : InputSeen} {x y z : HearingValue} {front : List (List ℕ)} {end : ℕ}
    → HasPassed i j x y front → Stays j k y z [] → EndsLine z.input 0 end → IsUtf8 (take end z.input.left)
    → HasTaken i k x.input (behind_line z end).input (front ++ take end z.input.left ∷ [])
    × (z.number + 1 ≡ x.number + length (front ++ take end z.input.left ∷ []))
    × (z.size + end ≡ x.size + length (concat (front ++ take end z.input.left ∷ [])))
    × IsUtf8 (concat (front ++ take end z.input.left ∷ []))
one_more {z} {front} {end} passed stays ends utf8 =
    let line = take end z.input.left in (
      taken_then passed.taken (line_taken stays ends),
      omega (arith, passed.number, stays.number, length-append front (line ∷ [])),
      omega (
        arith,
        passed.size,
        stays.size,
        line_size z ends,
        ap length (concat-append front (line ∷ [])),
        length-append (concat front) (concat (line ∷ [])),
      ),
      rw (concat-append front (line ∷ [])) (IsUtf8-append (concat front) (concat (line ∷ [])) passed.utf8
          (rw (append-nil line) utf8)),
    )

-- a line that says nothing
abbrev pub passed_more : {i j k : InputSeen} {x y z : HearingValue} {front : List (List ℕ)} {end : ℕ}
    → HasPassed i j x y front → Stays j k y z [] → EndsLine z.input 0 end → IsUtf8 (take end z.input.left)
    → is_blank (without_end (take end z.input.left)) ≡ true
    → HasPassed i k x (behind_line z end) (front ++ take end z.input.left ∷ [])
passed_more {x} {z} {front} {end} passed stays ends utf8 blank =
    let line = take end z.input.left in
    let more = one_more passed stays ends utf8 in
    record {
      taken = more.0;
      passes = λ behind. rw (append_assoc front, passed.passes (line ∷ behind), blank, stays.number) refl;
      number = more.1;
      size = more.2;
      utf8 = more.3;
    }

-- the line that gives the number of workers
abbrev pub begins_given : {i j k : InputSeen} {y z : HearingValue} {front : List (List ℕ)} {end workers : ℕ}
    → HasPassed i j unheard_session y front → Stays j k y z [] → EndsLine z.input 0 end → IsUtf8 (take end z.input.left)
    → is_blank (without_end (take end z.input.left)) ≡ false
    → workers_line (fields (without_end (take end z.input.left))) ≡ Some workers
    → Begins None i k (behind_line z end) workers
begins_given {z} {front} {end} {workers} passed stays ends utf8 other is =
    let line = take end z.input.left in
    let more = one_more passed stays ends utf8 in
    record {
      front = front ++ line ∷ [];
      taken = more.0;
      going = λ behind follows. rw (append_assoc front, passed.passes (line ∷ behind), other, is, stays.number) refl;
      number = omega (arith, more.1);
      size = omega (arith, more.2);
      utf8 = more.3;
    }

-- the first command follows, or none does, so there are two workers
abbrev begins_two : {i j k : InputSeen} {y z : HearingValue} {front : List (List ℕ)}
    → HasPassed i j unheard_session y front
    → Stays j k y z [] → ((behind : List (List ℕ)) → Follows z.input behind
    → script_from z.number behind ≡ script_of 2 (commands_from 2 z.number 0 behind)) → Begins None i k z 2
begins_two {front} passed stays first = record {
  front = front ++ [];
  taken = taken_then passed.taken (stays_taken stays);
  going = λ behind follows. ap (λ ls. script_from 1 (ls ++ behind)) (append-nil front) ∙ passed.passes behind
      ∙ ap (λ n. script_from n behind) (sym stays.number) ∙ first behind follows;
  number = omega (arith, passed.number, stays.number, ap length (append-nil front));
  size = omega (arith, passed.size, stays.size, ap (λ ls. length (concat ls)) (append-nil front));
  utf8 = rw (append-nil front) passed.utf8;
}

-- another line is the first command
first_other : (number : ℕ) (line : List ℕ) (behind rest : List (List ℕ)) → is_blank (without_end line) ≡ false
    → workers_line (fields (without_end line)) ≡ None → BeginAlike behind (line ∷ rest)
    → script_from number behind ≡ script_of 2 (commands_from 2 number 0 behind)
first_other number line [] rest other none alike = absurd alike
first_other number line (l ∷ behind) rest other none alike =
    rw (alike, other, none, other) refl

pub begins_first : (number : ℕ) {input : Incoming} {end : ℕ} (behind : List (List ℕ)) → EndsLine input 0 end
    → is_blank (without_end (take end input.left)) ≡ false
    → workers_line (fields (without_end (take end input.left))) ≡ None → Follows input behind
    → script_from number behind ≡ script_of 2 (commands_from 2 number 0 behind)
begins_first number behind ends other none (inl alone) = rw alone refl
begins_first number {input} {end} behind ends other none (inr (text, may, alike)) =
    first_other number (take end input.left) behind (lines (drop end input.left ++ text)) other none
    (subst (BeginAlike behind) (line_cut ends text may) alike)

abbrev pub begins_other : {i j k : InputSeen} {y z : HearingValue} {front : List (List ℕ)} {end : ℕ}
    → HasPassed i j unheard_session y front → Stays j k y z [] → EndsLine z.input 0 end
    → is_blank (without_end (take end z.input.left)) ≡ false
    → workers_line (fields (without_end (take end z.input.left))) ≡ None → Begins None i k z 2
begins_other {z} passed stays ends other none = begins_two passed stays
    (λ behind follows. begins_first z.number behind ends other none follows)

-- the input has ended
pub ended_first : (number : ℕ) (input : Incoming) (behind : List (List ℕ)) → input.left ≡ [] → input.ended ≡ true
    → Follows input behind → script_from number behind ≡ script_of 2 (commands_from 2 number 0 behind)
ended_first number input behind none ended (inl alone) = rw alone refl
ended_first number input [] none ended (inr follows) = refl
ended_first number input (l ∷ ls) none ended (inr (text, may, alike)) = absurd (rw (none, may ended) at alike)

abbrev pub begins_ended : {i j k : InputSeen} {y z : HearingValue} {front : List (List ℕ)}
    → HasPassed i j unheard_session y front → Stays j k y z [] → z.input.left ≡ [] → z.input.ended ≡ true
    → Begins None i k z 2
begins_ended {z} passed stays none ended = begins_two passed stays
    (λ behind follows. ended_first z.number z.input behind none ended follows)

-- ---- why the preamble wasn't heard

pub preamble_fails : {i j k : InputSeen} {y : HearingValue} (z : HearingValue) {front : List (List ℕ)}
    {kind : ScriptKind} {line : ℕ} → HasPassed i j unheard_session y front → HearsNothing j k y z kind line
    → FailsInPreamble i k kind line
preamble_fails {j} {k} {y} z {front} {kind} {line} passed h = record
    { mid = j; y = y; z = z; front = front; passed = passed; none = no_line (λ line. ⊥) j k y z kind line h }

pub preamble_undecodable : {i j k : InputSeen} {y z : HearingValue} {front : List (List ℕ)} {end : ℕ}
    → HasPassed i j unheard_session y front → Stays j k y z [] → EndsLine z.input 0 end
    → ¬ IsUtf8 (take end z.input.left)
    → FailsInPreamble i k kind.NotUtf8 z.number
preamble_undecodable {j} {y} {z} {front} {end} passed stays ends undecodable = record {
  mid = j;
  y = y;
  z = z;
  front = front;
  passed = passed;
  none = record {
    stays = stays;
    line_is = stays.number;
    raw = take end z.input.left ∷ [];
    behind = drop end z.input.left;
    begins = line_whole z.input end;
    cut = line_cut ends;
    undecodable = rw (append-nil (take end z.input.left)) undecodable;
  };
}
