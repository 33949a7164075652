-- How a session ends.
use Rattle.catserve.proofs.Common.{◌≡◌, ◌∙◌, refl, sym, ap, subst, ℕ, ◌+◌, ◌<◌, ◌≤◌, ◌⊎◌, Bool, true, false, List, []}
use Rattle.catserve.proofs.Common.{◌∷◌, ◌++◌, length, arith, inl, inr, append_assoc, length-append, Option, Some, None}
use Rattle.catserve.proofs.Common.{concat, Appends, Consumes, Appends-nil, Appends-trans, append-nil, concat-append}
use Rattle.catserve.proofs.Common.{IsUtf8-append, IsUtf8-nil, InputSeen, OutputSeen, lines, MayCome, consumes_both}
use Rattle.catserve.proofs.Common.{RoundValue, commands_from, script_of, most_script, Gathered, empty_round, going_on}
use Rattle.catserve.proofs.Common.{onto_open, both_empty, ScriptKind, PlaysAll, IsOpenKind, session_script, round_end}
use Rattle.catserve.proofs.Common.{HaveEnded, Stops, AnswersAll, StopsEarly, EndsFor, most_lines, BreaksOff}
use Rattle.catserve.proofs.Common.{HearingValue, HasTaken, Stays, HearsBad, HearsEnd, HearsNone, HearsNoLine, Begins}
use Rattle.catserve.proofs.Common.{silence, unheard_session, HasPassed, FailsInPreamble, HearsTooMuch, HearsUndecodable}
use Rattle.catserve.proofs.Common.{PlayerValue, AnswersRound, BreaksRound, FailsToAnswer, IsFresh, Conversing}
use Rattle.devices.proofs.Arriving.{both}
use Rattle.script_text.specs.declared.fault.ScriptKind.TheVariants as kind
use Rattle.catserve.proofs.Playing.{plays_all}
use Rattle.catserve.proofs.Questions.{asked_some}
use Rattle.catserve.proofs.LinesTaken.{stays_put, taken_none, taken_then}
use Rattle.catserve.proofs.SessionLines.{ended_so, follows_all, heard_none}
use Rattle.catserve.proofs.SessionHears.{fails_later}
use Rattle.catserve.proofs.SessionTalk.{answers_one, ended_first, plays_open}

-- ---- where it stopped

-- what was answered: these lines were taken off, and the rounds that have ended in them were played and written
pub record Answered (given : Option ℕ) (i j : InputSeen) (o o' : OutputSeen) (y : HearingValue)
    (front : List (List ℕ)) : Type 0 where
  pub taken : HasTaken i j silence y.input front
  pub number : y.number ≡ length front + 1
  pub workers : ℕ
  pub rounds : List RoundValue
  pub ended : HaveEnded given front workers rounds
  pub output : List ℕ
  pub plays : PlaysAll workers [] rounds output
  pub written : Appends o.bytes o'.bytes output
  pub before : List (List ℕ)
  pub round : List (List ℕ)
  pub cut : front ≡ before ++ round
  pub size : y.size ≡ length (concat round)
  pub first : ℕ
  pub ended_before : HaveEnded given before first rounds

abbrev pub stops_so : {given : Option ℕ} {i j k : InputSeen} {o o' : OutputSeen} {y z : HearingValue}
    {front : List (List ℕ)} {lost : List ℕ} → Answered given i j o o' y front → Stays j k y z lost
    → Stops given i k o o' lost
stops_so {i} {j} {k} {y} {z} {front} {lost} a s =
    let t = a.taken in
    record {
      front = front;
      text = t.more ++ s.got.more;
      rest = z.input.left;
      ended = z.input.ended;
      read = rw (append_assoc t.more s.got.more lost)
          (consumes_both i.left j.left k.left t.more (s.got.more ++ lost) t.read s.got.read);
      at_end = s.got.at_end (t.at_end (λ ended. both false ended refl));
      whole = rw (t.whole, s.got.behind, append_assoc) refl;
      lines_are = λ more may. rw (append_assoc t.more, t.cut (s.got.more ++ more) (s.got.may more may), s.got.behind)
          (ap (λ xs. front ++ lines xs) (sym (append_assoc y.input.left s.got.more more)));
      workers = a.workers;
      rounds = a.rounds;
      ended_are = a.ended;
      output = a.output;
      plays = a.plays;
      written = a.written;
    }

abbrev stops_early : {given : Option ℕ} {i j k : InputSeen} {o o' : OutputSeen} {y z : HearingValue}
    {front : List (List ℕ)} {lost : List ℕ} → Answered given i j o o' y front → Stays j k y z lost
    → StopsEarly given i k o o'
stops_early {lost} a s = record { lost = lost; stop = stops_so a s }

too_much : {given : Option ℕ} {i j k : InputSeen} {o o' : OutputSeen} {y z : HearingValue} {front : List (List ℕ)}
    {line : ℕ} → Answered given i j o o' y front → HearsTooMuch j k y z line → EndsFor given i k o o' kind.TooLarge line
too_much {y} {z} {line} a h = record {
  stop = stops_so a h.stays;
  line_is = h.line_is ∙ a.number;
  round = a.round;
  is_open = record {
    before = a.before;
    cut = a.cut;
    rounds = a.rounds;
    first = a.first;
    ended_before = a.ended_before;
    workers = a.workers;
    ended_are = a.ended;
  };
  over = over h.over;
} where
  over : (most_script < y.size + length z.input.left) ⊎ (most_lines ≤ y.number)
      → (most_script < length (concat a.round ++ z.input.left)) ⊎ (most_lines ≤ line)
  over (inl large) = inl (omega (arith, large, a.size, length-append (concat a.round) z.input.left))
  over (inr long) = inr (omega (arith, long, h.line_is))

undecodable : {given : Option ℕ} {i j k : InputSeen} {o o' : OutputSeen} {y z : HearingValue}
    {front : List (List ℕ)} {line : ℕ} → Answered given i j o o' y front → HearsUndecodable j k y z line
    → EndsFor given i k o o' kind.NotUtf8 line
undecodable a h =
    let stops = stops_so a h.stays in
    record {
      stop = stops;
      line_is = h.line_is ∙ a.number;
      raw = h.raw;
      behind = h.behind;
      begins = h.begins;
      cut = λ more may. rw (stops.lines_are more may, h.cut more may, append_assoc) refl;
      undecodable = h.undecodable;
    }

-- why no line was heard, if a bad line means this
for_no_line : {given : Option ℕ} {i j : InputSeen} {o o' : OutputSeen} {y : HearingValue} {front : List (List ℕ)}
    (Bad : ℕ → Type 0) (k : InputSeen) (z : HearingValue) (why : ScriptKind) (line : ℕ)
    → Answered given i j o o' y front → (Bad line → EndsFor given i k o o' kind.BadLine line)
    → HearsNoLine Bad j k y z why line → EndsFor given i k o o' why line
for_no_line Bad k z kind.TooLarge line a bad h = too_much a h
for_no_line Bad k z kind.NotUtf8 line a bad h = undecodable a h
for_no_line Bad k z kind.BadLine line a bad h = bad h
for_no_line Bad k z kind.ReadFault line a bad ((lost, h), failed, is) =
    (stops_early a h, fails_later k a.taken.counts failed, is)
for_no_line Bad k z kind.Memory line a bad ((lost, h), is) = (stops_early a h, is)
for_no_line Bad k z _ line a bad h = absurd h

-- no round has ended in these lines
abbrev none_answered : {given : Option ℕ} {i j : InputSeen} {o : OutputSeen} {y : HearingValue}
    {front : List (List ℕ)} {workers : ℕ} → HasTaken i j silence y.input front → y.number ≡ length front + 1
    → y.size ≡ length (concat front) → HaveEnded given front workers [] → Answered given i j o o y front
none_answered {given} {o} {front} {workers} taken number size ended = record {
  taken = taken;
  number = number;
  workers = workers;
  rounds = [];
  ended = ended;
  output = [];
  plays = refl;
  written = Appends-nil o.bytes;
  before = [];
  round = front;
  cut = refl;
  size = size;
  first = (ended_first given).0;
  ended_before = (ended_first given).1;
}

-- ---- in the front

-- nothing is played before the first command
abbrev pub front_answered : {i j : InputSeen} {o : OutputSeen} {y : HearingValue} {front : List (List ℕ)}
    → HasPassed i j unheard_session y front → Answered None i j o o y front
front_answered passed = none_answered passed.taken (omega (arith, passed.number)) (omega (arith, passed.size))
    (record { last = empty_round; says = passed.passes (round_end ∷ []) ∙ refl })

pub front_ends : {i k : InputSeen} (o : OutputSeen) {kind : ScriptKind} {line : ℕ} → FailsInPreamble i k kind line
    → EndsFor None i k o o kind line
front_ends {k} o {kind} {line} f =
    for_no_line (λ line. ⊥) k f.z kind line (front_answered f.passed) (λ bad. absurd bad) f.none

-- nothing at all was heard
pub ends_at_once : {given : Option ℕ} {i : InputSeen} {o : OutputSeen} → StopsEarly given i i o o
ends_at_once {given} =
    stops_early (none_answered {y = unheard_session} taken_none (omega arith) refl (ended_first given).1) stays_put

-- ---- after the front

-- the rounds that have ended after a front
abbrev pub answered : {given : Option ℕ} {first i j : InputSeen} {o o' : OutputSeen} {x y : HearingValue} {workers : ℕ}
    {start talk : PlayerValue} (b : Begins given first i x workers) (c : Conversing workers i j o o' x y start talk)
    → IsFresh workers start → Answered given first j o o' y (b.front ++ c.lines)
answered {given} {first} {y} {workers} b c fresh =
    let open_round = c.is_open given first b in
    record {
      taken = taken_then b.taken c.taken;
      number = omega (arith, b.number, c.heard.number_is, length-append b.front c.lines);
      workers = workers;
      rounds = c.g.ended;
      ended = ended_so y b c.taken c.heard;
      output = c.written;
      plays = rw fresh.none_published at (plays_all c.talked.played);
      written = c.output;
      before = open_round.before;
      round = open_round.round;
      cut = open_round.cut;
      size = open_round.size_is;
      first = open_round.workers;
      ended_before = open_round.ended_before;
    }

-- what all lines say, whatever still comes
said_all : {given : Option ℕ} {first i j : InputSeen} {o o' : OutputSeen} {x y : HearingValue} {workers : ℕ}
    {start talk : PlayerValue} (b : Begins given first i x workers) (c : Conversing workers i j o o' x y start talk)
    (text : List ℕ) → MayCome y.input text → session_script given (lines ((b.taken.more ++ c.taken.more) ++ text))
    ≡ going_on workers c.g (commands_from workers y.number 0 (lines (y.input.left ++ text)))
said_all {given} {x} {y} {workers} b c text may =
    let behind : MayCome x.input (c.taken.more ++ text) = c.taken.may text may in
    ap (λ xs. session_script given (lines xs)) (append_assoc b.taken.more c.taken.more text)
    ∙ ap (session_script given) (b.taken.cut (c.taken.more ++ text) behind)
    ∙ b.going (lines (x.input.left ++ (c.taken.more ++ text))) (follows_all x.input (c.taken.more ++ text) behind)
    ∙ ap (λ xs. script_of workers (commands_from workers x.number 0 (lines xs)))
    (sym (append_assoc x.input.left c.taken.more text))
    ∙ ap (λ ls. script_of workers (commands_from workers x.number 0 ls)) (c.taken.cut text may)
    ∙ c.heard.going (lines (y.input.left ++ text))

-- nothing more was heard
pub none_ends : {given : Option ℕ} {first i j : InputSeen} (k : InputSeen) {o o' : OutputSeen} {x y : HearingValue}
    (z : HearingValue) {workers : ℕ} {start talk : PlayerValue} (kind : ScriptKind) (line : ℕ) → IsFresh workers start
    → Conversing workers i j o o' x y start talk → HearsNone j k workers y z kind line → Begins given first i x workers
    → EndsFor given first k o o' kind line
none_ends {given} {j} k {y} z {workers} kind line fresh c h b =
    let a = answered b c fresh in
    for_no_line (HearsBad j k workers y z) k z kind line a (λ h. record {
      stop = stops_so a h.stays;
      line_is = h.line_is ∙ a.number;
      bad = λ more may. let got = h.stays.got in
          rw (append_assoc a.taken.more, said_all b c (got.more ++ more) (got.may more may), h.line_is)
          (ap (going_on workers c.g) (rw (got.behind, append_assoc) at (h.bad more may)));
    }) h

-- what was read of lines that were taken off
pub taken_stays : {j k : InputSeen} {y : HearingValue} (z : HearingValue) {raw : List (List ℕ)}
    (t : HasTaken j k y.input z.input raw) → Stays j k y (record {
      input = record { left = y.input.left ++ t.more; ended = z.input.ended };
      number = y.number;
      size = y.size;
    }) []
taken_stays z t = record {
  got = record {
    more = t.more;
    read = rw (append-nil t.more) t.read;
    behind = refl;
    may = t.may;
    at_end = t.at_end;
    counts = t.counts;
  };
  number = refl;
  size = refl;
}

-- some first bytes of the open round were written
breaks_off : {given : Option ℕ} {first i j k : InputSeen} {o o' o'' : OutputSeen} {x y z : HearingValue} {workers : ℕ}
    {start talk : PlayerValue} → IsFresh workers start → (c : Conversing workers i j o o' x y start talk)
    → Stays j k y z [] → BreaksRound talk o' o'' → Begins given first i x workers → BreaksOff given first k o o''
breaks_off {o'} fresh c s h b =
    let a = answered b c fresh in
    let played = plays_open h.lines c.talked h.finishes in
    record {
      mid = o';
      stop = stops_so a s;
      lines = h.lines;
      plays = rw (both_empty c.g.current) (rw fresh.none_published at (plays_all played));
      written = h.front;
    }

-- a round isn't answered
pub fails_so : {given : Option ℕ} {first i j k : InputSeen} {o o' : OutputSeen} (o'' : OutputSeen)
    {x y z : HearingValue} {workers : ℕ} {start talk : PlayerValue} (after : PlayerValue) (why : ScriptKind)
    → IsFresh workers start → Conversing workers i j o o' x y start talk → Stays j k y z []
    → FailsToAnswer talk after o' o'' why → Begins given first i x workers → EndsFor given first k o o'' why 0
fails_so o'' after kind.WriteFault fresh c s h b = (breaks_off fresh c s h b, rw c.steady at h.failed, refl)
fails_so o'' {talk} after kind.Closed fresh c s ((some, found), same) b = rw same (
  record {
    early = stops_early (answered b c fresh) s;
    asked = omega (
      arith,
      asked_some talk.desks 0 c.g.current.questions c.talked.asked some,
      length-append c.g.current.questions [],
    );
  },
  refl,
)
fails_so o'' after kind.Memory fresh c s h b = rw h.1 (stops_early (answered b c fresh) s, refl)
fails_so o'' after _ fresh c s h b = absurd h.0

-- the input has ended, and these are the rounds
all_said : {given : Option ℕ} {first i j k : InputSeen} {o o' o'' : OutputSeen} {x y z : HearingValue}
    {workers : ℕ} {start talk : PlayerValue} (written : List ℕ) → IsFresh workers start
    → (c : Conversing workers i j o o' x y start talk) → HearsEnd j k y z → Begins given first i x workers
    → PlaysAll workers [] (c.g.ended ++ onto_open c.g []) written → Appends o.bytes o''.bytes written
    → AnswersAll given first k o o''
all_said {first} {k} {y} {z} {workers} written fresh c h b plays appended =
    let a = answered b c fresh in
    let got = h.stays.got in
    let stops = stops_so a h.stays in
    let text : List ℕ = a.taken.more ++ got.more in
    let none : MayCome z.input [] = λ ended. refl in
    let may : MayCome y.input got.more = subst (MayCome y.input) (append-nil got.more) (got.may [] none) in
    let whole : text ≡ concat (b.front ++ c.lines) = rw (h.left, append-nil) at stops.whole in
    record {
      text = text;
      read = subst (Consumes first.left k.left) (append-nil text) stops.read;
      at_end = stops.at_end h.ended;
      utf8 = rw (whole, concat-append b.front c.lines) (IsUtf8-append (concat b.front) (concat c.lines) b.utf8
          c.heard.utf8);
      value = record { workers = workers; rounds = c.g.ended ++ onto_open c.g [] };
      says = rw (← got.behind, h.left) at (said_all b c got.more may);
      output = written;
      plays = plays;
      written = appended;
    }

pub nothing_open : (g : Gathered) (begun : Bool) → begun ≡ g.begun → begun ≡ false → g.ended ++ onto_open g [] ≡ g.ended
nothing_open g begun same idle = rw (sym same ∙ idle) (append-nil g.ended)

pub one_open : (g : Gathered) (begun : Bool) → begun ≡ g.begun → begun ≡ true
    → g.ended ++ onto_open g [] ≡ g.ended ++ g.current ∷ []
one_open g begun same busy = rw (sym same ∙ busy) refl

-- nothing stood in the open round
pub all_answered : {given : Option ℕ} {first i j k : InputSeen} {o o' : OutputSeen} {x y z : HearingValue}
    {workers : ℕ} {start talk : PlayerValue} → IsFresh workers start → Conversing workers i j o o' x y start talk
    → HearsEnd j k y z → talk.begun ≡ false → Begins given first i x workers → AnswersAll given first k o o'
all_answered {talk} fresh c h idle b =
    let a = answered b c fresh in
    all_said c.written fresh c h b (rw (← nothing_open c.g talk.begun c.talked.begun idle) at a.plays) c.output

-- the open round was answered last
pub last_answered : {given : Option ℕ} {first i j k : InputSeen} {o o' o'' : OutputSeen} {x y z : HearingValue}
    {workers : ℕ} {start talk after : PlayerValue} → IsFresh workers start
    → Conversing workers i j o o' x y start talk → HearsEnd j k y z → talk.begun ≡ true
    → AnswersRound talk after o' o'' → Begins given first i x workers → AnswersAll given first k o o''
last_answered {o} {o'} {o''} {talk} fresh c h busy answers b =
    let written : List ℕ = c.written ++ answers.lines in
    let played = answers_one c.talked answers in
    all_said written fresh c h b
    (rw (← one_open c.g talk.begun c.talked.begun busy) at (rw fresh.none_published at (plays_all played)))
    (Appends-trans o.bytes o'.bytes o''.bytes c.written answers.lines c.output answers.written)

-- ---- before anything was heard after the front

-- no store was opened
abbrev pub stops_begun : {given : Option ℕ} {first i : InputSeen} {o : OutputSeen} {x : HearingValue} {workers : ℕ}
    → Begins given first i x workers → StopsEarly given first i o o
stops_begun {x} b = stops_early (none_answered b.taken b.number b.size
    (rw (append-nil b.front) at (ended_so x b taken_none (heard_none (omega (arith, b.number)))))) stays_put

-- no player was opened, for this reason
pub stops_unopened : {given : Option ℕ} {first i : InputSeen} (o : OutputSeen) {x : HearingValue} {workers : ℕ}
    → Begins given first i x workers → (why : ScriptKind) → IsOpenKind why → EndsFor given first i o o why 0
stops_unopened o b kind.NoPlace h =
    (record { early = stops_begun {o = o} b; none_ended = refl; unwritten = refl }, refl)
stops_unopened o b kind.Memory h = (stops_begun {o = o} b, refl)
stops_unopened o b _ h = absurd h

-- the number of workers is given
abbrev pub begins_so : {i : InputSeen} {workers : ℕ} → Begins (Some workers) i i unheard_session workers
begins_so = record {
  front = [];
  taken = taken_none;
  going = λ behind follows. refl;
  number = omega arith;
  size = refl;
  utf8 = IsUtf8-nil;
}
