-- What a session has answered when it waits.
use Rattle.catserve.proofs.Common.{◌≡◌, ◌∙◌, refl, sym, ap, ℕ, ◌-◌, ◌<◌, true, List, [], ◌∷◌, ◌++◌, length, take, drop}
use Rattle.catserve.proofs.Common.{arith, inl, inr, append_assoc, Option, Some, None, Result, Ok, concat, take-add}
use Rattle.catserve.proofs.Common.{append_cancel_left, append-nil, nil_from_length, take-append-drop, take-append-le}
use Rattle.catserve.proofs.Common.{AnswersFirst, Event, Gave, Grows, Log, came, EndsLine, EndsLines, Incoming, lines}
use Rattle.catserve.proofs.Common.{without_end, ReadsWhile, StillCounts, StillWaits, Waits, Line, line_of, command_with}
use Rattle.catserve.proofs.Common.{command_list, text_lines, Command, Go, SessionFault, InputSeen, OutputSeen}
use Rattle.catserve.proofs.Common.{AnswersInTime, IsAnswered, most_lines, Begins, HasGot, HasPassed, Hears, HearsEnd}
use Rattle.catserve.proofs.Common.{HearingValue, HearsText, Stays, size_behind, unheard_session, Conversing, IsFresh}
use Rattle.catserve.proofs.Common.{PlayerValue, ContinuesInTime, GivesSome, HearsInTime, InTime, ReadsOpen}
use Rattle.catserve.proofs.Common.{RespondsInTime, StillOpen, TalksInTime}
use Rattle.devices.specs.Logs.{given_bytes as gave}
use Rattle.devices.proofs.Logging.{answers_none, answers_so, answers_then, answers_write, came_then, given_then}
use Rattle.devices.proofs.Logging.{grows_none, grows_then}
use Rattle.devices.proofs.Arriving.{both}
use Rattle.catserve.specs.declared.hearing.Heard.{Heard}
use Rattle.catserve.specs.Timing.{ReadsText}
use Rattle.catserve.proofs.SessionEnds.{Answered, answered, front_answered}
use Rattle.catserve.proofs.SessionPreamble.{passed_none}
use Rattle.catserve.proofs.SessionHears.{hears_said, hears_then}
use Rattle.catserve.proofs.SessionTalk.{converses_more, converses_none}
use Rattle.catserve.proofs.SessionWaits.{open_each, open_line, open_text, open_then}

-- ---- reads

-- what came is known
pub open_known : {a b : Log} {workers : ℕ} {x : Incoming} {more : List ℕ} (reads : ReadsWhile a b (StillOpen workers x))
    → came reads.events ≡ more → ReadsOpen a b workers x more
open_known reads known = search

abbrev pub reads_open : {a b : Log} {workers : ℕ} {x : Incoming} {more : List ℕ} → ReadsOpen a b workers x more
    → ReadsWhile a b (StillOpen workers x)
reads_open reads = record { events = reads.events; logged = reads.logged; silent = reads.silent; each = reads.each }

-- a line was waited for
pub line_reads : {i j : InputSeen} {workers : ℕ} {a b : Log} {x y : Incoming} (got : HasGot i j x y [])
    → Waits a b x y [] (StillWaits x 0) → ReadsOpen a b workers x got.more
line_reads {x} {y} got waits = open_known (open_line waits) (append_cancel_left x.left (came waits.events) got.more
    (waits.placed ∙ append-nil y.left ∙ got.behind))

-- a line was waited for, and then more
pub open_more : {i j : InputSeen} {workers : ℕ} {a b c : Log} {x y : Incoming} {more : List ℕ} (got : HasGot i j x y [])
    → Waits a b x y [] (StillWaits x 0) → ReadsOpen b c workers y more → ReadsOpen a c workers x (got.more ++ more)
open_more {a} {b} {c} {x} {y} got waits reads = record {
  events = waits.events ++ reads.events;
  logged = grows_then a b c waits.events reads.events waits.logged reads.logged;
  came_is = rw (came_then, first, reads.came_is) refl;
  silent = rw (given_then, waits.silent) reads.silent;
  each = open_each got.more got.may waits (reads_open reads);
} where
  first : came waits.events ≡ got.more
  first = append_cancel_left x.left (came waits.events) got.more (waits.placed ∙ append-nil y.left ∙ got.behind)

pub in_time_then : {i j : InputSeen} (k : InputSeen) {a b : Log} (c : Log) (workers : ℕ) {x y : HearingValue}
    (z : HearingValue) (r : Result (Option Heard) SessionFault) (stays : Stays i j x y [])
    → Waits a b x.input y.input [] (StillWaits x.input 0) → HearsInTime j k b c workers y z r
    → HearsInTime i k a c workers x z r
in_time_then k c workers z (Ok (Some thing)) stays waits (h, reads) = (
  hears_then k workers z (Ok (Some thing)) stays h,
  open_more stays.got waits reads,
)
in_time_then k c workers z r stays waits (h, reads) = (
  hears_then k workers z r stays h,
  open_then stays.got.more stays.got.may waits reads,
)

-- the input has ended
pub end_heard : {i j : InputSeen} {a b : Log} {workers : ℕ} {x y : HearingValue} → Stays i j x y []
    → (y.input.ended ≡ true) × (length y.input.left ≡ 0) → Waits a b x.input y.input [] (StillWaits x.input 0)
    → HearsEnd i j x y × ReadsWhile a b (StillOpen workers x.input)
end_heard {y} stays (ended, none) waits =
    (record { stays = stays; left = nil_from_length y.input.left none; ended = ended }, open_line waits)

-- ---- a load's text

pub text_reads : {a b : Log} {x y : Incoming} {end count place : ℕ} → EndsLine x 0 end → EndsLines count y end place
    → Waits a b x y [] (StillCounts count x end)
    → ReadsText a b x (record { left = drop place y.left; ended = y.ended }) end count
    (take (place - end) (drop end y.left))
text_reads {x} {y} {end} {place} line ends waits = record {
  events = waits.events;
  logged = waits.logged;
  placed = here ∙ sym (take-append-drop place y.left) ∙ ap (λ xs. xs ++ drop place y.left) (cut ∙ ap (λ xs. xs
      ++ take (place - end) (drop end y.left)) first);
  silent = waits.silent;
  each = waits.each;
} where
  here : x.left ++ came waits.events ≡ y.left
  here = waits.placed ∙ append-nil y.left

  cut : take place y.left ≡ take end y.left ++ take (place - end) (drop end y.left)
  cut = ap (λ n. take n y.left) (omega (arith, ends.low)) ∙ take-add end (place - end) y.left

  first : take end y.left ≡ take end x.left
  first = ap (take end) (sym here) ∙ take-append-le end x.left (came waits.events) line.within

abbrev pub text_whole : {a b : Log} {x y : Incoming} {end count : ℕ} {bytes : List ℕ}
    → ReadsText a b x y end count bytes → ReadsWhile a b (StillCounts count x end)
text_whole reads = record { events = reads.events; logged = reads.logged; silent = reads.silent; each = reads.each }

-- the text came that was heard
pub text_came : {i j : InputSeen} {a b : Log} {x y : HearingValue} {end count : ℕ} {bytes : List ℕ}
    (h : HearsText i j x y end count bytes) (reads : ReadsText a b x.input y.input end count bytes)
    → came reads.events ≡ h.taken.more
text_came {x} {y} {end} h reads = append_cancel_left x.input.left (came reads.events) h.taken.more
    (reads.placed ∙ ap (λ bs. (take end x.input.left ++ bs) ++ y.input.left) h.bytes_are ∙ sym h.taken.whole)

-- ---- what was heard

-- lines were heard that say these commands, and how they were read
abbrev pub HearsSo : InputSeen → InputSeen → Log → Log → ℕ → HearingValue → HearingValue → List Command → Type 0
HearsSo i j a b workers x y commands = (h : Hears i j workers x y commands) × ReadsOpen a b workers x.input h.taken.more

pub said_heard : {i j : InputSeen} {a b : Log} {workers : ℕ} {x y : HearingValue} {end : ℕ} (line : Line)
    {bytes : List ℕ} → x.number < most_lines → EndsLine x.input 0 end
    → line_of workers (without_end (take end x.input.left)) ≡ Some line → HearsText i j x y end (text_lines line) bytes
    → ReadsText a b x.input y.input end (text_lines line) bytes → HearsSo i j a b workers x
    (record y { size = size_behind (command_list (command_with line bytes)) y.size })
    (command_list (command_with line bytes))
said_heard line few ends is h reads = (
  hears_said line few is h,
  open_known (open_text line ends is (text_whole reads)) (text_came h reads),
)

-- ---- steps

-- all that had ended is answered, while no further round ends
pub is_answered : {given : Option ℕ} {i j : InputSeen} {o o' : OutputSeen} {y : HearingValue} {front : List (List ℕ)}
    (a : Answered given i j o o' y front) (t g : List ℕ) → StillOpen a.workers y.input t g
    → IsAnswered given (a.taken.more ++ t) (a.output ++ g)
is_answered {y} {front} a t g still = record {
  front = front;
  rest = y.input.left ++ t;
  whole = ap (λ xs. xs ++ t) a.taken.whole ∙ append_assoc (concat front) y.input.left t;
  lines_are = λ more. ap lines (append_assoc a.taken.more t more)
      ∙ a.taken.cut (t ++ more) (λ ended. both y.input.ended ended still.going)
      ∙ ap (λ xs. front ++ lines xs) (sym (append_assoc y.input.left t more));
  workers = a.workers;
  rounds = a.rounds;
  ended_are = a.ended;
  plays = rw (ap (λ xs. a.output ++ xs) still.silent ∙ append-nil a.output) a.plays;
  is_open = still.is_open;
}

pub begins_timely : {given : Option ℕ} {log : Log} → InTime given log log [] []
begins_timely {given} {log} = record {
  events = [];
  logged = grows_none log;
  came_is = refl;
  given_is = refl;
  first = answers_none (IsAnswered given);
}

-- all that has ended in this text is answered, as long as no further round ends
abbrev pub AnswersHere : Option ℕ → ℕ → Incoming → List ℕ → List ℕ → Type 0
AnswersHere given workers y text output = (t g : List ℕ) → StillOpen workers y t g
    → IsAnswered given (text ++ t) (output ++ g)

-- only reads, and all was answered before each of them
reads_first : {given : Option ℕ} {a b c : Log} {text output : List ℕ} {workers : ℕ} {y : Incoming}
    (had : InTime given a b text output)
    → AnswersHere given workers y text output
    → (reads : ReadsWhile b c (StillOpen workers y)) → AnswersFirst (IsAnswered given) (had.events ++ reads.events)
reads_first {given} {workers} {y} had here reads =
    answers_then (IsAnswered given) had.events reads.events had.first (answers_so (StillOpen workers y)
    (λ t g. IsAnswered given (came had.events ++ t) (gave had.events ++ g)) reads.events
    (rw (had.came_is, had.given_is) here) reads.each)

pub reads_timely : {given : Option ℕ} {a b c : Log} {text output more : List ℕ} {workers : ℕ} {y : Incoming}
    → InTime given a b text output
    → AnswersHere given workers y text output
    → ReadsOpen b c workers y more → InTime given a c (text ++ more) output
reads_timely {a} {b} {c} had here reads = record {
  events = had.events ++ reads.events;
  logged = grows_then a b c had.events reads.events had.logged reads.logged;
  came_is = rw (came_then, had.came_is, reads.came_is) refl;
  given_is = rw (given_then, reads.silent, append-nil) had.given_is;
  first = reads_first had here (reads_open reads);
}

pub gives_timely : {given : Option ℕ} {a b c : Log} {text output : List ℕ} (bytes : List ℕ)
    → InTime given a b text output → Grows b c (Gave bytes ∷ []) → InTime given a c text (output ++ bytes)
gives_timely {given} {a} {b} {c} bytes had logged = record {
  events = had.events ++ Gave bytes ∷ [];
  logged = grows_then a b c had.events (Gave bytes ∷ []) had.logged logged;
  came_is = came_then had.events (Gave bytes ∷ []) ∙ append-nil (came had.events) ∙ had.came_is;
  given_is = rw (given_then, had.given_is, append-nil bytes) refl;
  first = answers_then (IsAnswered given) had.events (Gave bytes ∷ []) had.first (answers_write
      (λ t g. IsAnswered given (came had.events ++ t) (gave had.events ++ g)) bytes);
}

-- ---- the end

gives_last : {given : Option ℕ} {a : Log} (b : Log) {c : Log} (events : List Event) → Grows a b events
    → AnswersFirst (IsAnswered given) events → GivesSome b c → AnswersInTime given a c
gives_last {a} b {c} events logged first (inl none) = record {
  events = events;
  logged = rw append-nil at (grows_then a b c events [] logged none);
  first = first;
}
gives_last {given} {a} b {c} events logged first (inr (bytes, gave_it)) = record {
  events = events ++ Gave bytes ∷ [];
  logged = grows_then a b c events (Gave bytes ∷ []) logged gave_it;
  first = answers_then (IsAnswered given) events (Gave bytes ∷ []) first (answers_write
      (λ t g. IsAnswered given (came events ++ t) (gave events ++ g)) bytes);
}

pub gives_none : (log : Log) → GivesSome log log
gives_none log = inl (grows_none log)

pub ends_at : {given : Option ℕ} {a b : Log} {text output : List ℕ} → InTime given a b text output
    → AnswersInTime given a b
ends_at had = record { events = had.events; logged = had.logged; first = had.first }

-- more is read, and then some bytes may be given
pub ends_timely : {given : Option ℕ} {a b c d : Log} {text output : List ℕ} {workers : ℕ} {y : Incoming}
    → InTime given a b text output
    → AnswersHere given workers y text output
    → ReadsWhile b c (StillOpen workers y) → GivesSome c d → AnswersInTime given a d
ends_timely {a} {b} {c} had here reads gives =
    gives_last c (had.events ++ reads.events) (grows_then a b c had.events reads.events had.logged
    reads.logged) (reads_first had here reads) gives

-- ---- the talk

pub talks_none : {workers : ℕ} {i : InputSeen} {o : OutputSeen} {x : HearingValue} {start : PlayerValue} {log : Log}
    → 0 < x.number → IsFresh workers start → TalksInTime workers i i o o x x start start log log
talks_none {log} some fresh = (
  converses_none some fresh,
  λ given first b before begun. rw append-nil begun,
)

-- what is read for the next line is read in time
pub talks_here : {given : Option ℕ} {first i j : InputSeen} {o o' : OutputSeen} {x y : HearingValue} {workers : ℕ}
    {start talk : PlayerValue} (begun : Begins given first i x workers) (c : Conversing workers i j o o' x y start talk)
    → IsFresh workers start → (t g : List ℕ) → StillOpen workers y.input t g
    → IsAnswered given ((begun.taken.more ++ c.taken.more) ++ t) (c.written ++ g)
talks_here begun c fresh = is_answered (answered begun c fresh)

moved : {given : Option ℕ} {a b c : Log} (front mid back : List ℕ) {output : List ℕ}
    → InTime given a b ((front ++ mid) ++ back) output → c ≡ b → InTime given a c (front ++ (mid ++ back)) output
moved front mid back had same = rw same (rw append_assoc at had)

pub talks_more : {workers : ℕ} {i j k : InputSeen} {o o' o'' : OutputSeen} {x y z : HearingValue}
    {start old new : PlayerValue} {a b c d : Log} (command : Option Command)
    → IsFresh workers start → TalksInTime workers i j o o' x y start old a b
    → (h : Hears j k workers y z (command_list command)) × ReadsOpen b c workers y.input h.taken.more
    → RespondsInTime command old new o' o'' c d → TalksInTime workers i k o o'' x z start new a d
talks_more {workers} {i} {j} {k} {o} {o'} {o''} {x} {y} {z} {start} {old} {new} {a} {b} {c} {d} command fresh talks
    heard_it
    responds = by_command command heard_it responds
  where
    read : (more : List ℕ) → ReadsOpen b c workers y.input more → (given : Option ℕ) (first : InputSeen)
        (begun : Begins given first i x workers) (before : Log) → InTime given before a begun.taken.more []
        → InTime given before c ((begun.taken.more ++ talks.0.taken.more) ++ more) talks.0.written
    read more reads given first begun before timely = reads_timely (talks.1 given first begun before timely)
        (talks_here begun talks.0 fresh) reads

    by_command : (command : Option Command)
        → (h : Hears j k workers y z (command_list command)) × ReadsOpen b c workers y.input h.taken.more
        → RespondsInTime command old new o' o'' c d → TalksInTime workers i k o o'' x z start new a d
    by_command (Some Go) (h, reads) (answers, logged) = (
      converses_more (Some Go) talks.0 h answers,
      λ given first begun before timely. gives_timely answers.lines (moved begun.taken.more talks.0.taken.more
          h.taken.more (read h.taken.more reads given first begun before timely) refl) logged,
    )
    by_command command (h, reads) (done, same) = (
      converses_more command talks.0 h done,
      λ given first begun before timely. moved begun.taken.more talks.0.taken.more h.taken.more
          (read h.taken.more reads given first begun before timely) same,
    )

-- nothing more is heard, or what was heard isn't answered
pub talks_last : {workers : ℕ} {i j : InputSeen} {o o' : OutputSeen} {x y : HearingValue} {start talk : PlayerValue}
    {a b c : Log} (d : Log) → IsFresh workers start → TalksInTime workers i j o o' x y start talk a b
    → ReadsWhile b c (StillOpen workers y.input) → GivesSome c d → ContinuesInTime workers i x a d
talks_last d fresh talks reads gives given first begun before timely =
    ends_timely (talks.1 given first begun before timely) (talks_here begun talks.0 fresh) reads gives

-- ---- the front

abbrev no_output : OutputSeen
no_output = record { bytes = None; failures = 0 }

-- nothing is due before the first command
passed_here : {i j : InputSeen} {y : HearingValue} {front : List (List ℕ)}
    (passed : HasPassed i j unheard_session y front)
    (t g : List ℕ) → StillOpen 2 y.input t g → IsAnswered None (passed.taken.more ++ t) ([] ++ g)
passed_here passed = is_answered (front_answered {o = no_output} passed)

-- lines before the first command that say nothing were passed in time
abbrev pub PassesInTime : InputSeen → InputSeen → HearingValue → List (List ℕ) → Log → Log → Type 0
PassesInTime i j y front a b = (passed : HasPassed i j unheard_session y front) × InTime None a b passed.taken.more []

pub passes_none : {i : InputSeen} {log : Log} → PassesInTime i i unheard_session [] log log
passes_none = (passed_none, begins_timely)

-- one line more was waited for
pub passed_timely : {i j k : InputSeen} {y z : HearingValue} {front : List (List ℕ)} {a b c : Log}
    (p : PassesInTime i j y front a b) (stays : Stays j k y z [])
    → Waits b c y.input z.input [] (StillWaits y.input 0) → InTime None a c (p.0.taken.more ++ stays.got.more) []
passed_timely p stays waits = reads_timely p.1 (passed_here p.0) (line_reads stays.got waits)

-- it didn't come
pub passed_last : {i j : InputSeen} {y : HearingValue} {z : Incoming} {front : List (List ℕ)} {lost : List ℕ}
    {a b c : Log} → PassesInTime i j y front a b → Waits b c y.input z lost (StillWaits y.input 0)
    → AnswersInTime None a c
passed_last {c} p waits = ends_timely p.1 (passed_here p.0) (open_line waits) (gives_none c)
