-- When a session waits.
use Rattle.catserve.proofs.Common.{◌≡◌, ◌∙◌, refl, ap, ℕ, false, List, [], ◌∷◌, ◌++◌, length, arith, take, inl, inr}
use Rattle.catserve.proofs.Common.{append_assoc, length-append, Some, cases_Bool, append-nil, take-append-le}
use Rattle.catserve.proofs.Common.{AnswersFirst, Log, came, given_bytes, without_end, EndsLine, Incoming, MayCome}
use Rattle.catserve.proofs.Common.{ReadsWhile, StillCounts, StillWaits, Waits, Line, Loads, line_of, text_lines}
use Rattle.catserve.proofs.Common.{rest_to_come, StillOpen}
use Rattle.devices.proofs.Logging.{answers_none, answers_so, answers_then, given_then, grows_none, grows_then}
use Rattle.devices.proofs.Arriving.{both}
use Rattle.devices.proofs.LineCounting.{ends_grown, ends_more, ends_none}

pub reads_none : {log : Log} {Still : List ℕ → List ℕ → Type 0} → ReadsWhile log log Still
reads_none {log} {Still} = record { events = []; logged = grows_none log; silent = refl; each = answers_none Still }

abbrev pub reads_of : {a b : Log} {x y : Incoming} {lost : List ℕ} {Still : List ℕ → List ℕ → Type 0}
    → Waits a b x y lost Still → ReadsWhile a b Still
reads_of waits = record { events = waits.events; logged = waits.logged; silent = waits.silent; each = waits.each }

abbrev pub reads_so : {a b : Log} {Still Other : List ℕ → List ℕ → Type 0}
    → ((c g : List ℕ) → Still c g → Other c g) → ReadsWhile a b Still → ReadsWhile a b Other
reads_so {Still} {Other} so reads = record {
  events = reads.events;
  logged = reads.logged;
  silent = reads.silent;
  each = answers_so Still Other reads.events so reads.each;
}

-- no whole line has come
pub line_open : {workers : ℕ} {x : Incoming} (c g : List ℕ) → StillWaits x 0 c g → StillOpen workers x c g
line_open c g still = record { going = still.going; is_open = inl still.lacks; silent = still.silent }

abbrev pub open_line : {workers : ℕ} {a b : Log} {x y : Incoming} {lost : List ℕ} → Waits a b x y lost (StillWaits x 0)
    → ReadsWhile a b (StillOpen workers x)
open_line waits = reads_so (line_open) (reads_of waits)

-- a load without its whole text
pub text_open : {workers : ℕ} {x : Incoming} {end : ℕ} (line : Line) → EndsLine x 0 end
    → line_of workers (without_end (take end x.left)) ≡ Some line
    → (c g : List ℕ) → StillCounts (text_lines line) x end c g → StillOpen workers x c g
text_open {workers} {x} {end} (Loads domain locale options count) ends says c g still = record {
  going = still.going;
  is_open = inr (record {
    end = end;
    first = ends_grown 1 x (rest_to_come (x.left ++ c)) 0 end c still.going refl
        (ends_more 0 x 0 0 end (ends_none x 0 (omega arith)) ends);
    domain = domain;
    locale = locale;
    options = options;
    count = count;
    says = ap (λ raw. line_of workers (without_end raw)) (take-append-le end x.left c ends.within) ∙ says;
    lines = still.ended;
    fewer = still.fewer;
    text_end = still.end;
    ends = still.ends;
    lacks = still.lacks;
  });
  silent = still.silent;
}
text_open _ ends says c g still = absurd (omega (arith, still.fewer))

abbrev pub open_text : {workers : ℕ} {a b : Log} {x : Incoming} {end : ℕ} (line : Line) → EndsLine x 0 end
    → line_of workers (without_end (take end x.left)) ≡ Some line
    → ReadsWhile a b (StillCounts (text_lines line) x end) → ReadsWhile a b (StillOpen workers x)
open_text line ends says reads = reads_so (text_open line ends says) reads

-- ---- one after another

going_before : (x : Incoming) (more : List ℕ) → ((text : List ℕ) → MayCome x (more ++ text)) → x.ended ≡ false
going_before x more may = elim (cases_Bool x.ended) [
  | inl ended ↦ absurd (omega (arith, ap length (may (65 ∷ []) ended), length-append more (65 ∷ [])))
  | inr goes ↦ goes
]

pub open_each : {workers : ℕ} {a b c : Log} {x y : Incoming} (more : List ℕ)
    → ((text : List ℕ) → MayCome y text → MayCome x (more ++ text)) → (waits : Waits a b x y [] (StillWaits x 0))
    → (reads : ReadsWhile b c (StillOpen workers y)) → AnswersFirst (StillOpen workers x) (waits.events ++ reads.events)
open_each {workers} {x} {y} more may waits reads = answers_then (StillOpen workers x) waits.events reads.events
    (answers_so (StillWaits x 0) (StillOpen workers x) waits.events (line_open) waits.each)
    (answers_so (StillOpen workers y) (λ t g. StillOpen workers x (came waits.events ++ t)
    (given_bytes waits.events ++ g))
    reads.events still reads.each)
  where
    here : x.left ++ came waits.events ≡ y.left
    here = waits.placed ∙ append-nil y.left

    still : (t g : List ℕ) → StillOpen workers y t g
        → StillOpen workers x (came waits.events ++ t) (given_bytes waits.events ++ g)
    still t g was = record {
      going = going_before x more (λ text. may text (λ ended. both y.ended ended was.going));
      is_open = rw (← append_assoc x.left (came waits.events) t, here) was.is_open;
      silent = ap (λ h. h ++ g) waits.silent ∙ was.silent;
    }

pub open_then : {workers : ℕ} {a b c : Log} {x y : Incoming} (more : List ℕ)
    → ((text : List ℕ) → MayCome y text → MayCome x (more ++ text)) → Waits a b x y [] (StillWaits x 0)
    → ReadsWhile b c (StillOpen workers y) → ReadsWhile a c (StillOpen workers x)
open_then {a} {b} {c} more may waits reads = record {
  events = waits.events ++ reads.events;
  logged = grows_then a b c waits.events reads.events waits.logged reads.logged;
  silent = rw (given_then, waits.silent) reads.silent;
  each = open_each more may waits reads;
}
