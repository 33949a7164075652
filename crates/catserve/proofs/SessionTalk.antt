-- How a session goes on, thing by thing.
use Rattle.catserve.proofs.Common.{◌≡◌, ◌∙◌, refl, sym, ap, ℕ, ◌+◌, ◌<◌, ◌≤◌, fold, List, [], ◌∷◌, ◌++◌, length, arith}
use Rattle.catserve.proofs.Common.{append_assoc, length-append, Option, Some, None, concat, filter_map, Appends}
use Rattle.catserve.proofs.Common.{Appends-nil, Appends-trans, append-nil, concat-append, QueryValue, SeenValue}
use Rattle.catserve.proofs.Common.{version_of, StoreValue, HasRoom, command_list, Command, Load, Ask, Go, RoundValue}
use Rattle.catserve.proofs.Common.{Gathered, empty_round, nothing, gathered_with, loads_so_far, few_more, readers_of}
use Rattle.catserve.proofs.Common.{accepted_load, Finishes, HasLoaded, HasPlayed, PlaysOne, InputSeen, OutputSeen}
use Rattle.catserve.proofs.Common.{HaveEnded, HearingValue, Hears, size_behind, PlayerValue, AnswersRound, MakesLoad}
use Rattle.catserve.proofs.Common.{GivesQuestion, Responds, IsFresh, HasTalked, HasOpen, Conversing}
use Rattle.script_text.specs.ScriptLoads.{JobValue}
use Rattle.catserve.proofs.Asked.{asked_more, count_of, readers-given}
use Rattle.catserve.proofs.Playing.{loads_more, plays_more, plays_none, few_outcomes}
use Rattle.catserve.proofs.LinesTaken.{taken_none, taken_then}
use Rattle.catserve.proofs.SessionLines.{heard_none, heard_more, ended_so}

-- ---- the open round

-- without a load
loaded_none : {store : StoreValue} {held : List ℕ} → held ≡ [] → HasLoaded [] store store [] held
loaded_none {store} none = record {
  loaded = record { outcomes = []; each = tt; pending_are = sym (append-nil store.pending); written = none };
  seen = refl;
  most = refl;
}

-- a round whose lines begin with nothing, after what was written
played_behind : {workers : ℕ} {round : RoundValue} {was now : StoreValue} {written lines : List ℕ}
    → PlaysOne workers round was now [] lines → PlaysOne workers round was now written (written ++ lines)
played_behind {written} one = record {
  output = one.output;
  plays = one.plays;
  none_pending = one.none_pending;
  most = one.most;
  written = ap (λ xs. written ++ xs) one.written;
}

-- the open round has these lines
pub plays_open : {workers : ℕ} {g : Gathered} {start : StoreValue} {old : PlayerValue} {now : StoreValue}
    {written : List ℕ} (lines : List ℕ) → HasTalked workers g start old written
    → Finishes (length old.desks) old.store old.desks old.held now lines
    → HasPlayed workers (g.ended ++ g.current ∷ []) start now (written ++ lines)
plays_open {g} {old} {now} lines talked finishes =
    let one : PlaysOne (length old.desks) g.current talked.before now [] lines =
    finishes g.current talked.before [] talked.played.none_pending talked.loaded talked.asked in
    plays_more talked.played (played_behind (rw talked.count at one))

-- it was answered
pub answers_one : {workers : ℕ} {g : Gathered} {start : StoreValue} {old new : PlayerValue} {o o' : OutputSeen}
    {written : List ℕ} (talked : HasTalked workers g start old written) (a : AnswersRound old new o o')
    → HasPlayed workers (g.ended ++ g.current ∷ []) start new.store (written ++ a.lines)
answers_one talked a = plays_open a.lines talked a.finishes

-- ---- the talk

-- with the first line
pub talked_none : {workers : ℕ} {start : PlayerValue} → IsFresh workers start
    → HasTalked workers nothing start.store start []
talked_none {start} fresh = record {
  before = start.store;
  played = plays_none fresh.none_pending;
  loaded = loaded_none fresh.held;
  asked = fresh.ready.free;
  book = fresh.ready.book;
  count = fresh.count;
  begun = fresh.begun;
}

pub talked_load : {workers : ℕ} {g : Gathered} {start : StoreValue} {old new : PlayerValue} {written : List ℕ}
    {load : JobValue} → HasTalked workers g start old written → MakesLoad load old new
    → HasTalked workers (gathered_with g (Load load)) start new written
talked_load {g} talked makes = record {
  before = talked.before;
  played = talked.played;
  loaded = record {
    loaded = loads_more talked.loaded.loaded makes.loads;
    seen = makes.seen ∙ talked.loaded.seen;
    most = makes.most ∙ talked.loaded.most;
  };
  asked = rw makes.desks (rw (← append-nil g.current.questions) at talked.asked);
  book = rw makes.desks (rw (← makes.seen) at talked.book);
  count = ap length makes.desks ∙ talked.count;
  begun = makes.begun;
}

pub talked_ask : {workers : ℕ} {g : Gathered} {start : StoreValue} {old new : PlayerValue} {written : List ℕ}
    {worker : ℕ} {query : QueryValue} → HasTalked workers g start old written → GivesQuestion worker query old new
    → HasTalked workers (gathered_with g (Ask worker query)) start new written
talked_ask {g} {old} {new} {worker} {query} talked gives =
    let readers = readers-given old.desks new.desks worker query gives.gives in
    record {
      before = talked.before;
      played = talked.played;
      loaded = rw (append-nil g.current.loads) (rw (← gives.store) at (rw (← gives.held) at talked.loaded));
      asked = asked_more 0 worker worker g.current.questions query old.desks new.desks (omega arith) talked.asked
          gives.gives;
      book = rw readers (rw (← gives.store) at talked.book);
      count = count_of new.desks (readers_of old.desks) readers ∙ sym (count_of old.desks (readers_of old.desks) refl)
          ∙ talked.count;
      begun = gives.begun;
    }

pub talked_go : {workers : ℕ} {g : Gathered} {start : StoreValue} {old new : PlayerValue} {o o' : OutputSeen}
    {written : List ℕ} (talked : HasTalked workers g start old written) (a : AnswersRound old new o o')
    → HasTalked workers (gathered_with g Go) start new (written ++ a.lines)
talked_go {new} talked a = record {
  before = new.store;
  played = answers_one talked a;
  loaded = loaded_none a.held;
  asked = a.ready.free;
  book = a.ready.book;
  count = a.count ∙ talked.count;
  begun = a.begun;
}

-- what a line says was done
pub talked_more : {workers : ℕ} {g : Gathered} {start : StoreValue} {old : PlayerValue} (new : PlayerValue)
    (o o' : OutputSeen) {written : List ℕ} (first : Option (List ℕ)) (command : Option Command)
    → HasTalked workers g start old written → Appends first o.bytes written → Responds command old new o o'
    → (more : List ℕ) × HasTalked workers (fold gathered_with g (command_list command)) start new more
    × Appends first o'.bytes more
talked_more new o o' {written} first None talked output (same, kept) = (written, rw (← same) at talked, rw kept output)
talked_more new o o' {written} first (Some (Load load)) talked output (makes, kept) =
    (written, talked_load talked makes, rw kept output)
talked_more new o o' {written} first (Some (Ask worker query)) talked output (gives, kept) =
    (written, talked_ask talked gives, rw kept output)
talked_more new o o' {written} first (Some Go) talked output answers = (
  written ++ answers.lines,
  talked_go talked answers,
  Appends-trans first o.bytes o'.bytes written answers.lines output answers.written,
)

-- there is room for one load more
pub room_left : {workers : ℕ} {g : Gathered} {start talk : PlayerValue} {written : List ℕ}
    → HasTalked workers g start.store talk written → IsFresh workers start
    → loads_so_far g < 18446744073709551615 → HasRoom talk.store
room_left {g} t fresh few =
    let all = t.loaded.loaded in
    omega (
      arith,
      few,
      t.played.few,
      t.played.most,
      t.loaded.most,
      fresh.room,
      ap (λ (s : SeenValue). version_of s.batches) t.loaded.seen,
      ap version_of fresh.none_published,
      ap length t.played.none_pending,
      ap length all.pending_are,
      length-append t.before.pending (filter_map accepted_load all.outcomes),
      few_outcomes g.current.loads all.outcomes all.each,
    )

-- ---- the session

-- in no line no round has ended
abbrev pub ended_first : (given : Option ℕ) → (workers : ℕ) × HaveEnded given [] workers []
ended_first None = (2, record { last = empty_round; says = refl })
ended_first (Some workers) = (workers, record { last = empty_round; says = refl })

abbrev pub converses_none : {workers : ℕ} {i : InputSeen} {o : OutputSeen} {x : HearingValue} {start : PlayerValue}
    → 0 < x.number → IsFresh workers start → Conversing workers i i o o x x start start
converses_none {workers} {o} some fresh = record {
  lines = [];
  g = nothing;
  written = [];
  taken = taken_none;
  heard = heard_none some;
  talked = talked_none fresh;
  output = Appends-nil o.bytes;
  steady = refl;
  is_open = λ given first b. record {
    before = [];
    round = b.front ++ [];
    cut = refl;
    size_is = b.size ∙ ap (λ ls. length (concat ls)) (sym (append-nil b.front));
    workers = (ended_first given).0;
    ended_before = (ended_first given).1;
  };
}

-- the open round with some lines more
pub open_more : {given : Option ℕ} {front : List (List ℕ)} (raw : List (List ℕ)) {g h : Gathered}
    {size next : ℕ} → h.ended ≡ g.ended
    → next ≡ size + length (concat raw) → HasOpen given front g size → HasOpen given (front ++ raw) h next
open_more raw same next_is was = record {
  before = was.before;
  round = was.round ++ raw;
  cut = ap (λ ls. ls ++ raw) was.cut ∙ append_assoc was.before was.round raw;
  size_is = omega (
    arith,
    next_is,
    was.size_is,
    ap length (concat-append was.round raw),
    length-append (concat was.round) (concat raw),
  );
  workers = was.workers;
  ended_before = rw same was.ended_before;
}

-- a round has ended
pub open_none : {given : Option ℕ} {front : List (List ℕ)} {g : Gathered} {size workers : ℕ} → size ≡ 0
    → HaveEnded given front workers g.ended → HasOpen given front g size
open_none {front} {workers} none ended = record {
  before = front;
  round = [];
  cut = sym (append-nil front);
  size_is = none;
  workers = workers;
  ended_before = ended;
}

-- something that doesn't end the round
abbrev pub goes_on : {workers : ℕ} {i j k : InputSeen} {o o' o'' : OutputSeen} {x y z : HearingValue}
    {start old new : PlayerValue} {commands : List Command} (c : Conversing workers i j o o' x y start old)
    (h : Hears j k workers y z commands) (few : loads_so_far (fold gathered_with c.g commands) ≤ loads_so_far c.g + 1)
    → size_behind commands (y.size + length (concat h.raw)) ≡ y.size + length (concat h.raw)
    → (fold gathered_with c.g commands).ended ≡ c.g.ended
    → HasTalked workers (fold gathered_with c.g commands) start.store new c.written → o'' ≡ o'
    → Conversing workers i k o o'' x z start new
goes_on {commands} c h few size same talked kept = record {
  lines = c.lines ++ h.raw;
  g = fold gathered_with c.g commands;
  written = c.written;
  taken = taken_then c.taken h.taken;
  heard = heard_more c.heard h.said h.number few;
  talked = talked;
  output = rw kept c.output;
  steady = ap (λ (out : OutputSeen). out.failures) kept ∙ c.steady;
  is_open = λ given first b.
      rw (← append_assoc b.front c.lines h.raw) (open_more h.raw same (h.size ∙ size) (c.is_open given first b));
}

-- what a line says was done
abbrev pub converses_more : {workers : ℕ} {i j k : InputSeen} {o o' o'' : OutputSeen}
    {x y z : HearingValue} {start old new : PlayerValue} (command : Option Command)
    → Conversing workers i j o o' x y start old → Hears j k workers y z (command_list command)
    → Responds command old new o' o'' → Conversing workers i k o o'' x z start new
converses_more None c h (same, kept) = goes_on c h (few_more c.g None) refl refl (rw (← same) at c.talked) kept
converses_more (Some (Load load)) c h (makes, kept) =
    goes_on c h (few_more c.g (Some (Load load))) refl refl (talked_load c.talked makes) kept
converses_more (Some (Ask worker query)) c h (gives, kept) =
    goes_on c h (few_more c.g (Some (Ask worker query))) refl refl (talked_ask c.talked gives) kept
converses_more {o} {o'} {o''} {z} (Some Go) c h answers =
    let g = gathered_with c.g Go in
    let taken = taken_then c.taken h.taken in
    let heard_so = heard_more c.heard h.said h.number (few_more c.g (Some Go)) in
    record {
      lines = c.lines ++ h.raw;
      g = g;
      written = c.written ++ answers.lines;
      taken = taken;
      heard = heard_so;
      talked = talked_go c.talked answers;
      output = Appends-trans o.bytes o'.bytes o''.bytes c.written answers.lines c.output answers.written;
      steady = answers.steady ∙ c.steady;
      is_open = λ given first b. open_none h.size (ended_so z b taken heard_so);
    }

-- there is room for one load more
pub has_room : {workers : ℕ} {i j : InputSeen} {o o' : OutputSeen} {x y : HearingValue} {start talk : PlayerValue}
    → Conversing workers i j o o' x y start talk → IsFresh workers start → y.number < 18446744073709551616
    → HasRoom talk.store
has_room c fresh small = room_left c.talked fresh (omega (arith, small, c.heard.few))
