-- What desks are asked, and what they have answered.
use Rattle.catserve.proofs.Common.{◌≡◌, ◌≢◌, ◌∙◌, refl, sym, ap, ℕ, zero, suc, ◌+◌, ◌<◌, ◌≤◌, max, List, [], ◌∷◌, drop}
use Rattle.catserve.proofs.Common.{◌++◌, length, take, set, All, arith, length-append, get_or, Bool, false, nat_lt}
use Rattle.catserve.proofs.Common.{◌||◌, take-append_seam, append-nil, length-map, take_all, false≢true, lt-ltb, ne_eqb}
use Rattle.catserve.proofs.Common.{eq-eqb, AllZip, list_any, LoadValue, QueryValue, IsAnswer, joined_loads, version_of}
use Rattle.catserve.proofs.Common.{SeenValue, StoreValue, Desk, QuestionValue, query_for, queries_for, answer_line}
use Rattle.catserve.proofs.Common.{Answers, AnswersInTurn, readers_of, AreAsked, GivesOne, answer_lines, desk_lines}
use Rattle.catserve.proofs.Common.{is_asked, IsFreed, AreReady, HaveBook}
use Rattle.std.proofs.lemmas.List.Elements.{All-nil, All-cons, filter_map-append}
use Rattle.std.specs.String.{string_bytes}
use Rattle.desks.specs.Jobs.{JobValue, Outcome, HasDone, store_after_publish}
use Rattle.desks.specs.Answers.{Answered}
use Rattle.desks.specs.Desks.{IsServed}
use Rattle.desks.specs.declared.desk.Answer.{Answer}
use Rattle.live_loads.proofs.Joining.{joined-append}

-- ---- questions

-- a question more to this worker
queries-more : (worker : ℕ) (questions : List QuestionValue) (query : QueryValue)
    → queries_for worker (questions ++ record { worker = worker; query = query } ∷ [])
    ≡ queries_for worker questions ++ query ∷ []
queries-more worker questions query =
    filter_map-append (query_for worker) questions (record { worker = worker; query = query } ∷ [])
    ∙ ap (λ xs. queries_for worker questions ++ xs) (rw (eq-eqb worker worker refl) refl)

-- a question more to another one
queries-same : (worker other : ℕ) (questions : List QuestionValue) (query : QueryValue) → other ≢ worker
    → queries_for worker (questions ++ record { worker = other; query = query } ∷ []) ≡ queries_for worker questions
queries-same worker other questions query differs =
    filter_map-append (query_for worker) questions (record { worker = other; query = query } ∷ [])
    ∙ ap (λ xs. queries_for worker questions ++ xs) (rw (ne_eqb other worker differs) refl)
    ∙ append-nil (queries_for worker questions)

-- a question to a worker before these desks
asked_behind : (worker other : ℕ) (questions : List QuestionValue) (query : QueryValue) (desks : List Desk)
    → other < worker → AreAsked worker questions desks
    → AreAsked worker (questions ++ record { worker = other; query = query } ∷ []) desks
asked_behind worker other questions query [] below asked = tt
asked_behind worker other questions query (desk ∷ desks) below asked = (
  asked.0 ∙ sym (queries-same worker other questions query (λ e. absurd (omega arith))),
  asked_behind (worker + 1) other questions query desks (omega arith) asked.1,
)

-- one question more
pub asked_more : (first worker other : ℕ) (questions : List QuestionValue) (query : QueryValue)
    (desks after : List Desk)
    → other ≡ first + worker → AreAsked first questions desks → GivesOne desks worker query after
    → AreAsked first (questions ++ record { worker = other; query = query } ∷ []) after
asked_more first worker other questions query [] [] at asked given = tt
asked_more first zero other questions query (desk ∷ desks) (d ∷ after) at asked (items, reader, same) =
    let here : other ≡ first = omega arith in
    rw (here, same) (
      items ∙ ap (λ xs. xs ++ query ∷ []) asked.0 ∙ sym (queries-more first questions query),
      asked_behind (first + 1) first questions query desks (omega arith) asked.1,
    )
asked_more first (suc worker) other questions query (desk ∷ desks) (d ∷ after) at asked (same, given) = (
  ap (λ (x : Desk). x.queries.items) same ∙ asked.0
      ∙ sym (queries-same first other questions query (λ e. absurd (omega arith))),
  asked_more (first + 1) worker other questions query desks after (omega arith) asked.1 given,
)
asked_more _ _ other questions query _ _ at asked given = absurd given

pub readers-given : (desks after : List Desk) (worker : ℕ) (query : QueryValue) → GivesOne desks worker query after
    → readers_of after ≡ readers_of desks
readers-given [] [] worker query given = refl
readers-given (desk ∷ desks) (d ∷ after) zero query (items, reader, same) = rw (reader, same) refl
readers-given (desk ∷ desks) (d ∷ after) (suc worker) query (same, given) =
    rw (same, readers-given desks after worker query given) refl
readers-given _ _ zero query given = absurd given
readers-given _ _ (suc worker) query given = absurd given

-- a query was appended to those of the desk with this number
pub gives_at : (desks : List Desk) (worker : ℕ) (query : QueryValue) (desk d : Desk) → worker < length desks
    → d.queries.items ≡ (get_or desks worker desk).queries.items ++ query ∷ []
    → d.reader ≡ (get_or desks worker desk).reader → GivesOne desks worker query (set desks worker d)
gives_at [] worker query desk d below items reader = absurd (omega arith)
gives_at (x ∷ desks) zero query desk d below items reader = (items, reader, refl)
gives_at (x ∷ desks) (suc worker) query desk d below items reader = (
  refl,
  gives_at desks worker query desk d (omega arith) items reader,
)

-- there is no desk with this number
pub gives_none : (desks : List Desk) (worker : ℕ) (query : QueryValue) → length desks ≤ worker
    → GivesOne desks worker query desks
gives_none [] worker query beyond = tt
gives_none (desk ∷ desks) zero query beyond = absurd (omega arith)
gives_none (desk ∷ desks) (suc worker) query beyond = (refl, gives_none desks worker query (omega arith))

-- ---- answers

-- answers that are all of the last version or later are of that version
answered_all : (batches : List (List LoadValue)) (least : ℕ) (queries : List QueryValue) (answers : List Answer)
    → version_of batches ≤ least → Answered batches least queries answers → AllZip
    (λ (query : QueryValue) (answer : Answer). (answer.version ≡ version_of batches)
    × IsAnswer (joined_loads batches) query (string_bytes answer.text)) queries answers
answered_all batches least [] [] last h = tt
answered_all batches least (query ∷ queries) (answer ∷ answers) last (from, is, more) =
    let (rest, e) = is.begins in
    let whole = ap joined_loads e ∙ joined-append is.front rest in
    let all : answer.version ≡ version_of batches = omega (
      arith,
      from,
      last,
      is.version_is,
      ap length whole,
      length-append (joined_loads is.front) (joined_loads rest),
    ) in (
      (all, rw (take_all answer.version (joined_loads batches) (omega arith)) at is.text_is),
      answered_all batches answer.version queries answers (omega arith) more,
    )
answered_all batches least _ _ last h = absurd h

-- their lines are those of a worker
lines_of : (loads : List LoadValue) (worker : ℕ) (queries : List QueryValue) (answers : List Answer)
    → AllZip (λ (query : QueryValue) (answer : Answer). (answer.version ≡ length loads) × IsAnswer loads query
    (string_bytes answer.text)) queries answers → Answers loads worker queries (answer_lines worker answers)
lines_of loads worker [] [] h = ([], tt, refl)
lines_of loads worker (query ∷ queries) (answer ∷ answers) ((version, is), more) =
    let (texts, each, lines) = lines_of loads worker queries answers more in (
      string_bytes answer.text ∷ texts,
      (is, each),
      ap (λ v. answer_line worker v (string_bytes answer.text) ++ answer_lines worker answers) version
          ∙ ap (λ xs. answer_line worker (length loads) (string_bytes answer.text) ++ xs) lines,
    )
lines_of loads worker _ _ h = absurd h

-- the answers of desks that were served, where nothing was published meanwhile
pub answers_in_turn : (start end : SeenValue) (questions : List QuestionValue) (worker : ℕ) (asked served : List Desk)
    → end.batches ≡ start.batches → AreAsked worker questions asked → AllZip (IsServed start end) asked served
    → AnswersInTurn (joined_loads end.batches) questions worker (length asked) (desk_lines worker served)
answers_in_turn start end questions worker [] [] same given all = refl
answers_in_turn start end questions worker (desk ∷ asked) (s ∷ served) same given all = (
  answer_lines worker s.answers.items,
  desk_lines (worker + 1) served,
  rw given.0 at (lines_of (joined_loads end.batches) worker desk.queries.items s.answers.items
      (answered_all end.batches (max (version_of desk.reader.batches) (version_of start.batches)) desk.queries.items
      s.answers.items (omega (arith, ap version_of same)) all.0.answered)),
  answers_in_turn start end questions (worker + 1) asked served same given.1 all.1,
  refl,
)
answers_in_turn start end questions worker _ _ same given all = absurd all

-- the list is empty, and so are the others
none_here : (queries : List QueryValue) (others : Bool) → (nat_lt 0 (length queries) || others) ≡ false
    → (queries ≡ []) × (others ≡ false)
none_here [] others none = (refl, none)
none_here (query ∷ queries) others none =
    absurd (false≢true (sym (rw (lt-ltb 0 (length (query ∷ queries)) (omega arith)) at none)))

-- desks without questions have nothing to answer
pub none_in_turn : (loads : List LoadValue) (questions : List QuestionValue) (worker : ℕ) (desks : List Desk)
    → AreAsked worker questions desks → list_any is_asked desks ≡ false
    → AnswersInTurn loads questions worker (length desks) []
none_in_turn loads questions worker [] asked none = refl
none_in_turn loads questions worker (desk ∷ desks) asked none =
    let (here, others) = none_here desk.queries.items (list_any is_asked desks) none in (
      [],
      [],
      rw (sym asked.0 ∙ here) ([], tt, refl),
      none_in_turn loads questions (worker + 1) desks asked.1 others,
      refl,
    )

-- ---- from round to round

-- desks without questions are ready for the next round
pub ready_still : (was now : SeenValue) (desks : List Desk) → now.book ≡ was.book → HaveBook was desks
    → list_any is_asked desks ≡ false → AreReady now desks
ready_still was now desks same book none = record {
  book = λ k reader below. book k reader below ∙ sym same;
  free = frees 0 desks none;
} where
  frees : (worker : ℕ) (desks : List Desk) → list_any is_asked desks ≡ false → AreAsked worker [] desks
  frees worker [] none = tt
  frees worker (desk ∷ desks) none =
      let (here, others) = none_here desk.queries.items (list_any is_asked desks) none in
      (here, frees (worker + 1) desks others)

-- desks that were served and freed are ready for the next round
pub ready_again : (start : SeenValue) {end : SeenValue} (asked served : List Desk) {freed : List Desk}
    → AllZip (IsServed start end) asked served → AllZip IsFreed served freed → AreReady end freed
ready_again start {end} asked served {freed} all gone = record
    { book = books asked served freed all gone; free = frees 0 served freed gone }
  where
    books : (asked served freed : List Desk) → AllZip (IsServed start end) asked served → AllZip IsFreed served freed
        → All (λ (seen : SeenValue). seen.book ≡ end.book) (readers_of freed)
    books [] [] [] h k = All-nil (λ (seen : SeenValue). seen.book ≡ end.book)
    books (d ∷ ds) (s ∷ ss) (f ∷ fs) h k =
        All-cons (λ (seen : SeenValue). seen.book ≡ end.book) f.reader (readers_of fs)
        (ap (λ (seen : SeenValue). seen.book) (k.0.reader ∙ h.0.reader)) (books ds ss fs h.1 k.1)
    books _ _ _ h k = absurd (search)

    frees : (worker : ℕ) (served freed : List Desk) → AllZip IsFreed served freed → AreAsked worker [] freed
    frees worker [] [] k = tt
    frees worker (s ∷ ss) (f ∷ fs) k = (k.0.queries, frees (worker + 1) ss fs k.1)
    frees worker _ _ k = absurd k

-- where all readers are of one store, so are those of the desks
pub books_of : (of : SeenValue) (desks : List Desk) → All (λ (seen : SeenValue). seen.book ≡ of.book) (readers_of desks)
    → All (λ (desk : Desk). desk.reader.book ≡ of.book) desks
books_of of [] all = All-nil (λ (desk : Desk). desk.reader.book ≡ of.book)
books_of of (desk ∷ desks) all = All-cons (λ (desk : Desk). desk.reader.book ≡ of.book) desk desks
    (all 0 desk.reader (omega arith)) (books_of of desks (λ k d below. all (suc k) d (omega arith)))

-- the desks of new readers
pub ready_first : {seen : SeenValue} (readers : List SeenValue) {desks : List Desk} → readers_of desks ≡ readers
    → AreAsked 0 [] desks → All (λ (reader : SeenValue). reader ≡ seen) readers → AreReady seen desks
ready_first readers e free all =
    let each = rw (← e) at all in
    record { book = λ k d below. ap (λ (reader : SeenValue). reader.book) (each k d below); free = free }

-- as many desks as readers
pub count_of : (desks : List Desk) (readers : List SeenValue) → readers_of desks ≡ readers → length desks
    ≡ length readers
count_of desks readers e = omega (arith, length-map {A = Desk} {B = SeenValue}, ap length e)

-- one desk more
pub opens_more : (desks : List Desk) (desk : Desk) → AreAsked 0 [] desks → desk.queries.items ≡ []
    → AreAsked 0 [] (desks ++ desk ∷ [])
opens_more desks desk free none = go 0 desks free where
  go : (worker : ℕ) (desks : List Desk) → AreAsked worker [] desks → AreAsked worker [] (desks ++ desk ∷ [])
  go worker [] free = (none, tt)
  go worker (d ∷ desks) free = (free.0, go (worker + 1) desks free.1)

-- desks that were given questions have the readers that they had
pub books_given : (was now : SeenValue) (old given : List Desk) → readers_of given ≡ readers_of old
    → now.book ≡ was.book → All (λ (seen : SeenValue). seen.book ≡ was.book) (readers_of old)
    → All (λ (desk : Desk). desk.reader.book ≡ now.book) given
books_given was now old given e same all =
    let each = books_of was given (rw (← e) at all) in
    λ k d below. each k d below ∙ sym same

-- a list that was written back whole
pub whole_of : (new old : List Desk) (count : ℕ) → count ≡ length new → take count (new ++ drop (length new) old) ≡ new
whole_of new old count e = rw e (take-append_seam new (drop (length new) old))

-- a service without jobs and with nothing pending leaves the store as it is
pub done_none : (s after : StoreValue) (jobs : List JobValue) (outcomes : List Outcome) → jobs ≡ [] → s.pending ≡ []
    → HasDone s jobs outcomes after → after ≡ s
done_none s after jobs outcomes none empty done =
    by_outcomes outcomes (rw none at done) ∙ rw (empty, ← empty) refl
  where
    by_outcomes : (outcomes : List Outcome) → HasDone s [] outcomes after → after ≡ store_after_publish s
    by_outcomes [] done = done
    by_outcomes (o ∷ os) done = absurd done
