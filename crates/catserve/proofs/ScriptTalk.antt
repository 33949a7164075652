-- A script that is played line by line.
use Rattle.catserve.proofs.Common.{◌≡◌, ℕ, ◌+◌, ◌<◌, ◌≤◌, true, false, List, [], ◌∷◌, ◌++◌, fold, length, arith, Option}
use Rattle.catserve.proofs.Common.{Some, None, flat_map, Appends, Appends-nil, Appends-trans, HasRoom, command_list}
use Rattle.catserve.proofs.Common.{Command, Go, Gathered, all_rounds, gathered_with, loads_so_far, nothing, so_far}
use Rattle.catserve.proofs.Common.{few_more, rounds_are, so_far-snoc, OutputSeen, Log, PlaysAll, HasPlayedAll}
use Rattle.catserve.proofs.Common.{AnswersRound, HasTalked, IsFresh, PlayerValue, Responds, RespondsInTime}
use Rattle.catserve.proofs.Playing.{plays_all}
use Rattle.catserve.proofs.SessionTalk.{answers_one, room_left, talked_more, talked_none}
use Rattle.catserve.proofs.SessionEnds.{nothing_open, one_open}

-- what these lines say was done, and the output of the rounds that have ended was written
pub record HasCome (workers : ℕ) (said : List (Option Command)) (start talk : PlayerValue) (old new : Option (List ℕ))
    : Type 0 where
  pub written : List ℕ
  pub talked : HasTalked workers (so_far said) start.store talk written
  pub output : Appends old new written

pub comes_none : {workers : ℕ} {start : PlayerValue} {old : Option (List ℕ)} → IsFresh workers start
    → HasCome workers [] start start old old
comes_none {old} fresh = record { written = []; talked = talked_none fresh; output = Appends-nil old }

-- each line has one load at most
few_loads : (said : List (Option Command)) (g : Gathered)
    → loads_so_far (fold gathered_with g (flat_map command_list said)) ≤ loads_so_far g + length said
few_loads [] g = omega arith
few_loads (None ∷ said) g = omega (arith, few_loads said g)
few_loads (Some command ∷ said) g = omega (arith, few_more g (Some command), few_loads said (gathered_with g command))

-- so there is room for the next one
pub room_for : {workers : ℕ} {said : List (Option Command)} {start talk : PlayerValue} {old new : Option (List ℕ)}
    → HasCome workers said start talk old new → IsFresh workers start → length said < 18446744073709551615
    → HasRoom talk.store
room_for {said} come fresh few = room_left come.talked fresh (omega (arith, few, few_loads said nothing))

responds_so : (old new : PlayerValue) (o o' : OutputSeen) (a b : Log) (command : Option Command)
    → RespondsInTime command old new o o' a b → Responds command old new o o'
responds_so old new o o' a b (Some Go) (answers, logged) = answers
responds_so old new o o' a b command (done, same) = done

-- one line more
pub comes_more : {workers : ℕ} {said : List (Option Command)} {start old new : PlayerValue} {first : Option (List ℕ)}
    (o o' : OutputSeen) (a b : Log) (command : Option Command) → HasCome workers said start old first o.bytes
    → RespondsInTime command old new o o' a b → HasCome workers (said ++ command ∷ []) start new first o'.bytes
comes_more {said} {old} {new} {first} o o' a b command come responds =
    let more = talked_more new o o' first command come.talked come.output
    (responds_so old new o o' a b command responds) in
    record { written = more.0; talked = rw (so_far-snoc said command) more.1; output = more.2 }

-- no round is open at the end
pub plays_idle : {workers : ℕ} {said : List (Option Command)} {start talk : PlayerValue} {old new : Option (List ℕ)}
    → HasCome workers said start talk old new → IsFresh workers start → talk.begun ≡ false
    → HasPlayedAll workers (flat_map command_list said) old new
plays_idle {workers} {said} {talk} come fresh idle =
    let plays : PlaysAll workers [] (all_rounds (so_far said)) come.written =
    rw (← nothing_open (so_far said) talk.begun come.talked.begun idle) at (rw fresh.none_published at
    (plays_all come.talked.played)) in
    (come.written, rw (rounds_are (flat_map command_list said)) at plays, come.output)

-- the last round was answered
pub plays_last : {workers : ℕ} {said : List (Option Command)} {start talk after : PlayerValue}
    {first : Option (List ℕ)} {o o' : OutputSeen} → HasCome workers said start talk first o.bytes
    → IsFresh workers start → talk.begun ≡ true → AnswersRound talk after o o'
    → HasPlayedAll workers (flat_map command_list said) first o'.bytes
plays_last {workers} {said} {talk} {first} {o} {o'} come fresh busy answers =
    let output = come.written ++ answers.lines in
    let plays : PlaysAll workers [] (all_rounds (so_far said)) output =
    rw (← one_open (so_far said) talk.begun come.talked.begun busy) at (rw fresh.none_published at
    (plays_all (answers_one come.talked answers))) in (
      output,
      rw (rounds_are (flat_map command_list said)) at plays,
      Appends-trans first o.bytes o'.bytes come.written answers.lines come.output answers.written,
    )
