-- The questions of a script, which are those of its rounds.
use Rattle.catserve.proofs.Common.{◌≡◌, ◌∙◌, refl, sym, ap, ℕ, ◌+◌, ◌<◌, ◌≤◌, ◌⊎◌, inl, inr, Bool, true, false, List}
use Rattle.catserve.proofs.Common.{[], ◌∷◌, ◌++◌, fold, length, arith, length-append, Option, append-nil, false≢true}
use Rattle.catserve.proofs.Common.{flat_map, list_any, command_list, Command, Load, Ask, Go, QuestionValue, RoundValue}
use Rattle.catserve.proofs.Common.{ScriptValue, rounds_of, IsScript, Gathered, all_rounds, gathered_with, nothing}
use Rattle.catserve.proofs.Common.{so_far, rounds_are, Desk, OutputSeen, AreAsked, is_asked, question_count, CutsShort}
use Rattle.catserve.proofs.Common.{EndsPlaying, kind_in_memory, FailsToAnswer, PlayerValue, ScriptKind}
use Rattle.std.proofs.lemmas.Grind.{flat_map-append}
use Rattle.std.proofs.lemmas.List.Sums.{fold-append, sum_by-append}
use Rattle.script_text.specs.declared.fault.ScriptKind.TheVariants as kind

-- how many questions are gathered
abbrev pub questions_so_far : Gathered → ℕ
questions_so_far g = question_count g.ended + length g.current.questions

-- the open round has begun if it has a question
abbrev pub HasBegun : Gathered → Type 0
HasBegun g = (g.begun ≡ true) ⊎ (length g.current.questions ≡ 0)

begun_more : (g : Gathered) (command : Command) → HasBegun g → HasBegun (gathered_with g command)
begun_more g Go begun = inr refl
begun_more g _ begun = inl refl

begun_all : (commands : List Command) (g : Gathered) → HasBegun g → HasBegun (fold gathered_with g commands)
begun_all [] g begun = begun
begun_all (command ∷ commands) g begun = begun_all commands (gathered_with g command) (begun_more g command begun)

-- one command takes none away
one_kept : (g : Gathered) (command : Command) → questions_so_far g ≤ questions_so_far (gathered_with g command)
one_kept g (Load load) = omega (arith, length-append g.current.questions [])
one_kept g (Ask worker query) =
    omega (arith, length-append g.current.questions (record { worker = worker; query = query } ∷ []))
one_kept g Go =
    omega (arith, sum_by-append (λ (round : RoundValue). length round.questions) g.ended (g.current ∷ []))

-- the rounds have all of them
all_kept : (commands : List Command) (g : Gathered) → HasBegun g
    → questions_so_far g ≤ question_count (all_rounds (fold gathered_with g commands))
all_kept [] g begun = by_begun g.begun refl begun where
  by_begun : (begun : Bool) → begun ≡ g.begun → (begun ≡ true) ⊎ (length g.current.questions ≡ 0)
      → questions_so_far g ≤ question_count (all_rounds g)
  by_begun true is h = rw (← is)
      (omega (arith, sum_by-append (λ (round : RoundValue). length round.questions) g.ended (g.current ∷ [])))
  by_begun false is (inl h) = absurd (false≢true h)
  by_begun false is (inr none) = rw (← is, append-nil) (omega (arith, none))
all_kept (command ∷ commands) g begun = omega (
  arith,
  one_kept g command,
  all_kept commands (gathered_with g command) (begun_more g command begun),
)

-- the questions of the open round are questions of the script
open_kept : (said rest : List (Option Command)) → length (so_far said).current.questions
    ≤ question_count (rounds_of (flat_map command_list (said ++ rest)))
open_kept said rest =
    let was = flat_map command_list said in
    let more = flat_map command_list rest in
    let whole : all_rounds (fold gathered_with (so_far said) more) ≡ rounds_of (flat_map command_list (said ++ rest)) =
    ap all_rounds (sym (fold-append gathered_with nothing was more)) ∙ rounds_are (was ++ more)
    ∙ ap rounds_of (sym (flat_map-append command_list said rest)) in
    let kept = rw whole at (all_kept more (so_far said) (begun_all was nothing (inr refl))) in
    omega (arith, kept)

-- desks that have a question were asked one
pub asked_some : (desks : List Desk) (worker : ℕ) (questions : List QuestionValue) → AreAsked worker questions desks
    → list_any is_asked desks ≡ true → 0 < length questions
asked_some [] worker questions asked some = absurd (false≢true some)
asked_some (desk ∷ desks) worker [] asked some = asked_some desks (worker + 1) [] asked.1 (rw asked.0 at some)
asked_some (desk ∷ desks) worker (question ∷ questions) asked some = omega arith

-- a line of a script isn't done
pub cuts_short : (old new : PlayerValue) (o o' : OutputSeen) (said rest all : List (Option Command)) (why : ScriptKind)
    → AreAsked 0 (so_far said).current.questions old.desks → said ++ rest ≡ all
    → FailsToAnswer old new o o' why → CutsShort (flat_map command_list all) why
cuts_short old new o o' said rest all kind.Closed asked whole ((some, found), same) = rw (← whole) (omega (
  arith,
  asked_some old.desks 0 (so_far said).current.questions asked some,
  open_kept said rest,
))
cuts_short old new o o' said rest all kind.WriteFault asked whole h = tt
cuts_short old new o o' said rest all kind.Memory asked whole h = tt
cuts_short old new o o' said rest all _ asked whole h = absurd h.0

-- a script whose lines weren't all played, where they were written to memory
pub ends_playing : {text : List ℕ} (value : ScriptValue) (commands : List Command) (why : ScriptKind)
    → IsScript text value → value.rounds ≡ rounds_of commands → CutsShort commands why
    → EndsPlaying text (kind_in_memory why) 0
ends_playing value commands kind.Closed is same some = ((value, is), rw same some, refl)
ends_playing value commands kind.WriteFault is same h = refl
ends_playing value commands kind.Memory is same h = refl
ends_playing value commands _ is same h = absurd h
