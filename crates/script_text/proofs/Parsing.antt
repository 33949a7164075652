-- A script read line by line.
use Rattle.std.proofs.Common.{◌≡◌, ◌∙◌, refl, sym, ap, ℕ, zero, suc, ◌+◌, ◌<◌, ◌≤◌, true, false}
use Rattle.std.proofs.Common.{List, [], ◌∷◌, ◌++◌, length, map, take, drop, fold, Option, Some, None, Result, Ok, Err}
use Rattle.std.proofs.Common.{arith, append_assoc, length-append}
use Rattle.std.specs.List.{concat, flat_map, onto_first}
use Rattle.std.specs.Str.{IsUtf8}
use Rattle.std.proofs.lemmas.List.{append-nil}
use Rattle.std.proofs.lemmas.Grind.{flat_map-append}
use Rattle.std.proofs.lemmas.List.Sums.{fold-append, sum_by-append}
use Rattle.std.proofs.lemmas.Bool.{le-leb, lt-leb}
use Rattle.devices.specs.Lines.{lines, pieces}
use Rattle.script_text.specs.LineFields.{fields}
use Rattle.script_text.specs.Commands.{Line, Loads, is_blank, line_of, workers_line}
use Rattle.script_text.specs.CommandValues.{command_with, command_list, text_lines}
use Rattle.script_text.specs.Script.{Command, Load, Ask, Go, RoundValue, round_of, rounds_of, is_go, Says, IsBad}
use Rattle.script_text.specs.Script.{saying_of, and_then, commands_from, load_count, script_of, script_from, script}
use Rattle.script_text.specs.Gathering.{Gathered, empty_round, nothing, both, gathered_with, onto_open, all_rounds}
use Rattle.script_text.specs.Gathering.{going_on, loads_so_far, so_far, TakesIn, HasSkipped, HasBegun, HasParsed}
use Rattle.script_text.specs.Scanning.{IsFirstLine, TakesLines}
use Rattle.script_text.specs.Texts.{most_script}

-- ---- lines that are a load's text

pub skips : (workers text number : ℕ) (ls : List (List ℕ)) → text ≤ length ls → commands_from workers number text ls
    ≡ commands_from workers (number + text) 0 (drop text ls)
skips workers zero number ls enough = ap (λ n. commands_from workers n 0 ls) (omega arith)
skips workers (suc text) number [] enough = absurd (omega arith)
skips workers (suc text) number (l ∷ ls) enough = skips workers text (number + 1) ls (omega arith)
    ∙ ap (λ n. commands_from workers n 0 (drop text ls)) (omega arith)

-- ---- rounds

both_assoc : (a b c : RoundValue) → both (both a b) c ≡ both a (both b c)
both_assoc a b c = rw (append_assoc a.loads b.loads c.loads, append_assoc a.questions b.questions c.questions) refl

pub both_empty : (a : RoundValue) → both a empty_round ≡ a
both_empty a = rw (append-nil a.loads, append-nil a.questions) refl

-- one command that isn't `go`, followed by others
onto_round : (g : Gathered) (c : Command) (cs : List Command) → is_go c ≡ false → gathered_with g c
    ≡ record { ended = g.ended; current = both g.current (round_of (c ∷ [])); begun = true }
    → ((p : List Command) → round_of (c ∷ p) ≡ both (round_of (c ∷ [])) (round_of p)) → onto_open g (rounds_of (c ∷ cs))
    ≡ onto_open (gathered_with g c) (rounds_of cs)
onto_round g c cs other is joins = rw (is, other) (by_pieces (pieces is_go cs)) where
  by_pieces : (ps : List (List Command)) → onto_open g (map round_of (onto_first c ps))
      ≡ onto_open (record { ended = g.ended; current = both g.current (round_of (c ∷ [])); begun = true })
      (map round_of ps)
  by_pieces [] = refl
  by_pieces (p ∷ ps) = ap (λ r. both g.current r ∷ map round_of ps) (joins p)
      ∙ ap (λ r. r ∷ map round_of ps) (sym (both_assoc g.current (round_of (c ∷ [])) (round_of p)))

-- nothing stands in the open round
onto_none : (ended rs : List RoundValue)
    → rs ≡ onto_open (record { ended = ended; current = empty_round; begun = false }) rs
onto_none ended [] = refl
onto_none ended (r ∷ rs) = refl

-- one more command
one_more : (g : Gathered) (c : Command) (cs : List Command) → g.ended ++ onto_open g (rounds_of (c ∷ cs))
    ≡ (gathered_with g c).ended ++ onto_open (gathered_with g c) (rounds_of cs)
one_more g Go cs = ap (λ r. g.ended ++ (r ∷ rounds_of cs)) (both_empty g.current)
    ∙ sym (append_assoc g.ended (g.current ∷ []) (rounds_of cs))
    ∙ ap (λ rs. (g.ended ++ g.current ∷ []) ++ rs) (onto_none (g.ended ++ g.current ∷ []) (rounds_of cs))
one_more g c cs = ap (λ rs. g.ended ++ rs) (onto_round g c cs refl refl (λ p. refl))

more : (commands : List Command) (g : Gathered) (cs : List Command) → g.ended
    ++ onto_open g (rounds_of (commands ++ cs)) ≡ (fold gathered_with g commands).ended
    ++ onto_open (fold gathered_with g commands) (rounds_of cs)
more [] g cs = refl
more (c ∷ commands) g cs = one_more g c (commands ++ cs) ∙ more commands (gathered_with g c) cs

-- all rounds are those of the commands
pub rounds_are : (cs : List Command) → all_rounds (fold gathered_with nothing cs) ≡ rounds_of cs
rounds_are cs = sym (more cs nothing []) ∙ sym (onto_none [] (rounds_of (cs ++ []))) ∙ ap rounds_of (append-nil cs)

-- what is gathered with one line more
pub so_far-snoc : (said : List (Option Command)) (one : Option Command) → so_far (said ++ one ∷ [])
    ≡ fold gathered_with (so_far said) (command_list one)
so_far-snoc said one = simp (flat_map-append, fold-append, append-nil)

-- ---- one line taken in

-- a line, if all lines of its text are there
pub says_with : (line : Line) (behind : List (List ℕ)) → text_lines line ≤ length behind → saying_of (Some line) behind
    ≡ Says (command_list (command_with line (concat (take (text_lines line) behind)))) (text_lines line)
says_with (Loads domain locale options count) behind enough = rw (le-leb count (length behind) enough) refl
says_with _ behind enough = refl

-- a load that counts more lines than are left
pub too_long : (line : Line) (behind : List (List ℕ)) → length behind < text_lines line
    → saying_of (Some line) behind ≡ IsBad
too_long (Loads domain locale options count) behind few = rw (lt-leb count (length behind) few) refl
too_long _ behind few = absurd (omega (arith, few))

-- one command more is at most one load more
pub few_more : (g : Gathered) (command : Option Command)
    → loads_so_far (fold gathered_with g (command_list command)) ≤ loads_so_far g + 1
few_more g None = omega arith
few_more g (Some (Load load)) = omega (arith, length-append g.current.loads (load ∷ []))
few_more g (Some (Ask worker query)) = omega (arith, ap length (append-nil g.current.loads))
few_more g (Some Go) = omega (
  arith,
  sum_by-append (λ (round : RoundValue). length round.loads) g.ended (g.current ∷ []),
)

-- a line with its text
pub takes_in : {old new : Gathered} {saw : Option Line} {line : Line} {behind : List ℕ} {number : ℕ}
    {text rest : List ℕ} → saw ≡ Some line → TakesLines (text_lines line) behind text rest
    → new ≡ fold gathered_with old (command_list (command_with line text))
    → TakesIn old new saw behind number rest (number + 1 + text_lines line)
takes_in {old} {line} {behind} {text} saw_is taken is = record {
  commands = command_list (command_with line text);
  text = text_lines line;
  says = rw (saw_is, taken.taken_is) (says_with line (lines behind) taken.enough);
  gathered_are = is;
  few = rw is (few_more old (command_with line text));
  behind_text = taken.rest_is;
  enough = taken.enough;
  next_is = refl;
  shorter = taken.shorter;
  utf8 = taken.utf8;
}

-- ---- the preamble of a script

pub starts : {text : List ℕ} → length text ≤ most_script → IsUtf8 text → HasSkipped text text 1
starts small utf8 = record { going = refl; some = omega arith; bounded = omega arith; utf8 = utf8 }

-- a line that says nothing
pub skips_one : {text rest line behind : List ℕ} {number : ℕ} → HasSkipped text rest number
    → IsFirstLine rest line behind → is_blank line ≡ true → HasSkipped text behind (number + 1)
skips_one {behind} {number} skipped first blank = record {
  going = skipped.going ∙ ap (λ ls. script_from number ls) first.cut ∙ rw (first.said, blank) refl;
  some = omega arith;
  bounded = omega (arith, skipped.bounded, first.some, ap length first.whole, length-append first.raw behind);
  utf8 = first.utf8;
}

-- the line that gives the number of workers
pub begins_so : {text rest line behind : List ℕ} {number workers : ℕ} → HasSkipped text rest number
    → IsFirstLine rest line behind → is_blank line ≡ false → workers_line (fields line) ≡ Some workers
    → HasBegun text workers behind (number + 1)
begins_so {behind} skipped first other is = record {
  going = rw (first.said, other, is) at (rw first.cut at skipped.going);
  some = omega arith;
  bounded = omega (arith, skipped.bounded, first.some, ap length first.whole, length-append first.raw behind);
  utf8 = first.utf8;
}

-- another line
pub begins_else : {text rest line behind : List ℕ} {number : ℕ} → HasSkipped text rest number
    → IsFirstLine rest line behind → is_blank line ≡ false → workers_line (fields line) ≡ None
    → HasBegun text 2 rest number
begins_else skipped first other none =
    record {
      going = rw first.cut (rw (first.said, other, none) at (rw first.cut at skipped.going));
      some = skipped.some;
      bounded = skipped.bounded;
      utf8 = skipped.utf8;
    }

-- no line at all
pub begins_none : {text rest : List ℕ} {number : ℕ} → HasSkipped text rest number → rest ≡ []
    → HasBegun text 2 rest number
begins_none skipped none = record {
  going = rw none (rw none at skipped.going);
  some = skipped.some;
  bounded = skipped.bounded;
  utf8 = skipped.utf8;
}

-- the commands follow
pub begins_with : (workers : ℕ) (found : Result (List Command) ℕ) → script_of workers found
    ≡ going_on workers nothing found
begins_with workers (Ok cs) = ap (λ rs. Ok (record { workers = workers; rounds = rs })) (onto_none [] (rounds_of cs))
begins_with workers (Err bad) = refl

pub parses_none : {text : List ℕ} {workers : ℕ} {rest : List ℕ} {number : ℕ} → HasBegun text workers rest number
    → HasParsed text workers nothing rest number
parses_none {workers} {rest} {number} begun = record {
  going = begun.going ∙ begins_with workers (commands_from workers number 0 (lines rest));
  few = omega (arith, begun.some);
  bounded = begun.bounded;
  utf8 = begun.utf8;
}

-- ---- the whole script

read_first : {text : List ℕ} {workers : ℕ} {rest line behind : List ℕ} {rounds : Gathered} {number : ℕ}
    → HasParsed text workers rounds rest number → IsFirstLine rest line behind
    → script text ≡ going_on workers rounds (and_then (saying_of (line_of workers line) (lines behind)) number
    (λ n. commands_from workers (number + 1) n (lines behind)))
read_first parsed first = rw first.said at (rw first.cut at parsed.going)

pub bad_line : {text : List ℕ} {workers : ℕ} {rest line behind : List ℕ} {rounds : Gathered} {number : ℕ}
    → HasParsed text workers rounds rest number → IsFirstLine rest line behind
    → saying_of (line_of workers line) (lines behind) ≡ IsBad → script text ≡ Err number
bad_line parsed first bad = rw bad at (read_first parsed first)

-- commands followed by others
pub gathers : (workers number : ℕ) (g : Gathered) (commands : List Command) (found : Result (List Command) ℕ)
    → going_on workers g (and_then (Says commands 0) number (λ n. found))
    ≡ going_on workers (fold gathered_with g commands) found
gathers workers number g commands (Ok cs) = ap (λ rs. Ok (record { workers = workers; rounds = rs })) (more commands
    g cs)
gathers workers number g commands (Err bad) = refl

pub goes_on : {text : List ℕ} {workers : ℕ} {rest line behind : List ℕ} {old new : Gathered} {number : ℕ}
    {after : List ℕ} {next : ℕ} → HasParsed text workers old rest number → IsFirstLine rest line behind
    → TakesIn old new (line_of workers line) behind number after next → HasParsed text workers new after next
goes_on {workers} {behind} {old} {number} parsed first taken = record {
  going = rw (taken.gathered_are, taken.next_is, taken.behind_text)
      (rw (taken.says, skips workers taken.text (number + 1) (lines behind) taken.enough) at (read_first parsed first)
      ∙ gathers workers number old taken.commands _);
  few = omega (arith, taken.few, taken.next_is, parsed.few);
  bounded = omega (
    arith,
    taken.shorter,
    taken.next_is,
    parsed.bounded,
    first.some,
    ap length first.whole,
    length-append first.raw behind,
  );
  utf8 = taken.utf8;
}

pub ends : {text : List ℕ} {workers : ℕ} {rest : List ℕ} (said : List (Option Command)) {number : ℕ}
    → HasParsed text workers (so_far said) rest number → rest ≡ []
    → script text ≡ Ok (record { workers = workers; rounds = rounds_of (flat_map command_list said) })
ends said parsed none = rw (none, rounds_are (flat_map command_list said)) at parsed.going

-- there are fewer loads than lines
pub ends_few : {text : List ℕ} {workers : ℕ} {rest : List ℕ} (said : List (Option Command)) {number : ℕ}
    → HasParsed text workers (so_far said) rest number
    → load_count (rounds_of (flat_map command_list said)) ≤ most_script
ends_few said parsed = rw (rounds_are (flat_map command_list said)) at few where
  fewer : (g : Gathered) → load_count (all_rounds g) ≤ loads_so_far g
  fewer g = grind (arith, sum_by-append (λ (round : RoundValue). length round.loads) g.ended (onto_open g []))

  few : load_count (all_rounds (so_far said)) ≤ most_script
  few = omega (arith, parsed.few, parsed.bounded, fewer (so_far said))
