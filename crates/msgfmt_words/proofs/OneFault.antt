-- The arguments of a command without subcommands have one fault at most.
use Rattle.std.proofs.Common.{◌≡◌, ℕ, Bool, true, false, zero, suc, List, [], ◌∷◌, Option, Some, None, if◌then◌else◌}
use Rattle.std.proofs.Common.{ap, sym, inl, inr, length}
use Rattle.std.specs.Option.{option_map_or}
use Rattle.std.specs.Prelude.{⊤, nat_lt, ◌==◌, ◌&&◌}
use Rattle.clap.specs.Facts.{parser_of_value, unwrap_or_range}
use Rattle.clap.specs.Lexer.{long_of, short_of}
use Rattle.clap.specs.Walk.{Held, Row, Rule, Step, Text, Waiting, Walk, idle, option, positional, next, trailing}
use Rattle.clap.specs.Walk.{subcommand, value, action_of, reacted, settled, values_or_missing, most_values}
use Rattle.clap.specs.Walk.{attached_value, walk, walked, walk_from, word_met, arg_by_id, arg_by_index, arg_by_short}
use Rattle.clap.specs.Walk.{arg_by_long, with_default, finished}
use Rattle.clap.specs.Simple.{Shape}
use Rattle.clap.specs.Kinds.{IsAmong, Kinds, check_kinds, or_else, range_kinds, request_kinds, value_kinds}
use Rattle.clap.specs.Kinds.{values_kinds}
use Rattle.clap.specs.Faults.{action_fault, bundle_step_fault, built_fault, check_fault, count_fault, default_fault}
use Rattle.clap.specs.Faults.{defaults_fault, entered_fault, flag_word_fault, flags_fault, level_fault, long_fault}
use Rattle.clap.specs.Faults.{option_fault, positional_fault, react_fault, set_fault, settle_fault, short_fault}
use Rattle.clap.specs.Faults.{step_fault, stray_fault, turn_fault, use_fault, walk_fault, word_fault}
use Rattle.clap.specs.declared.builder.action.ArgAction.{ArgAction}
use Rattle.clap.specs.declared.builder.action.ArgAction.TheVariants as action
use Rattle.clap.specs.declared.builder.value_parser.ValueParser.{ValueParser}
use Rattle.clap.specs.declared.error.kind.ErrorKind.{ErrorKind}

abbrev HasOne : Kinds → Type 0
HasOne [] = ⊤
HasOne (k ∷ []) = ⊤
HasOne (k ∷ l ∷ ks) = ⊥

-- at most one kind
pub record One (ks : Kinds) : Type 0 where
  pub one : HasOne ks

-- the kind among one at most is that one
pub among_one : (k : ErrorKind) (ks : Kinds) → One ks → IsAmong k ks → ks ≡ k ∷ []
among_one k [] single among = absurd among
among_one k (l ∷ []) single (inl e) = ap (λ x. x ∷ []) (sym e)
among_one k (l ∷ []) single (inr nothing) = absurd nothing
among_one k (l ∷ m ∷ ks) single among = absurd single.one

none : One []
none = record { one = tt }

single : (k : ErrorKind) → One (k ∷ [])
single k = record { one = tt }

-- ---- the terms of the definitions

else_one : (a b : Kinds) → One a → One b → One (or_else a b)
else_one [] b first second = second
else_one (k ∷ []) b first second = first
else_one (k ∷ l ∷ ks) b first second = absurd first.one

if_one : (test : Bool) (a b : Kinds) → One a → One b → One (if test then a else b)
if_one true a b first second = first
if_one false a b first second = second

if_true_one : (test : Bool) (a b : Kinds) → test ≡ true → One a → One (if test then a else b)
if_true_one true a b is first = first
if_true_one false a b is first = absurd cc

map_one : {X : Type 0} (f : X → Kinds) (o : Option X) → ((x : X) → One (f x)) → One (option_map_or f o [])
map_one f None each = none
map_one f (Some x) each = each x

-- ---- one use of an argument

value_one : (ignore_case : Bool) (p : ValueParser) (text : Text) → One (value_kinds ignore_case p text)
value_one ignore_case p text = if_one _ _ _ none (single _)

values_one : (ignore_case : Bool) (p : ValueParser) (vs : List Text) → One (values_kinds ignore_case p vs)
values_one ignore_case p [] = none
values_one ignore_case p (v ∷ vs) = else_one _ _ (value_one ignore_case p v) (values_one ignore_case p vs)

range_one : (least most n : ℕ) → One (range_kinds least most n)
range_one least most n = if_one (nat_lt 0 least && n == 0) _ _ (single _)
    (if_one (least == most) _ _ (if_one (least == n) _ _ none (single _))
    (if_one (nat_lt n least) _ _ (single _) (if_one (nat_lt most n) _ _ (single _) none)))

request_one : (a : ArgAction) → One (request_kinds a)
request_one action.Set = none
request_one action.Append = none
request_one action.SetTrue = none
request_one action.SetFalse = none
request_one action.Count = none
request_one action.Help = single _
request_one action.HelpShort = single _
request_one action.HelpLong = single _
request_one action.Version = single _

count_one : (a : Rule) (values : List Text) (rows : List Row) → One (count_fault a values rows)
count_one a [] rows = value_one a.ignore_case (parser_of_value a.parser) _
count_one a (v ∷ vs) rows = values_one a.ignore_case (parser_of_value a.parser) (v ∷ vs)

set_one : (again : Bool) (a : Rule) (values : List Text) (rows : List Row) → One (set_fault again a values rows)
set_one again a values rows = else_one _ _ (if_one _ _ _ (single _) none)
    (values_one a.ignore_case (parser_of_value a.parser) values)

action_one : (act : ArgAction) (again : Bool) (a : Rule) (values : List Text) (rows : List Row)
    → One (action_fault act again a values rows)
action_one action.Set again a values rows = set_one again a values rows
action_one action.SetTrue again a values rows = set_one again a values rows
action_one action.SetFalse again a values rows = set_one again a values rows
action_one action.Append again a values rows = values_one a.ignore_case (parser_of_value a.parser) values
action_one action.Count again a values rows = count_one a values rows
action_one action.Help again a values rows = single _
action_one action.HelpShort again a values rows = single _
action_one action.HelpLong again a values rows = single _
action_one action.Version again a values rows = single _

use_one : (again : Bool) (a : Rule) (values : List Text) (rows : List Row) → One (use_fault again a values rows)
use_one again a values rows = else_one _ _ (range_one (unwrap_or_range a.range).start_inclusive (most_values a)
    (length values)) (action_one (action_of a) again a (values_or_missing a values) rows)

-- ---- the walk over the arguments

settle_one : (c : List Rule) (again : Bool) (h : Held) → One (settle_fault c again h)
settle_one c again h = map_one _ h.pending (λ p. map_one _ (arg_by_id c p.0) (λ a. use_one again a p.1 h.rows))

react_one : (c : List Rule) (again : Bool) (a : Rule) (values : List Text) (h : Held)
    → One (react_fault c again a values h)
react_one c again a values h = else_one _ _ (settle_one c again h) (use_one again a values (settled c h).rows)

option_one : (c : List Rule) (again : Bool) (a : Rule) (v : Option Text) (h : Held) → One (option_fault c again a v h)
option_one c again a (Some v) h = react_one c again a (v ∷ []) h
option_one c again a None h = settle_one c again h

long_one : (c : List Rule) (again : Bool) (a : Option Rule) (v : Option Text) (h : Held)
    → One (long_fault c again a v h)
long_one c again None v h = single _
long_one c again (Some a) v h = if_one _ _ _ (option_one c again a v h)
    (if_one _ _ _ (single _) (react_one c again a [] h))

short_one : (c : List Rule) (again : Bool) (a : Option Rule) (rest : Text) (h : Held) (more : Held → Kinds)
    → ((g : Held) → One (more g))
    → One (short_fault c again a rest h more)
short_one c again None rest h more each = single _
short_one c again (Some a) rest h more each =
    if_one _ _ _ (option_one c again a (attached_value rest) h)
    (else_one _ _ (react_one c again a [] h) (each (reacted c a [] h)))

bundle_step_one : (c : List Rule) (again : Bool) (x : Option ℕ) (flags : Text) (skip : ℕ) (h : Held)
    (more : Text → ℕ → Held → Kinds)
    → ((t : Text) (n : ℕ) (g : Held) → One (more t n g)) → One (bundle_step_fault c again x flags skip h more)
bundle_step_one c again None flags skip h more each = none
bundle_step_one c again (Some x) flags zero h more each = short_one c again (arg_by_short c x) _ h _ (λ g. each _ 0 g)
bundle_step_one c again (Some x) flags (suc skip) h more each = each _ skip h

flags_one : (c : List Rule) (again : Bool) (k : ℕ) (flags : Text) (skip : ℕ) (h : Held)
    → One (flags_fault c again k flags skip h)
unfolding flags_fault
flags_one c again zero flags skip h = none
flags_one c again (suc k) flags skip h = bundle_step_one c again _ flags skip h (flags_fault c again k)
    (flags_one c again k)

flag_word_one : (c : List Rule) (again : Bool) (long : Option (Text × Option Text)) (word : Text) (h : Held)
    → One (flag_word_fault c again long word h)
flag_word_one c again (Some p) word h = long_one c again (arg_by_long c p.0) p.1 h
flag_word_one c again None word h = map_one _ (short_of word)
    (λ flags. flags_one c again (length flags) flags h.skip (record h { skip = 0 }))

-- no argument names a subcommand if there is none
word_one : (s : Shape) (is_trailing : Bool) (waiting : Waiting) (word : Text) (h : Held)
    → One (word_fault s [] is_trailing waiting word h)
word_one s true waiting word h = none
word_one s false idle word h = if_one _ _ _ none (flag_word_one s.rules s.args_override_self (long_of word) word h)
word_one s false (option t) word h = if_one _ _ _ none (flag_word_one s.rules s.args_override_self (long_of word) word
    h)
word_one s false positional word h = if_one _ _ _ none (flag_word_one s.rules s.args_override_self (long_of word) word
    h)

positional_one : (c : List Rule) (again : Bool) (a : Rule) (h : Held) → One (positional_fault c again a h)
positional_one c again a h = if_one _ _ _ none (settle_one c again h)

module _ (s : Shape) (leaf : s.is_leaf ≡ true) where
  place_one : (h : Held) (a : Option Rule) → One (option_map_or (λ a. positional_fault s.rules s.args_override_self a h)
      a (stray_fault s))
  place_one h None = if_true_one s.is_leaf _ _ leaf (single _)
  place_one h (Some a) = positional_one s.rules s.args_override_self a h

  step_one : (position : ℕ) (h : Held) (step : Step) → One (step_fault s position h step)
  step_one position h value = place_one h (arg_by_index s.rules position)
  step_one position h (next waiting) = none
  step_one position h (trailing n) = none
  step_one position h (subcommand name) = none

  turn_one : (w : Walk) (word : Text) → One (turn_fault s [] w word)
  turn_one w word =
      let met = word_met s.rules [] w.is_trailing w.waiting w.position word w.held in
      if_one _ _ _ none (else_one _ _ (word_one s w.is_trailing w.waiting word w.held)
      (step_one w.position met.0 met.1))

  walk_one : (w : Walk) (words : List Text) → One (walk_fault s [] w words)
  unfolding walk_fault
  walk_one w [] = none
  walk_one w (word ∷ rest) = else_one _ _ (turn_one w word) (walk_one (walked s.rules [] w word) rest)

  -- ---- after the walk

  default_one : (rows : List Row) (a : Rule) → One (default_fault rows a)
  default_one rows a = if_one _ _ _ none (else_one _ _ (request_one (action_of a))
      (values_one a.ignore_case (parser_of_value a.parser) a.defaults))

  defaults_one : (rows : List Row) (rules : List Rule) → One (defaults_fault rows rules)
  unfolding defaults_fault
  defaults_one rows [] = none
  defaults_one rows (a ∷ rest) = else_one _ _ (default_one rows a) (defaults_one (with_default rows a) rest)

  checks_one : (a b c : Bool) → One (check_kinds a b c)
  checks_one a b c = if_one a _ _ (single _) (if_one b _ _ (single _) (if_one c _ _ (single _) none))

  check_one : (rows : List Row) (has_subcommand : Bool) → One (check_fault s rows has_subcommand)
  check_one rows has_subcommand = checks_one _ _ _

  level_one : (h : Held) (words : List Text) (has_subcommand : Bool) (below : Kinds) → One below
      → One (level_fault s [] h words has_subcommand below)
  level_one h words has_subcommand below one =
      let end = (walk s.rules [] h words).held in
      else_one _ _ (walk_one (walk_from h) words)
      (else_one _ _ one (else_one _ _ (settle_one s.rules s.args_override_self end)
      (else_one _ _ (defaults_one (settled s.rules end).rows s.rules)
      (check_one (finished s.rules end) has_subcommand))))

  entered_one : (stop : Option (Text × List Text)) → One (entered_fault (record { top = s; subs = [] }) stop)
  entered_one None = none
  entered_one (Some p) = none

  -- a command without subcommands
  pub built_one : (h : Held) (words : List Text) → One (built_fault (record { top = s; subs = [] }) h words)
  built_one h words = level_one h words _ _ (entered_one (walk s.rules [] h words).stopped)
