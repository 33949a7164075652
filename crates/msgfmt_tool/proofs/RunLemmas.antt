-- What the steps of a run add up to.
use Rattle.std.proofs.Common.{◌≡◌, ◌∙◌, ◌⊎◌, ◌≤◌, ◌++◌, ◌∷◌, [], ap, sym, subst, refl, inl, inr, arith, ℕ, Bool, true}
use Rattle.std.proofs.Common.{false, List, Some, None, Result, Ok, Err, IsErrAnd, IsTrue}
use Rattle.devices.specs.Devices.{RisesBy, InputSeen, OutputSeen}
use Rattle.devices.specs.Files.{KeepsLog, Log, Logs, MayLog}
use Rattle.catalogue.specs.MoFile.{spelling}
use Rattle.catalogue.specs.declared.Compiled.{Compiled}
use Rattle.msgfmt_words.specs.Words.{AreTaken, Asked, request_in}
use Rattle.msgfmt_steps.specs.RunDevices.{Change, FailsToWrite, FilesSeen}
use Rattle.msgfmt_tool.specs.Runs.{Compiles, Fails, FailsToWarn}
use Rattle.msgfmt_steps.specs.RunDevices.{IsUnwritten, Writes, is_standard}
use Rattle.msgfmt_tool.specs.Runs.{IsUnwritable, MakesFile, MakesFileFirst, Run, Runs}
use Rattle.msgfmt_steps.specs.StepEnds.{Tells}
use Rattle.msgfmt_tool.specs.RunSteps.{CompilesNamed, Delivers, EndsCompiling, Works}
use Rattle.msgfmt_tool.specs.RunSteps.{WritesCompiled}
use Rattle.msgfmt_steps.proofs.Telling.{between}
use Rattle.msgfmt_steps.specs.declared.outcome.Cause.{Cause}
use Rattle.msgfmt_steps.specs.declared.outcome.Cause.TheVariants.{Words, NoInput, CannotRead, Refused, CannotWrite}
use Rattle.msgfmt_steps.specs.declared.outcome.Cause.TheVariants.{ErrorOutput, Memory}
use Rattle.msgfmt_steps.specs.declared.outcome.Status.{Status}
use Rattle.msgfmt_steps.specs.declared.outcome.Status.TheVariants.{Failed}

-- ---- counts and logs, over two steps

pub rises_after : (a b c : ℕ) → a ≤ b → RisesBy 1 b c → RisesBy 1 a c
rises_after a b c le (inl h) = inl (omega arith)
rises_after a b c le (inr h) = inr h

pub rises_before : (a b c : ℕ) → RisesBy 1 a b → b ≤ c → RisesBy 1 a c
rises_before a b c (inl h) le = inl (omega arith)
rises_before a b c (inr h) le = inr (omega arith)

kept_twice : (a b c : Log) → KeepsLog a b → KeepsLog b c → KeepsLog a c
kept_twice None b c h k = tt
kept_twice (Some xs) None c h k = absurd h
kept_twice (Some xs) (Some ys) None h k = absurd k
kept_twice (Some xs) (Some ys) (Some zs) h k = k ∙ h

logged_after : (a b c : Log) (name bytes : List ℕ) → KeepsLog a b → Logs b c name bytes → Logs a c name bytes
logged_after None b c name bytes h k = tt
logged_after (Some xs) None c name bytes h k = absurd h
logged_after (Some xs) (Some ys) None name bytes h k = absurd k
logged_after (Some xs) (Some ys) (Some zs) name bytes h k = k ∙ ap (λ files. files ++ (name, bytes) ∷ []) h

may_log_after : (a b c : Log) (name : List ℕ) → KeepsLog a b → MayLog b c name → MayLog a c name
may_log_after None b c name h k = tt
may_log_after (Some xs) None c name h k = absurd h
may_log_after (Some xs) (Some ys) None name h k = absurd k
may_log_after (Some xs) (Some ys) (Some zs) name h (inl k) = inl (k ∙ h)
may_log_after (Some xs) (Some ys) (Some zs) name h (inr (bytes, k)) =
    inr (bytes, logged_after (Some xs) (Some ys) (Some zs) name bytes h k)

-- ---- FILE, after INPUT was read

module _ (f f' f'' : FilesSeen) (output : Change OutputSeen)
    (kept : KeepsLog f.log f'.log) (later : f.failures ≤ f'.failures) where
  unwritten_after : IsUnwritten (between f' f'') output → IsUnwritten (between f f'') output
  unwritten_after h = record { no_file = kept_twice f.log f'.log f''.log kept h.no_file; no_output = h.no_output }

  writes_after : (standard : Bool) (name bytes : List ℕ) → Writes standard (between f' f'') output name bytes
      → Writes standard (between f f'') output name bytes
  writes_after true name bytes h =
      record { written = h.written; no_file = kept_twice f.log f'.log f''.log kept h.no_file }
  writes_after false name bytes h = record {
    written = logged_after f.log f'.log f''.log name bytes kept h.written;
    no_output = h.no_output;
  }

  fails_after : (standard : Bool) (name : List ℕ) → FailsToWrite standard (between f' f'') output name
      → FailsToWrite standard (between f f'') output name
  fails_after true name h = record { failed = h.failed; no_file = kept_twice f.log f'.log f''.log kept h.no_file }
  fails_after false name h = record {
    failed = rises_after f.failures f'.failures f''.failures later h.failed;
    no_other = may_log_after f.log f'.log f''.log name kept h.no_other;
    no_output = h.no_output;
  }

-- ---- the work on an INPUT

abbrev pub run_over : Change FilesSeen → Change InputSeen → Change OutputSeen → Change ℕ → Run
run_over files input output errors = record { files = files; input = input; output = output; error_failures = errors }

module _ (f f' : FilesSeen) (i : Change InputSeen) (a : Asked) (name : List ℕ) (input : a.input ≡ Some name)
    (kept : KeepsLog f.log f'.log) where
  -- it can't be read, or is refused, or there is no memory
  not_compiled : (o : OutputSeen) (errors : Change ℕ) (cause : Cause)
      → EndsCompiling (between f f') i name a.options cause
      → Fails (run_over (between f f') i (between o o) errors) a cause
  not_compiled o errors Words h = absurd h
  not_compiled o errors NoInput h = absurd h
  not_compiled o errors CannotRead h = record {
    name = name;
    input = input;
    failed = h;
    unwritten = record { no_file = kept; no_output = refl };
  }
  not_compiled o errors (Refused fault) h = record {
    name = name;
    input = input;
    text = h.text;
    read = h.read;
    refuses = h.refuses;
    unwritten = record { no_file = kept; no_output = refl };
  }
  not_compiled o errors CannotWrite h = absurd h
  not_compiled o errors ErrorOutput h = absurd h
  not_compiled o errors Memory h = inl (record { no_file = kept; no_output = refl })

  pub ends_compiling : {T : Type 0} (o : OutputSeen) (errors : Change ℕ) (r : Result T Cause) (cause : Cause)
      → IsErrAnd r (λ x. x ≡ cause)
      → EndsCompiling (between f f') i name a.options cause → Works (run_over (between f f') i (between o o) errors) a r
  ends_compiling o errors (Ok u) cause is h = absurd is
  ends_compiling o errors (Err x) cause is h =
      subst (λ c. Fails (run_over (between f f') i (between o o) errors) a c) (sym is) (not_compiled o errors cause h)

  -- it compiles
  module _ (later : f.failures ≤ f'.failures) (c : Compiled) (named : CompilesNamed f i name a.options c)
      (f'' : FilesSeen) (output : Change OutputSeen) (errors : Change ℕ) where
    abbrev run : Run
    run = run_over (between f f'') i output errors

    compiles : Compiles run a c
    compiles = record { name = name; input = input; text = named.text; read = named.read; means = named.means }

    makes : WritesCompiled (between f' f'') output a c → MakesFile run a
    makes h = record {
      compiled = c;
      compiles = compiles;
      written = writes_after f f' f'' output kept later (is_standard a.output) a.output (spelling c.catalogue) h;
    }

    makes_first : (IsTrue a.statistics × WritesCompiled (between f' f'') output a c) → MakesFileFirst run a
    makes_first h = record { statistics = h.0; makes = makes h.1 }

    fails_to_tell : ((IsTrue a.options.checked × IsUnwritten (between f' f'') output)
        ⊎ (IsTrue a.statistics × WritesCompiled (between f' f'') output a c))
        → FailsToWarn run a ⊎ MakesFileFirst run a
    fails_to_tell (inl h) = inl (record {
      compiled = c;
      compiles = compiles;
      checked = h.0;
      unwritten = unwritten_after f f' f'' output kept later h.1;
    })
    fails_to_tell (inr h) = inr (makes_first h)

    lacks_memory : IsUnwritten (between f' f'') output
        ⊎ (IsTrue a.statistics × WritesCompiled (between f' f'') output a c)
        → Fails run a Memory
    lacks_memory (inl h) = inl (unwritten_after f f' f'' output kept later h)
    lacks_memory (inr h) = inr (inr (makes_first h))

    pub delivered : {T : Type 0} (r : Result T Cause) → Delivers (between f' f'') output errors a c r → Works run a r
    delivered (Ok u) h = (h.0, makes h.1)
    delivered (Err Words) h = absurd h
    delivered (Err NoInput) h = absurd h
    delivered (Err CannotRead) h = absurd h
    delivered (Err (Refused fault)) h = absurd h
    delivered (Err CannotWrite) h = record {
      compiled = c;
      compiles = compiles;
      failed = fails_after f f' f'' output kept later (is_standard a.output) a.output h;
    }
    delivered (Err ErrorOutput) h = (h.0, fails_to_tell h.1)
    delivered (Err Memory) h = lacks_memory h

-- ---- the end of a run

pub kept_same : (log : Log) → KeepsLog log log
kept_same None = tt
kept_same (Some files) = refl

-- FILE may be written before a line of the error output fails
untold_line : (run : Run) (a : Asked) → FailsToWarn run a ⊎ MakesFileFirst run a → Fails run a Memory
untold_line run a (inl h) = inl h.unwritten
untold_line run a (inr h) = inr (inr h)

-- memory for the line with the cause ran out
untold : (run : Run) (a : Asked) (cause : Cause) → Fails run a cause → Fails run a Memory
untold run a Words h = absurd h
untold run a NoInput h = inl (record {
  no_file = subst (λ f. KeepsLog run.files.before.log f.log) (sym h.1.files) (kept_same run.files.before.log);
  no_output = h.1.output;
})
untold run a CannotRead h = inl h.unwritten
untold run a (Refused fault) h = inl h.unwritten
untold run a CannotWrite h = inr (inl h)
untold run a ErrorOutput h = untold_line run a h.1
untold run a Memory h = h

-- another failure of the error output changes nothing
module _ (files : Change FilesSeen) (input : Change InputSeen) (output : Change OutputSeen)
    (e e' e'' : ℕ) (later : e' ≤ e'') where
  -- the run after its work, and after the report of it
  abbrev worked : Run
  worked = run_over files input output (between e e')

  abbrev told : Run
  told = run_over files input output (between e e'')

  compiles_on : (a : Asked) (c : Compiled) → Compiles worked a c → Compiles told a c
  compiles_on a c h = record { name = h.name; input = h.input; text = h.text; read = h.read; means = h.means }

  makes_on : (a : Asked) → MakesFile worked a → MakesFile told a
  makes_on a h = record { compiled = h.compiled; compiles = compiles_on a h.compiled h.compiles; written = h.written }

  unwritable_on : (a : Asked) → IsUnwritable worked a → IsUnwritable told a
  unwritable_on a h =
      record { compiled = h.compiled; compiles = compiles_on a h.compiled h.compiles; failed = h.failed }

  first_on : (a : Asked) → MakesFileFirst worked a → MakesFileFirst told a
  first_on a h = record { statistics = h.statistics; makes = makes_on a h.makes }

  lines_on : (a : Asked) → FailsToWarn worked a ⊎ MakesFileFirst worked a → FailsToWarn told a ⊎ MakesFileFirst told a
  lines_on a (inl h) = inl (record {
    compiled = h.compiled;
    compiles = compiles_on a h.compiled h.compiles;
    checked = h.checked;
    unwritten = h.unwritten;
  })
  lines_on a (inr h) = inr (first_on a h)

  file_on : (a : Asked) → IsUnwritable worked a ⊎ MakesFileFirst worked a → IsUnwritable told a ⊎ MakesFileFirst told a
  file_on a (inl h) = inl (unwritable_on a h)
  file_on a (inr h) = inr (first_on a h)

  memory_on : (a : Asked) → Fails worked a Memory → Fails told a Memory
  memory_on a (inl h) = inl h
  memory_on a (inr h) = inr (file_on a h)

  fails_on : (a : Asked) (cause : Cause) → Fails worked a cause → Fails told a cause
  fails_on a Words h = absurd h
  fails_on a NoInput h = (h.0, record { files = h.1.files; input = h.1.input; output = h.1.output })
  fails_on a CannotRead h = record { name = h.name; input = h.input; failed = h.failed; unwritten = h.unwritten }
  fails_on a (Refused fault) h = record {
    name = h.name;
    input = h.input;
    text = h.text;
    read = h.read;
    refuses = h.refuses;
    unwritten = h.unwritten;
  }
  fails_on a CannotWrite h = unwritable_on a h
  fails_on a ErrorOutput h = (rises_before e e' e'' h.0 later, lines_on a h.1)
  fails_on a Memory h = memory_on a h

  module _ (words : List (List ℕ)) (taken : AreTaken words) where
    failed : (cause : Cause) → Fails told (request_in words) cause → Runs told words (Failed cause)
    failed Words h = absurd h
    failed NoInput h = (taken, h)
    failed CannotRead h = (taken, h)
    failed (Refused fault) h = (taken, h)
    failed CannotWrite h = inr (taken, h)
    failed ErrorOutput h = (taken, h)
    failed Memory h = inr (inr (taken, h))

    -- the work ended, and that was reported
    pub ended : {T : Type 0} (a : Asked) (is : a ≡ request_in words) (done : Result T Cause) (status : Status)
        → Works worked a done → Tells (between e' e'') done status → Runs told words status
    ended a is (Ok u) status works tells =
        subst (λ s. Runs told words s) (sym tells.1)
        (tells.0 ∙ works.0, inr (taken, subst (λ b. MakesFile told b) is (makes_on a works.1)))
    ended a is (Err cause) status works (inl tells) =
        subst (λ s. Runs told words s) (sym tells)
        (failed cause (subst (λ b. Fails told b cause) is (fails_on a cause works)))
    ended a is (Err cause) status works (inr tells) =
        subst (λ s. Runs told words s) (sym tells)
        (failed Memory (subst (λ b. Fails told b Memory) is (untold told a cause (fails_on a cause works))))
