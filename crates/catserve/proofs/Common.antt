-- What three or more proofs use of the libraries, of the crates below and of this crate's definitions.
pub use Rattle.std.specs.Io.KnownBytes.{Appends, Consumes}
pub use Rattle.std.specs.List.{AllByRecursion, AllZip, concat, filter, filter_map, flat_map, last_or, list_any}
pub use Rattle.std.specs.Str.{IsUtf8}
pub use Rattle.std.specs.Vec.Iter.{into_iter_items, into_iter_len}
pub use Rattle.std.proofs.Common.{[], ◌++◌, ◌+◌, ◌-◌, ◌<◌, ◌||◌, ◌∙◌, ◌∷◌, ◌≡◌, ◌≢◌, ◌≤◌, ◌⊎◌, All, Bool, Err, IfErr}
pub use Rattle.std.proofs.Common.{IfNone, IfOk, IfSome, IsErrOf, List, None, Ok, OnErr, OnOk, Option, Result, Some}
pub use Rattle.std.proofs.Common.{add-one, ap, append_assoc, arith, codes, drop, drop-cons, false, fold, get_or}
pub use Rattle.std.proofs.Common.{if◌then◌else◌, inl, inr, length, length-append, length-drop, length-take, map, max}
pub use Rattle.std.proofs.Common.{nat_lt, refl, rules, set, subst, suc, sym, take, true, zero, ℕ}
pub use Rattle.std.proofs.KnownBytes.{Appends-nil, Appends-trans}
pub use Rattle.std.proofs.Math.Seq.{drop-append_seam, take-add, take-append_seam, take-nil}
pub use Rattle.std.proofs.lemmas.Bool.{cases_Bool, cases_lt, eq-eqb, false≢true, lt-ltb, ltb-true, ne_eqb}
pub use Rattle.std.proofs.lemmas.List.{append-nil, append_cancel_left, drop-append-le, flat_map_more, get_or-take}
pub use Rattle.std.proofs.lemmas.List.{length-map, length-take-le, map-append, nil_from_length, take-append-drop}
pub use Rattle.std.proofs.lemmas.List.{take-append-le, take_all, take_rest}
pub use Rattle.std.proofs.lemmas.List.Folds.{concat-append}
pub use Rattle.std.proofs.lemmas.Result.{err_from_is_err_and}
pub use Rattle.std.proofs.lemmas.Str.{IsUtf8-append, IsUtf8-nil}
pub use Rattle.catalogue.specs.Entry.{Entry, HasForms, IsLawfulEntry, key_bytes}
pub use Rattle.live_set.specs.Asks.{AskValue, Context, ContextNumber, HasValue, IsAnswer, Number, Plain, QueryValue}
pub use Rattle.live_set.specs.Asks.{answering_map, first_with, has_key, key_of}
pub use Rattle.live_set.specs.Loads.{LoadValue, is_for, map_of, map_or_empty}
pub use Rattle.live_versions.specs.Batches.{joined_loads, after_publish, version_of}
pub use Rattle.live_versions.specs.Seen.{SeenValue}
pub use Rattle.live_versions.specs.Store.{HasRoom, StoreValue}
pub use Rattle.desks.specs.declared.desk.Desk.{Desk}
pub use Rattle.devices.specs.Devices.{InputSeen, OutputSeen, input_seen, most_reads, output_seen}
pub use Rattle.devices.specs.Incoming.{EndsLine, EndsLines, Incoming, MayCome}
pub use Rattle.devices.specs.Lines.{lines, without_end}
pub use Rattle.devices.specs.Logs.{AnswersFirst, Event, Gave, Grows, Log, came, given_bytes}
pub use Rattle.devices.specs.Waiting.{ReadsWhile, StillCounts, StillWaits, Waits}
pub use Rattle.devices.proofs.Arriving.{consumes_both, consumes_none, rises_both, rises_later, rises_none}
pub use Rattle.script_text.specs.CommandValues.{command_with, command_list, text_lines}
pub use Rattle.script_text.specs.Commands.{Line, Loads, is_blank, line_of, workers_line}
pub use Rattle.script_text.specs.Gathering.{Gathered, all_rounds, empty_round, gathered_with, going_on, loads_so_far}
pub use Rattle.script_text.specs.Gathering.{nothing, onto_open, so_far}
pub use Rattle.script_text.specs.Script.{Ask, Command, Go, Load, QuestionValue, RoundValue, Says, ScriptValue, and_then}
pub use Rattle.script_text.specs.Script.{commands_from, queries_for, query_for, rounds_of, script, script_from}
pub use Rattle.script_text.specs.Script.{script_of}
pub use Rattle.script_text.specs.ScriptLoads.{Mo, Po, SourceValue}
pub use Rattle.script_text.specs.Texts.{IsReadable, IsScript, most_script}
pub use Rattle.script_text.specs.declared.fault.ScriptKind.{ScriptKind}
pub use Rattle.script_text.proofs.Parsing.{begins_with, both_empty, few_more, gathers, rounds_are, says_with, skips}
pub use Rattle.script_text.proofs.Parsing.{so_far-snoc, too_long}
pub use Rattle.catserve.specs.Asking.{AreAsked, GivesOne, IsFreed, answer_lines, desk_lines, is_asked, readers_of}
pub use Rattle.catserve.specs.Hearing.{BeginAlike, Begins, CountsOn, EndsNext, FailsFor, FailsInPreamble, Follows}
pub use Rattle.catserve.specs.Hearing.{HasGot, HasPassed, HasSaid, HasTaken, HearingValue, Hears, HearsBad, HearsEnd}
pub use Rattle.catserve.specs.Hearing.{HearsNoLine, HearsNoText, HearsNone, HearsNothing, HearsOne, HearsText}
pub use Rattle.catserve.specs.Hearing.{HearsTooMuch, HearsUndecodable, IsUnsaid, Stays, command_of, commands_of}
pub use Rattle.catserve.specs.Hearing.{line_of_kind, silence, size_behind, unheard_session}
pub use Rattle.catserve.specs.Laws.{HasOneOutput, HasSomeOutput, HaveFirstOutput, IsInFront}
pub use Rattle.catserve.specs.Output.{answer_line, escape, escaped_text, version_line}
pub use Rattle.catserve.specs.Rounds.{Accepted, Answers, AnswersInTurn, Brings, HasOutput, IsOutcome, IsSourceFault}
pub use Rattle.catserve.specs.Rounds.{Plays, PlaysAll, Refused, RefusedMo, Unnamed, accepted_load, job_source}
pub use Rattle.catserve.specs.Rounds.{outcome_line}
pub use Rattle.catserve.specs.Run.{Fails, FailsToRead, question_count}
pub use Rattle.catserve.specs.Running.{AreReady, CutsShort, EndsPlaying, Finishes, HasLoaded, HasPlayed, HasPlayedAll}
pub use Rattle.catserve.specs.Running.{HaveBook, IsLineOf, IsOpenKind, LoadsAll, LoadsOne, PlaysOne, kind_in_memory}
pub use Rattle.catserve.specs.Running.{load_of, load_source}
pub use Rattle.catserve.specs.Session.{AnswersAll, AnswersInTime, BreaksOff, EndsFor, HaveEnded, IsAnswered}
pub use Rattle.catserve.specs.Session.{Stops, StopsEarly, rest_to_come, most_lines, round_end, session_script}
pub use Rattle.catserve.specs.Talking.{AnswersRound, BreaksRound, Conversing, FailsToAnswer, GivesQuestion, HasHeard}
pub use Rattle.catserve.specs.Talking.{HasOpen, HasTalked, IsFresh, MakesLoad, PlayerValue, Responds}
pub use Rattle.catserve.specs.Timing.{BeginsInTime, ContinuesInTime, GivesSome, HearsInTime, InTime, ReadsOpen}
pub use Rattle.catserve.specs.Timing.{RespondsInTime, StillOpen, TalksInTime}
pub use Rattle.catserve.specs.declared.session_fault.SessionFault.{SessionFault}
