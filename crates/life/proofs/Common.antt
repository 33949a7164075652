-- What three or more proofs use of the libraries, of the crates below and of this crate's definitions.
pub use Rattle.std.specs.List.{All, AllByRecursion, AllZip}
pub use Rattle.std.proofs.Common.{[], ◌++◌, ◌+◌, ◌<◌, ◌==◌, ◌∙◌, ◌∷◌, ◌≡◌, ◌≤◌, ◌⊎◌, Bool, Err, List, None, Ok, Option}
pub use Rattle.std.proofs.Common.{Some, String, ap, append_assoc, arith, drop, false, get_or, if◌then◌else◌, inl, inr}
pub use Rattle.std.proofs.Common.{length, length-append, map, max, refl, rules, slice_index_or, subst, suc, sym, take}
pub use Rattle.std.proofs.Common.{true, zero, ℕ, ⊎_elim}
pub use Rattle.std.proofs.lemmas.Bool.Decides.{nat_tests}
pub use Rattle.std.proofs.lemmas.List.{append-nil, take-append-drop, take_more}
pub use Rattle.live_set.specs.Asks.{HasAnswer, HasValue, IsAnswer, QueryValue, answering_map, key_of}
pub use Rattle.live_set.specs.Loads.{LoadValue, map_of}
pub use Rattle.live_loads.proofs.Joining.{begins_nil, begins_refl, begins_trans}
pub use Rattle.live_versions.specs.Batches.{StartsWith, joined_loads, after_publish, version_of}
pub use Rattle.live_versions.specs.History.{Accept, Enter, Event, IsLegal, IsWhole, Learn, MayFollow, Refuse, State}
pub use Rattle.live_versions.specs.History.{WasPublished, after, new_store, state_from, state_of, with_seen}
pub use Rattle.live_versions.specs.Seen.{SeenValue}
pub use Rattle.live_versions.specs.Store.{StoreValue}
pub use Rattle.desks.specs.Jobs.{IsRefused, JobValue, Mo, store_after_publish, source_value}
pub use Rattle.desks.specs.ServedHistory.{AreJobs, without_entries}
pub use Rattle.desks.proofs.Answers.{first_loads, version_grows}
pub use Rattle.desks.proofs.Learning.{runs_append, state_append}
pub use Rattle.desks.proofs.Runs.{AreBelow, Level, May, Runs, grows, level_after, level_from, level_trans, runs_legal}
pub use Rattle.desks.proofs.Runs.{runs_level, work_all, work_more}
pub use Rattle.life.specs.Acts.{Act, AreTexts, Enters, IsEntry, IsLearning, Leads, LeadsAll, Learns, Looked}
pub use Rattle.life.specs.Clients.{HasAnswered, HasLearnt, HasSettled, KeepsClient, run_acts, seen_by_all}
pub use Rattle.life.specs.Continuing.{HasLife, Lives, StopKeeps, acts_after, with_run}
pub use Rattle.life.specs.Life.{IsStepOf, Met, Notice, acts_of, steps_of, met_in, seen_of}
pub use Rattle.life.specs.Promise.{IsRun, client_acts}
pub use Rattle.life.specs.PublisherWork.{AreCommands, StopsAfter, store_in}
pub use Rattle.life.specs.Reached.{HasActed, HasWorked, NoneIsReaders, Reached, StoreLists, lists_of}
pub use Rattle.life.specs.Replies.{AreReplies, AreTextsOf, IsAnswered, IsReplyTo, IsTold, acts_for, acts_of_one}
pub use Rattle.life.specs.Replies.{learning_acts, looked_up, queries_in}
pub use Rattle.life.specs.declared.client.Client.{Client}
pub use Rattle.life.specs.declared.client.Reply.{Reply}
