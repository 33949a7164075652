-- What three or more proofs use of the libraries, of the crates below and of this crate's definitions.
pub use Rattle.std.specs.Arc.{arc_value}
pub use Rattle.std.specs.Prelude.{⊤}
pub use Rattle.std.specs.declared.alloc.Global.{Global}
pub use Rattle.std.specs.declared.sync.Arc.{Arc}
pub use Rattle.std.proofs.Common.{[], ◌&&◌, ◌++◌, ◌+◌, ◌==◌, ◌∙◌, ◌∷◌, ◌≡◌, ◌≤◌, ◌⊎◌, Bool, List, MatchOption, None}
pub use Rattle.std.proofs.Common.{Option, Some, ap, append_assoc, arith, false, if◌then◌else◌, inl, inr, length}
pub use Rattle.std.proofs.Common.{length-append, map, max, refl, subst, suc, sym, take, true, zero, ℕ, ⊎_elim}
pub use Rattle.live_set.specs.Loads.{LoadValue}
pub use Rattle.live_loads.specs.Batches.{StartsWith, joined_loads, version_of}
pub use Rattle.live_loads.specs.Seen.{SeenValue}
pub use Rattle.live_loads.specs.Store.{AreNames, StoreValue}
pub use Rattle.live_loads.proofs.Joining.{begins_nil, begins_refl, begins_trans, joined-append}
pub use Rattle.live_versions.specs.History.{Accept, Enter, Event, Learn, Refuse, State, after, new_store, state_from}
pub use Rattle.life.proofs.Calls.{either_begins, learns_all, learns_nothing, publish_keeps, refusal_keeps, worked_none}
pub use Rattle.life.proofs.Histories.{by_test}
pub use Rattle.c_answers.specs.Numbers.{busy_fault, memory_fault, no_fault}
pub use Rattle.c_answers.specs.declared.opened.Opened.{Opened}
pub use Rattle.c_sets.specs.Making.{IsAnswerFrom, IsAnswerIn, IsSetAnswer, any_reader_in, load_of, reader_in}
pub use Rattle.c_sets.specs.Making.{set_number}
pub use Rattle.c_sets.specs.declared.sets.HeldSet.{HeldSet}
pub use Rattle.c_sets.specs.declared.sets.Origin.{Origin}
pub use Rattle.c_sets.specs.declared.sets.Origin.TheVariants.{Left, Lent, Made, Refused}
pub use Rattle.c_stores.specs.Storing.{HasLeft, HasPublished, IsAfter, IsBack, IsBackAfter, IsEntered, IsEnteredAfter}
pub use Rattle.c_stores.specs.Storing.{IsEntranceOf, IsLater, IsLeft, IsLoad, IsLoaded, IsNewStore, IsNoticeOf}
pub use Rattle.c_stores.specs.Storing.{IsPublished, IsReaderFrom, IsReclaimed, IsStillOut, IsStoreNumber, IsUnpublished}
pub use Rattle.c_stores.specs.Storing.{load_number, publish_number}
pub use Rattle.c_stores.specs.declared.stores.HeldEntrance.{HeldEntrance}
pub use Rattle.c_stores.specs.declared.stores.HeldStore.{HeldStore}
pub use Rattle.c_handles.specs.Calls.{AgreesIn, AgreesWith, Call, Closed, Closes, ClosesEntrance, ClosesNotice}
pub use Rattle.c_handles.specs.Calls.{ClosesReader, ClosesStore, CountsReader, CountsStore, DoesToEntrances}
pub use Rattle.c_handles.specs.Calls.{DoesToNotices, DoesToReaders, DoesToStores, EntersAfter, EntersAfterIn, EntersIn}
pub use Rattle.c_handles.specs.Calls.{Handle, Handles, HasFault, HasNumbers, IsClosed, IsMadeAt, IsOpen, IsStep}
pub use Rattle.c_handles.specs.Calls.{IsTrace, IsUnused, Leaves, Loads, LoadsInto, Looks, LooksAt, LooksAtIn, Makes}
pub use Rattle.c_handles.specs.Calls.{MakesEntrance, MakesNotice, MakesReader, Open, OpensStore, OthersStay, Publishes}
pub use Rattle.c_handles.specs.Calls.{PublishesIn, Reclaims, Turns, Unused, no_handles, store_in, told_by_entrance}
pub use Rattle.c_handles.specs.Calls.{told_by_notice, view_in}
pub use Rattle.c_handles.specs.HandleActs.{AreAnswered, Entered, GoOn, IsStepOf, Look, ReaderAct, Told, acts_at}
pub use Rattle.c_handles.specs.HandleActs.{acts_in, ends_entry, entry_acts, events_in, load_events, look_in, looks_in}
pub use Rattle.c_handles.specs.HandleActs.{publish_events, telling, work_in}
