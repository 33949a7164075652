-- A trace that is possible: a store is opened, a catalogue is loaded and published, and a reader sees it.
use Rattle.std.specs.Prelude.{ℕ, List, [], ◌∷◌, Some}
use Rattle.std.specs.declared.alloc.Global.{Global}
use Rattle.std.specs.declared.sync.Arc.{Arc}
use Rattle.logbook.specs.Pages.{Book}
use Rattle.mo_image.specs.Entry.{Entry}
use Rattle.live_loads.specs.Store.{AreNames}
use Rattle.c_answers.specs.declared.opened.Opened.{Opened}
use Rattle.c_handles.specs.Calls.{Handles, Call, OpensStore, MakesEntrance, MakesReader, Loads, Publishes, MakesNotice}
use Rattle.c_handles.specs.Calls.{EntersAfter, Leaves, ClosesReader, ClosesStore, AgreesWith, no_handles, IsTrace}

-- the reader is made before the load, and enters after a notice of the publish; in the end both agree
abbrev pub first_calls : List ℕ → List ℕ → Opened → List Call
first_calls domain locale opened = OpensStore 0 0 ∷ MakesEntrance 0 0 ∷ MakesReader 0 0 (Some 0) 0 0
    ∷ Loads 0 domain locale opened 0 ∷ Publishes 0 0 ∷ MakesNotice 0 0 ∷ EntersAfter 0 0 (Some 1) 1 0 ∷ Leaves 0
    ∷ AgreesWith 0 0 ∷ ClosesReader 0 ∷ ClosesStore 0 ∷ []

-- it is possible for all names and each catalogue
abbrev pub FirstCallsArePossible : Type 0
FirstCallsArePossible = (book : Book) (domain locale : List ℕ) (opened : Opened) (shared : Arc (List Entry) Global)
    → AreNames domain locale
    → (h : Handles) × IsTrace no_handles (first_calls domain locale (record opened { catalogue = Some shared })) h
