-- Closings may be listed last: until then all handles are open.
use Rattle.std.specs.Prelude.{List, [], ◌∷◌}
use Rattle.c_handles.specs.Calls.{Handle, Unused, Open, Closed, Handles, Call, ClosesStore, ClosesNotice}
use Rattle.c_handles.specs.Calls.{ClosesEntrance, ClosesReader, no_handles, IsTrace}

-- the handle before it was closed
abbrev pub before_closing : {V : Type 0} → Handle V → Handle V
before_closing Unused = Unused
before_closing (Open value) = Open value
before_closing (Closed value) = Open value

-- all handles before any was closed
abbrev pub all_kept : Handles → Handles
all_kept h = record {
  stores = λ n. before_closing (h.stores n);
  notices = λ n. before_closing (h.notices n);
  entrances = λ n. before_closing (h.entrances n);
  readers = λ n. before_closing (h.readers n);
}

-- the calls of a trace before the closings, if these are listed last
abbrev pub without_closings : List Call → List Call
without_closings [] = []
without_closings (ClosesStore store ∷ calls) = without_closings calls
without_closings (ClosesNotice notice ∷ calls) = without_closings calls
without_closings (ClosesEntrance entrance ∷ calls) = without_closings calls
without_closings (ClosesReader reader ∷ calls) = without_closings calls
without_closings (call ∷ calls) = call ∷ without_closings calls

-- a trace without its closings is also one, and comes to the same values of all handles
abbrev pub ClosingsMayComeLast : Type 0
ClosingsMayComeLast = (trace : List Call) (h : Handles) → IsTrace no_handles trace h
    → IsTrace no_handles (without_closings trace) (all_kept h)
