-- The first calls of a program, step by step.
use Rattle.c_handles.proofs.Common.{Global, Arc, arc_value, Some, ℕ, ◌==◌, Bool, if◌then◌else◌, List, [], ◌∷◌, refl, ap}
use Rattle.c_handles.proofs.Common.{arith, inl, LoadValue, SeenValue, AreNames, begins_refl, begins_nil, Opened}
use Rattle.c_handles.proofs.Common.{load_of, HeldSet, Lent, Left, HeldStore, Handle, Open, Closed, Handles, OpensStore}
use Rattle.c_handles.proofs.Common.{MakesEntrance, MakesReader, Loads, Publishes, MakesNotice, EntersAfter, Leaves}
use Rattle.c_handles.proofs.Common.{ClosesReader, ClosesStore, AgreesWith, OthersStay, IsStep, IsTrace, no_handles}
use Rattle.logbook.specs.Pages.{Book}
use Rattle.mo_image.specs.Entry.{Entry}
use Rattle.live_set.specs.Sets.{no_loads}
use Rattle.c_handles.specs.Example.{first_calls, FirstCallsArePossible}

-- handle 0 is this, and all others are as they were
with_first : {V : Type 0} → Handle V → (ℕ → Handle V) → ℕ → Handle V
with_first first handles n = if n == 0 then first else handles n

others_stay : {V : Type 0} (first : Handle V) (handles : ℕ → Handle V) → OthersStay 0 handles (with_first first handles)
unfolding with_first
others_stay first handles other no_ = ap (λ (b : Bool). if b then first else handles other) no_

module _ (book : Book) (domain locale : List ℕ) (opened : Opened) (shared : Arc (List Entry) Global) where
  abbrev file : Opened
  file = record opened { catalogue = Some shared }

  abbrev load : LoadValue
  load = load_of domain locale (arc_value shared)

  abbrev none_seen : SeenValue
  none_seen = record { book = book; batches = [] }

  abbrev all_seen : SeenValue
  all_seen = record { book = book; batches = (load ∷ []) ∷ [] }

  abbrev store_with : SeenValue → List LoadValue → HeldStore
  store_with seen pending =
      record { publisher = Some (record { seen = seen; pending = pending; most = 1 }); fault = 0 }

  abbrev in_version : SeenValue → HeldSet
  in_version seen = record { origin = Lent seen; fault = 0 }

  abbrev out : HeldSet
  out = record { origin = Left all_seen no_loads; fault = 0 }

  abbrev store_is : Handles → Handle HeldStore → Handles
  store_is h s = record h { stores = with_first s h.stores }

  abbrev reader_is : Handles → Handle HeldSet → Handles
  reader_is h r = record h { readers = with_first r h.readers }

  abbrev h1 : Handles
  h1 = store_is no_handles (Open (store_with none_seen []))

  abbrev h2 : Handles
  h2 = record h1 { entrances = with_first (Open (record { entrance = Some none_seen })) h1.entrances }

  abbrev h3 : Handles
  h3 = reader_is h2 (Open (in_version none_seen))

  abbrev h4 : Handles
  h4 = store_is h3 (Open (store_with none_seen (load ∷ [])))

  abbrev h5 : Handles
  h5 = store_is h4 (Open (store_with all_seen []))

  abbrev h6 : Handles
  h6 = record h5 { notices = with_first (Open (record { notice = Some all_seen })) h5.notices }

  abbrev h7 : Handles
  h7 = reader_is h6 (Open (in_version all_seen))

  abbrev h8 : Handles
  h8 = reader_is h7 (Open out)

  abbrev h9 : Handles
  h9 = reader_is h8 (Closed out)

  abbrev h10 : Handles
  h10 = store_is h9 (Closed (store_with all_seen []))

  step1 : IsStep no_handles (OpensStore 0 0) h1
  unfolding with_first
  step1 = record {
    stores = record {
      unused = tt;
      made = ((refl, refl, refl), record { fault = λ e. refl; version = λ e. cc; pending = λ e. cc });
      others = others_stay (Open (store_with none_seen [])) no_handles.stores;
    };
    notices = refl;
    entrances = refl;
    readers = refl;
  }

  step2 : IsStep h1 (MakesEntrance 0 0) h2
  unfolding with_first
  step2 = record {
    stores = refl;
    notices = refl;
    entrances = record {
      unused = tt;
      made = refl;
      others = others_stay (Open (record { entrance = Some none_seen })) h1.entrances;
    };
    readers = refl;
  }

  step3 : IsStep h2 (MakesReader 0 0 (Some 0) 0 0) h3
  unfolding with_first
  step3 = record {
    stores = refl;
    notices = refl;
    entrances = refl;
    readers = record {
      unused = tt;
      made = record {
        made = (refl, (refl, begins_nil []));
        told_is = refl;
        numbers = record { version_is = refl; fault_is = refl };
      };
      others = others_stay (Open (in_version none_seen)) h2.readers;
    };
  }

  step4 : AreNames domain locale → IsStep h3 (Loads 0 domain locale file 0) h4
  unfolding with_first
  step4 names = record {
    stores = record {
      turned = record {
        loaded = inl (record { names = names; room = omega arith; after_is = refl }, refl);
        fault_is = record { fault = λ e. refl; version = λ e. cc; pending = λ e. cc };
      };
      others = others_stay (Open (store_with none_seen (load ∷ []))) h3.stores;
    };
    notices = refl;
    entrances = refl;
    readers = refl;
  }

  step5 : IsStep h4 (Publishes 0 0) h5
  unfolding with_first
  step5 = record {
    stores = record {
      turned = record {
        published = inl (record { book = refl; batches = refl; pending = refl; most = refl }, refl);
        fault_is = record { fault = λ e. refl; version = λ e. cc; pending = λ e. cc };
      };
      others = others_stay (Open (store_with all_seen [])) h4.stores;
    };
    notices = refl;
    entrances = refl;
    readers = refl;
  }

  step6 : IsStep h5 (MakesNotice 0 0) h6
  unfolding with_first
  step6 = record {
    stores = refl;
    notices = record {
      unused = tt;
      made = refl;
      others = others_stay (Open (record { notice = Some all_seen })) h5.notices;
    };
    entrances = refl;
    readers = refl;
  }

  step7 : IsStep h6 (EntersAfter 0 0 (Some 1) 1 0) h7
  unfolding with_first
  step7 = record {
    stores = refl;
    notices = refl;
    entrances = refl;
    readers = record {
      turned = record {
        one_store = refl;
        entered = ((refl, begins_nil all_seen.batches), inl (refl, begins_refl all_seen.batches));
        told_is = refl;
        numbers = record { version_is = refl; fault_is = refl };
      };
      others = others_stay (Open (in_version all_seen)) h6.readers;
    };
  }

  step8 : IsStep h7 (Leaves 0) h8
  unfolding with_first
  step8 = record {
    stores = refl;
    notices = refl;
    entrances = refl;
    readers = record { turned = ((refl, refl), refl); others = others_stay (Open out) h7.readers };
  }

  agreed : IsStep h8 (AgreesWith 0 0) h8
  unfolding with_first
  agreed = record {
    stores = refl;
    notices = refl;
    entrances = refl;
    readers = ((λ one. begins_refl all_seen.batches), refl);
  }

  step9 : IsStep h8 (ClosesReader 0) h9
  unfolding with_first
  step9 = record {
    stores = refl;
    notices = refl;
    entrances = refl;
    readers = record { closed = refl; others = others_stay (Closed out) h8.readers };
  }

  step10 : IsStep h9 (ClosesStore 0) h10
  unfolding with_first
  step10 = record {
    stores = record { closed = refl; others = others_stay (Closed (store_with all_seen [])) h9.stores };
    notices = refl;
    entrances = refl;
    readers = refl;
  }

  trace_is : AreNames domain locale → IsTrace no_handles (first_calls domain locale file) h10
  trace_is names = (
    h1,
    step1,
    (
      h2,
      step2,
      (
        h3,
        step3,
        (
          h4,
          step4 names,
          (h5, step5, (h6, step6, (h7, step7, (h8, step8, (h8, agreed, (h9, step9, (h10, step10, refl))))))),
        ),
      ),
    ),
  )

pub first_calls_are_possible : FirstCallsArePossible
first_calls_are_possible book domain locale opened shared names =
    (h10 book domain locale opened shared, trace_is book domain locale opened shared names)
