-- The parameters of an export: where each stands in the signature, and how the machine stores it. An export keeps none
-- of them, since what they own goes to the function that it calls.
use Rattle.std.proofs.Common.{◌≡◌, ℕ, List, [], ◌∷◌, ◌++◌, refl}
use seplogic.Ra.Ura.{Ura}
use base.Fml.{ftrue}
use base.Logic.{ent}
use mir.Syntax.{Width, named}
use mir.Val.{Val}
use types.Logic.{Logic, sem}
use types.Kit.{‵, ◌$◌, ◌∵◌, !, qed, done, move, drop, use1, fsplit, fjoin}
use contract.Lifetimes.{Lfts}
use denote.Builtin.{SliceRefOf, unit}
use denote.Exit.{yes, left, Last}
use denote.Laws.{Are, Ises, Is, Tells, Tellss, Spells, Typed, Typed-app, valss}
use denote.Plain.{UInt, uint_vals, uint_Tells, uint_Lawful}
use denote.RattleType.{Denots, Valss, flat, mirs, owns}
use denote.RawPtr.{Ptr, RawPtr, rawptr_vals, rawptr_Tells, rawptr_Lawful}
use denote.Signature.{Slot, plain, types_at, meet_at, AllWithin}
use denote.Slice.{shr_slice_vals, shr_slice_Tells, shr_slice_Lawful}
use denote.Triple.End.{Fins, all}
use denote.Triple.Walked.{Stays, AllGo, Goes-dropped, stay_dropped, fits_of}
use Rattle.std_heap.specs.contracts.Global as Heap
use Rattle.std_heap.proofs.Handle.{heap_val, heap_Tells}

-- a parameter: its place in the signature, its machine value and that value's type. Nothing is said of it at the return
pub record Taken (n : ℕ) : Type 2 where
  pub slot : Slot n
  pub stored : (κs : Lfts n) → (slot.row κs).Denot → List Val
  pub tells : (κs : Lfts n) → Tells (slot.row κs) (Is (slot.row κs)) (stored κs)
  pub typed : {M : Type 1} {𝓤 : Ura M} (𝓛 : Logic 𝓤) (κs : Lfts n) (x : (slot.row κs).Denot)
      → Is (slot.row κs) x (stored κs x) → Typed (slot.row κs).mir (stored κs x)
  pub last : (κs : Lfts n) (x : (slot.row κs).Denot) → Last ((slot.row κs).exit yes) x
  pub silent : (κs : Lfts n) (x : (slot.row κs).Denot) (w : Last ((slot.row κs).exit yes) x)
      → left ((slot.row κs).exit yes) x w ≡ ftrue

module _ {n : ℕ} where
  abbrev pub pointer : Taken n
  pointer = record {
    slot = plain (λ _. RawPtr);
    stored = λ κs. rawptr_vals;
    tells = λ κs. rawptr_Tells;
    typed = λ 𝓛 κs x. (rawptr_Lawful 𝓛).typed x (rawptr_vals x);
    last = λ κs x. tt;
    silent = λ κs x w. refl;
  }

  abbrev pub uint : Width → Taken n
  uint w = record {
    slot = plain (λ _. UInt w);
    stored = λ κs. uint_vals w;
    tells = λ κs. uint_Tells w;
    typed = λ 𝓛 κs x. (uint_Lawful 𝓛 w).typed x (uint_vals w x);
    last = λ κs x. tt;
    silent = λ κs x w. refl;
  }

  -- a slice of numbers, which is read for the lifetime with the number j
  abbrev pub slice : Width → (j : ℕ) → AllWithin n (j ∷ []) → Taken n
  slice w j ok = record {
    slot = SliceRefOf (j ∷ []) ok (plain (λ _. UInt w)) (λ _. tt);
    stored = λ κs. shr_slice_vals;
    tells = λ κs. shr_slice_Tells (named j) (meet_at n (j ∷ []) ok κs) (UInt w);
    typed = λ 𝓛 κs x. (shr_slice_Lawful 𝓛 (named j) (meet_at n (j ∷ []) ok κs) (UInt w)).typed x (shr_slice_vals x);
    last = λ κs x. tt;
    silent = λ κs x w. refl;
  }

  abbrev pub allocator : Taken n
  allocator = record {
    slot = plain (λ _. Heap.the_row);
    stored = λ κs x. heap_val ∷ [];
    tells = λ κs. heap_Tells;
    typed = λ 𝓛 κs x is. ((tt, ((tt, tt), tt)), tt);
    last = λ κs x. tt;
    silent = λ κs x w. refl;
  }

  -- what is returned: nothing, or a number
  abbrev pub back : Slot n
  back = plain (λ _. unit)

  abbrev pub word : Width → Slot n
  word w = plain (λ _. UInt w)

  abbrev pub slots : List (Taken n) → List (Slot n)
  slots [] = []
  slots (t ∷ ts) = t.slot ∷ slots ts

  abbrev pub stays : (ts : List (Taken n)) → Stays (slots ts) (all yes (slots ts))
  stays [] = tt
  stays (t ∷ ts) = (stay_dropped t.slot yes, stays ts)

  module _ (κs : Lfts n) where
    abbrev pub spells : (ts : List (Taken n)) → Spells (types_at (slots ts) κs)
    spells [] = tt
    spells (t ∷ ts) = (t.stored κs, spells ts)

    abbrev pub stored_all : (ts : List (Taken n)) → Denots (types_at (slots ts) κs) → Valss (types_at (slots ts) κs)
    stored_all ts = valss (types_at (slots ts) κs) (spells ts)

    -- the pointer behind the other parameters, to which an export writes what it makes
    abbrev pub front : (ts : List (Taken n)) → Denots (types_at (slots (ts ++ (pointer ∷ []))) κs)
        → Denots (types_at (slots ts) κs)
    front [] a = tt
    front (t ∷ ts) a = (a.0, front ts a.1)

    abbrev pub out_of : (ts : List (Taken n)) → Denots (types_at (slots (ts ++ (pointer ∷ []))) κs) → Ptr
    out_of [] a = a.0
    out_of (t ∷ ts) a = out_of ts a.1

    abbrev pub with_out : (ts : List (Taken n)) → Denots (types_at (slots ts) κs) → Ptr
        → Denots (types_at (slots (ts ++ (pointer ∷ []))) κs)
    with_out [] a p = (p, tt)
    with_out (t ∷ ts) a p = (a.0, with_out ts a.1 p)

    pub tell : (ts : List (Taken n)) → Tellss (types_at (slots ts) κs) (Ises (types_at (slots ts) κs)) (spells ts)
    tell [] = tt
    tell (t ∷ ts) = (t.tells κs, tell ts)

    abbrev pub lasts_at : (ts : List (Taken n)) (a : Denots (types_at (slots ts) κs))
        → Fins κs (slots ts) (all yes (slots ts)) a
    lasts_at [] a = tt
    lasts_at (t ∷ ts) a = (t.last κs a.0, lasts_at ts a.1)

    pub fit : (ts : List (Taken n)) (a : Denots (types_at (slots ts) κs))
        → fits_of κs (slots ts) (all yes (slots ts)) (stays ts) a (lasts_at ts a)
    fit [] a = tt
    fit (t ∷ ts) a = (tt, fit ts a.1)

  module _ {M : Type 1} {𝓤 : Ura M} (𝓛 : Logic 𝓤) where
    pub go : (ts : List (Taken n)) → AllGo 𝓛 n (slots ts) (all yes (slots ts)) (stays ts)
    go [] = tt
    go (t ∷ ts) = (Goes-dropped 𝓛 n t.slot yes t.silent, go ts)

    -- without that pointer, which owns nothing
    pub fronted : (κs : Lfts n) (ts : List (Taken n)) (a : Denots (types_at (slots (ts ++ (pointer ∷ []))) κs))
        → ent 𝓤 (sem 𝓛 (owns (types_at (slots (ts ++ (pointer ∷ []))) κs) a (stored_all κs (ts ++ (pointer ∷ [])) a)))
        (sem 𝓛 (owns (types_at (slots ts) κs) (front κs ts a) (stored_all κs ts (front κs ts a))))
    fronted κs [] a = qed 𝓛 (‵ (owns (RawPtr ∷ []) a (rawptr_vals a.0, tt)) ∷ []) ∵ fsplit ! $ drop ! $ done !
    fronted κs (t ∷ ts) a = qed 𝓛 (‵ (owns (types_at (slots (t ∷ ts ++ (pointer ∷ []))) κs) a
        (stored_all κs (t ∷ ts ++ (pointer ∷ [])) a)) ∷ []) ∵ fsplit ! $ move ! (1 ∷ []) $
        use1 𝓛 (‵ (owns (types_at (slots ts) κs) (front κs ts a.1) (stored_all κs ts (front κs ts a.1))))
        (fronted κs ts a.1) $ move ! (1 ∷ 0 ∷ []) $ fjoin ! $ done !

    pub all_typed : (κs : Lfts n) (ts : List (Taken n)) (a : Denots (types_at (slots ts) κs)) (is : Are
        (types_at (slots ts) κs) (Ises (types_at (slots ts) κs)) a (valss (types_at (slots ts) κs) (spells κs ts) a))
        → Typed (mirs (types_at (slots ts) κs)) (flat (types_at (slots ts) κs) (valss (types_at (slots ts) κs)
        (spells κs ts) a))
    all_typed κs [] a is = tt
    all_typed κs (t ∷ ts) a is = Typed-app (t.slot.row κs).mir (mirs (types_at (slots ts) κs)) (t.stored κs a.0)
        (flat (types_at (slots ts) κs) (valss (types_at (slots ts) κs) (spells κs ts) a.1)) (t.typed 𝓛 κs a.0 is.0)
        (all_typed κs ts a.1 is.1)
