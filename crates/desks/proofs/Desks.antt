-- Lists of desks, member by member.
use Rattle.std.specs.Prelude.{IfSome}
use Rattle.std.specs.List.{AllZip, AllByRecursion}
use Rattle.std.proofs.Common.{◌≡◌, ◌≤◌, max, List, [], ◌∷◌, None, Some, sym, refl, ap, ◌∙◌, subst}
use Rattle.std.proofs.Common.{arith, Option, inl, inr}
use Rattle.live_versions.specs.Seen.{SeenValue}
use Rattle.live_versions.specs.Batches.{version_of}
use Rattle.live_loads.proofs.Joining.{begins_refl, begins_trans}
use Rattle.desks.specs.declared.desk.Desk.{Desk}
use Rattle.desks.specs.declared.desk.ServeFault.{ServeFault}
use Rattle.desks.specs.declared.desk.ServeFault.TheVariants as fault
use Rattle.desks.specs.Answers.{Answered}
use Rattle.desks.specs.Desks.{AtSome, EndsAhead, KeepsDesk, IsServed}
use Rattle.desks.specs.Working.{HasLearnt, Worked, Settled, OfWork}
use Rattle.desks.proofs.Answers.{answered_grows, answered_less, version_grows}

-- ---- lists

pub each_refl : (P : Desk → Desk → Type 0) → ((d : Desk) → P d d) → (ds : List Desk) → AllZip P ds ds
each_refl P same [] = tt
each_refl P same (d ∷ ds) = (same d, each_refl P same ds)

pub each_map : (P Q : Desk → Desk → Type 0) → ((d e : Desk) → P d e → Q d e) → (ds es : List Desk) → AllZip P ds es
    → AllZip Q ds es
each_map P Q to [] [] h = tt
each_map P Q to (d ∷ ds) (e ∷ es) h = (to d e h.0, each_map P Q to ds es h.1)
each_map P Q to [] (e ∷ es) h = absurd h
each_map P Q to (d ∷ ds) [] h = absurd h

pub each_then : (P Q R : Desk → Desk → Type 0) → ((d e f : Desk) → P d e → Q e f → R d f) → (ds es fs : List Desk)
    → AllZip P ds es → AllZip Q es fs → AllZip R ds fs
each_then P Q R to [] [] [] h k = tt
each_then P Q R to (d ∷ ds) (e ∷ es) (f ∷ fs) h k = (to d e f h.0 k.0, each_then P Q R to ds es fs h.1 k.1)
each_then P Q R to [] (e ∷ es) fs h k = absurd h
each_then P Q R to (d ∷ ds) [] fs h k = absurd h
each_then P Q R to [] [] (f ∷ fs) h k = absurd k
each_then P Q R to (d ∷ ds) (e ∷ es) [] h k = absurd k

pub each_every : (P : Desk → Desk → Type 0) (A B : Desk → Type 0) → ((d e : Desk) → A d → P d e → B e)
    → (ds es : List Desk) → AllByRecursion A ds → AllZip P ds es → AllByRecursion B es
each_every P A B to [] [] a h = tt
each_every P A B to (d ∷ ds) (e ∷ es) a h = (to d e a.0 h.0, each_every P A B to ds es a.1 h.1)
each_every P A B to [] (e ∷ es) a h = absurd h
each_every P A B to (d ∷ ds) [] a h = absurd h

-- what holds of each new desk may be assumed as well
pub each_with : (P Q : Desk → Desk → Type 0) (A : Desk → Type 0) → ((d e : Desk) → P d e → A e → Q d e)
    → (ds es : List Desk) → AllZip P ds es → AllByRecursion A es → AllZip Q ds es
each_with P Q A to [] [] h a = tt
each_with P Q A to (d ∷ ds) (e ∷ es) h a = (to d e h.0 a.0, each_with P Q A to ds es h.1 a.1)
each_with P Q A to [] (e ∷ es) h a = absurd h
each_with P Q A to (d ∷ ds) [] h a = absurd h

-- ---- desks

pub kept_refl : (d : Desk) → KeepsDesk d d
kept_refl d = record { queries = refl; book = refl; seen = begins_refl d.reader.batches }

kept_trans : (d e f : Desk) → KeepsDesk d e → KeepsDesk e f → KeepsDesk d f
kept_trans d e f h k = record {
  queries = k.queries ∙ h.queries;
  book = k.book ∙ h.book;
  seen = begins_trans f.reader.batches e.reader.batches d.reader.batches k.seen h.seen;
}

pub kept_all : (ds : List Desk) → AllZip KeepsDesk ds ds
kept_all ds = each_refl KeepsDesk kept_refl ds

learnt_kept : (f : SeenValue) (d e : Desk) → HasLearnt f d e → KeepsDesk d e
learnt_kept f d e h = record { queries = h.queries; book = h.book; seen = h.seen }

-- desks that have learnt and were worked are kept
pub worked_kept : (f : SeenValue) (ds es fs : List Desk) → AllZip (HasLearnt f) ds es → AllZip Worked es fs
    → AllZip KeepsDesk ds fs
worked_kept f ds es fs h k =
    each_then (HasLearnt f) Worked KeepsDesk (λ d e z l w. kept_trans d e z (learnt_kept f d e l) w.kept) ds es fs h k

pub kept_then : (ds es fs : List Desk) → AllZip KeepsDesk ds es → AllZip KeepsDesk es fs → AllZip KeepsDesk ds fs
kept_then ds es fs h k = each_then KeepsDesk KeepsDesk KeepsDesk kept_trans ds es fs h k

pub worked_not_ahead : (ds es : List Desk) → AllZip Worked ds es → AllByRecursion (λ d. IfSome d.fault OfWork) es
worked_not_ahead [] [] h = tt
worked_not_ahead (d ∷ ds) (e ∷ es) h = (h.0.of_work, worked_not_ahead ds es h.1)
worked_not_ahead [] (e ∷ es) h = absurd h
worked_not_ahead (d ∷ ds) [] h = absurd h

-- the readers still have one book
pub kept_book : (f g : SeenValue) (ds es : List Desk) → g.book ≡ f.book
    → AllByRecursion (λ d. d.reader.book ≡ f.book) ds → AllZip KeepsDesk ds es
    → AllByRecursion (λ d. d.reader.book ≡ g.book) es
kept_book f g ds es same all h =
    let A : Desk → Type 0 = λ d. d.reader.book ≡ f.book in
    let B : Desk → Type 0 = λ d. d.reader.book ≡ g.book in
    each_every KeepsDesk A B (λ d e a k. k.book ∙ a ∙ sym same) ds es all h

-- a desk that has learnt, was worked with no fault, and has settled
served_one : (start end : SeenValue) (d e f z : Desk) → HasLearnt start d e → Worked e f → f.fault ≡ None
    → Settled end f z → IsServed start end d z
served_one start end d e f z l w none s =
    let least = max (version_of d.reader.batches) (version_of start.batches) in
    let seen = version_grows e.reader.batches d.reader.batches l.seen in
    let told = version_grows e.reader.batches start.batches l.told in
    let low : least ≤ version_of e.reader.batches = omega (arith, seen, told) in
    let here = answered_less f.reader.batches least (version_of e.reader.batches) e.queries.items f.answers.items low
    (w.answered none) in
    let now = answered_grows end.batches f.reader.batches least e.queries.items f.answers.items s.later here in
    record {
      reader = s.reader;
      later = begins_trans end.batches f.reader.batches d.reader.batches s.later
          (begins_trans f.reader.batches e.reader.batches d.reader.batches w.kept.seen l.seen);
      queries = s.queries ∙ w.kept.queries ∙ l.queries;
      fault = s.fault ∙ none;
      answered =
          subst (λ qs. Answered end.batches least qs z.answers.items) (ap (λ v. v.items) l.queries)
          (subst (λ rs. Answered end.batches least e.queries.items rs) (ap (λ v. v.items) (sym s.answers)) now);
    }

-- all desks
pub served_all : (start end : SeenValue) (ds es fs zs : List Desk) → AllZip (HasLearnt start) ds es
    → AllZip Worked es fs → AllByRecursion (λ d. d.fault ≡ None) fs → AllZip (Settled end) fs zs
    → AllZip (IsServed start end) ds zs
served_all start end [] [] [] [] l w n s = tt
served_all start end (d ∷ ds) (e ∷ es) (f ∷ fs) (z ∷ zs) l w n s =
    (served_one start end d e f z l.0 w.0 n.0 s.0, served_all start end ds es fs zs l.1 w.1 n.1 s.1)
served_all start end [] (e ∷ es) fs zs l w n s = absurd l
served_all start end (d ∷ ds) [] fs zs l w n s = absurd l
served_all start end [] [] (f ∷ fs) zs l w n s = absurd w
served_all start end (d ∷ ds) (e ∷ es) [] zs l w n s = absurd w
served_all start end [] [] [] (z ∷ zs) l w n s = absurd s
served_all start end (d ∷ ds) (e ∷ es) (f ∷ fs) [] l w n s = absurd s

-- a fault is that of the first desk, or of a later one
pub at_first : (all : List Desk) (d : Desk) (rest : List Desk) (f : ServeFault) → all ≡ d ∷ rest → d.fault ≡ Some f
    → AtSome (λ x. x.fault ≡ Some f) all
at_first all d rest f is has = subst (λ (l : List Desk). AtSome (λ x. x.fault ≡ Some f) l) (sym is) (inl has)

pub at_later : (all : List Desk) (d : Desk) (rest : List Desk) (r : Option ServeFault) → all ≡ d ∷ rest
    → IfSome r (λ f. AtSome (λ x. x.fault ≡ Some f) rest) → IfSome r (λ f. AtSome (λ x. x.fault ≡ Some f) all)
at_later all d rest None is h = tt
at_later all d rest (Some f) is h = subst (λ (l : List Desk). AtSome (λ x. x.fault ≡ Some f) l) (sym is) (inr h)

-- a fault of the work is that of a desk
pub desk_fault : (end : SeenValue) (desks : List Desk) (e : ServeFault) → OfWork e
    → AtSome (λ d. d.fault ≡ Some e) desks → EndsAhead end desks e
desk_fault end desks fault.Memory is at = tt
desk_fault end desks fault.Ahead is at = absurd is
desk_fault end desks fault.Join is at = absurd is
desk_fault end desks fault.Closed is at = at
