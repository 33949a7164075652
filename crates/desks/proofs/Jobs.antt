-- Jobs done one after another, and one more.
use Rattle.std.proofs.Common.{◌≡◌, ◌≢◌, ◌⊎◌, inl, inr, ℕ, List, [], ◌∷◌, ◌++◌, Ok, Err, sym, refl, ap, subst, ◌∙◌}
use Rattle.std.proofs.Common.{◌+◌, ◌<◌, length, take, drop, append_assoc}
use Rattle.std.proofs.lemmas.List.{take_more, take-append-drop}
use Rattle.std.specs.Prelude.{get_or}
use Rattle.catalogue.specs.Entry.{Entry}
use Rattle.catalogue.specs.declared.Options.{Options}
use Rattle.catalogue.specs.declared.Stats.{Stats}
use Rattle.live_loads.specs.declared.fault.StoreFault.{StoreFault}
use Rattle.live_loads.specs.declared.fault.StoreFault.TheVariants as fault
use Rattle.live_versions.specs.Batches.{after_publish}
use Rattle.live_versions.specs.Seen.{SeenValue}
use Rattle.live_versions.specs.Store.{StoreValue, AddsLoad, Accepts, IsFileFault, IsRefusedFor, IsRefusedMo}
use Rattle.desks.specs.declared.job.Accepted.{Accepted}
use Rattle.desks.specs.declared.job.Accepted.TheVariants as accepted
use Rattle.desks.specs.Jobs.{SourceValue, Po, Mo, JobValue, Outcome, store_after_publish, Brings, IsSourceFault}
use Rattle.desks.specs.Jobs.{IsAccepted}
use Rattle.desks.specs.Jobs.{IsRefused, Does, DoesAll, HasDone, Stops}
use Rattle.desks.specs.Working.{LeavesOne}

-- ---- a load of either kind

-- an accepted load of a job that is a PO text
pub accepted_po : (s t : StoreValue) (job : JobValue) (domain locale text : List ℕ) (options : Options) (stats : Stats)
    → job.domain ≡ domain → job.locale ≡ locale → job.source ≡ Po text options
    → Accepts s domain locale text options stats t → IsAccepted s job (accepted.Po stats) t
accepted_po s t job domain locale text options stats d l is accepts =
    let map : List Entry = accepts.compiled.catalogue in
    let brings : Brings (Po text options) (accepted.Po stats) map =
    (accepts.compiled, accepts.means, accepts.stats_are, refl) in (
      map,
      subst (λ (x : SourceValue). Brings x (accepted.Po stats) map) (sym is) brings,
      subst (λ (x : List ℕ). AddsLoad s x job.locale map t) (sym d)
          (subst (λ (x : List ℕ). AddsLoad s domain x map t) (sym l) accepts.adds),
    )

-- a refused one of a job that is an MO file
pub refused_mo : (s : StoreValue) (job : JobValue) (domain locale bytes : List ℕ) (e : StoreFault)
    → job.domain ≡ domain → job.locale ≡ locale → job.source ≡ Mo bytes → IsRefusedMo s domain locale bytes e
    → IsRefused s job e
refused_mo s job domain locale bytes e d l is refused =
    subst (λ (x : SourceValue). IsRefusedFor (IsSourceFault x) s job.domain job.locale e) (sym is)
    (subst (λ (x : List ℕ). IsRefusedFor (IsFileFault bytes) s x job.locale e) (sym d)
    (subst (λ (x : List ℕ). IsRefusedFor (IsFileFault bytes) s domain x e) (sym l) refused))

-- ---- a job

-- a publish, as its clauses describe it
pub is_published : (s t : StoreValue)
    → t.seen ≡ record { book = s.seen.book; batches = after_publish s.seen.batches s.pending } → t.pending ≡ []
    → t.most ≡ s.most → t ≡ store_after_publish s
is_published s t seen pending most =
    let A : SeenValue → StoreValue = λ x. record { seen = x; pending = t.pending; most = t.most } in
    let B : List _ → StoreValue = λ x. record { seen = (store_after_publish s).seen; pending = x; most = t.most } in
    let C : ℕ → StoreValue = λ x. record { seen = (store_after_publish s).seen; pending = []; most = x } in
    ap A seen ∙ (ap B pending ∙ ap C most)

pub does_refused : (s t : StoreValue) (job : JobValue) (e : StoreFault) → e ≢ fault.Memory → IsRefused s job e → t ≡ s
    → Does s job (Err e) t
does_refused s t job fault.Memory not is same = absurd (not refl)
does_refused s t job e not is same = (is, same)

pub does_all_snoc : (s t u : StoreValue) (jobs : List JobValue) (job : JobValue) (outcomes : List Outcome) (o : Outcome)
    → DoesAll s jobs outcomes t → Does t job o u → DoesAll s (jobs ++ job ∷ []) (outcomes ++ o ∷ []) u
does_all_snoc s t u [] job [] o all one = (u, subst (λ (x : StoreValue). Does x job o u) all one, refl)
does_all_snoc s t u [] job (p ∷ outcomes) o all one = absurd all
does_all_snoc s t u (x ∷ jobs) job [] o all one = absurd all
does_all_snoc s t u (x ∷ jobs) job (p ∷ outcomes) o (between, first, rest) one = (
  between,
  first,
  does_all_snoc between t u jobs job outcomes o rest one,
)

-- some first jobs are done
pub stops_done : (s t : StoreValue) (jobs first rest : List JobValue) (outcomes : List Outcome) → jobs ≡ first ++ rest
    → HasDone s first outcomes t → Stops s jobs t
stops_done s t jobs first rest outcomes split done = inr (record {
  first = first;
  rest = rest;
  split = split;
  outcomes = outcomes;
  reached = t;
  done = done;
  left = inl refl;
})

-- a fault within a job
pub stops_in_job : (s t u : StoreValue) (jobs first : List JobValue) (job : JobValue) (rest : List JobValue)
    (outcomes : List Outcome) → jobs ≡ first ++ job ∷ rest → HasDone s first outcomes t → LeavesOne t job u
    → Stops s jobs u
stops_in_job s t u jobs first job rest outcomes split done left = inr (record {
  first = first;
  rest = job ∷ rest;
  split = split;
  outcomes = outcomes;
  reached = t;
  done = done;
  left = leaves left;
})
  where
    leaves : LeavesOne t job u → (u ≡ t) ⊎ ((j : JobValue) × (others : List JobValue) × (counts : Accepted)
        × (job ∷ rest ≡ j ∷ others) × IsAccepted t j counts u)
    leaves (inl same) = inl same
    leaves (inr (counts, accepted)) = inr (job, rest, counts, refl, accepted)

-- what holds between two jobs
pub record Playing (s : StoreValue) (jobs : List JobValue) (outcomes : List Outcome) (now : StoreValue) : Type 0 where
  pub done : HasDone s jobs outcomes now
  pub none_pending : now.pending ≡ []
  pub book : now.seen.book ≡ s.seen.book
  pub most : now.most ≡ s.most

-- after the first publish
pub playing_first : (s t : StoreValue) (outcomes : List Outcome) → outcomes ≡ [] → t ≡ store_after_publish s
    → Playing s [] outcomes t
playing_first s t outcomes none same = record {
  done = subst (λ xs. HasDone s [] xs t) (sym none) same;
  none_pending = ap (λ (x : StoreValue). x.pending) same;
  book = ap (λ (x : StoreValue). x.seen.book) same;
  most = ap (λ (x : StoreValue). x.most) same;
}

does_pending : (s t : StoreValue) (job : JobValue) (o : Outcome) → s.pending ≡ [] → Does s job o t → t.pending ≡ []
does_pending s t job (Ok counts) none (l, a, is) = ap (λ (x : StoreValue). x.pending) is
does_pending s t job (Err fault.Memory) none h = absurd h
does_pending s t job (Err e) none h = ap (λ (x : StoreValue). x.pending) h.1 ∙ none

-- one more job
pub playing_more : (s t u : StoreValue) (jobs more : List JobValue) (job : JobValue) (os after : List Outcome)
    (o : Outcome) → Playing s jobs os t → Does t job o u → u.seen.book ≡ t.seen.book → u.most ≡ t.most
    → more ≡ jobs ++ job ∷ [] → after ≡ os ++ o ∷ [] → Playing s more after u
playing_more s t u jobs more job os after o now one book most more_is after_is = record {
  done = subst (λ xs. HasDone s xs after u) (sym more_is) (subst (λ xs. HasDone s (jobs
      ++ job ∷ []) xs u) (sym after_is)
      (does_all_snoc (store_after_publish s) t u jobs job os o now.done one));
  none_pending = does_pending t u job o now.none_pending one;
  book = book ∙ now.book;
  most = most ∙ now.most;
}

-- ---- the jobs before and after an index

pub taken : (jobs : List JobValue) (i : ℕ) (job : JobValue) → i < length jobs → job ≡ get_or jobs i job
    → take (i + 1) jobs ≡ take i jobs ++ job ∷ []
taken jobs i job below is = take_more jobs i job below ∙ ap (λ x. take i jobs ++ x ∷ []) (sym is)

pub split_behind : (jobs : List JobValue) (i : ℕ) (job : JobValue) → i < length jobs → job ≡ get_or jobs i job
    → jobs ≡ (take i jobs ++ job ∷ []) ++ drop (i + 1) jobs
split_behind jobs i job below is = sym (take-append-drop (i + 1) jobs)
    ∙ ap (λ l. l ++ drop (i + 1) jobs) (taken jobs i job below is)

pub split_at : (jobs : List JobValue) (i : ℕ) (job : JobValue) → i < length jobs → job ≡ get_or jobs i job
    → jobs ≡ take i jobs ++ job ∷ drop (i + 1) jobs
split_at jobs i job below is = split_behind jobs i job below is
    ∙ append_assoc (take i jobs) (job ∷ []) (drop (i + 1) jobs)
