-- Jobs come to one end.
use Rattle.std.proofs.Common.{◌≡◌, ◌≢◌, List, [], ◌∷◌, length, Ok, Err, sym, refl, ap, subst, ◌∙◌}
use Rattle.catalogue.specs.Entry.{Entry}
use Rattle.catalogue.specs.declared.Compiled.{Compiled}
use Rattle.catalogue.proofs.OneMeaning.{meaning_one}
use Rattle.mo_file.proofs.OneMap.{unique_map}
use Rattle.live_loads.specs.declared.fault.StoreFault.{StoreFault}
use Rattle.live_loads.specs.declared.fault.StoreFault.TheVariants as fault
use Rattle.live_versions.specs.Store.{StoreValue}
use Rattle.live_loads.proofs.Refusals.{adds_one, reason_one, added_or_refused}
use Rattle.live_loads.proofs.BytesFaults.{text_fault_one, no_text_fault, file_fault_one, no_file_fault}
use Rattle.desks.specs.declared.job.Accepted.{Accepted}
use Rattle.desks.specs.declared.job.Accepted.TheVariants as accepted
use Rattle.desks.specs.Jobs.{SourceValue, Po, Mo, JobValue, Outcome, store_after_publish, Brings, IsSourceFault}
use Rattle.desks.specs.Jobs.{IsAccepted}
use Rattle.desks.specs.Jobs.{IsRefused, Does, DoesAll}
use Rattle.desks.specs.Laws.{HasOneEnd}

-- ---- sources

brings_one : (source : SourceValue) (counts other : Accepted) (m n : List Entry) → Brings source counts m
    → Brings source other n → (counts ≡ other) × (m ≡ n)
brings_one (Po text options) (accepted.Po stats) (accepted.Po other) m n (c, means, stats_are, m_is)
    (d, means', other_are, n_is) =
    let same : c ≡ d = meaning_one text options c d means means' in (
      ap accepted.Po (stats_are ∙ ap (λ (x : Compiled). x.stats) same ∙ sym other_are),
      m_is ∙ ap (λ (x : Compiled). x.catalogue) same ∙ sym n_is,
    )
brings_one (Po text options) (accepted.Po stats) (accepted.Mo entries) m n p q = absurd q
brings_one (Po text options) (accepted.Mo entries) other m n p q = absurd p
brings_one (Mo bytes) (accepted.Mo entries) (accepted.Mo other) m n (is_m, entries_are) (is_n, other_are) =
    let same : m ≡ n = unique_map bytes m n is_m is_n in
    (ap accepted.Mo (entries_are ∙ ap (length {A = Entry}) same ∙ sym other_are), same)
brings_one (Mo bytes) (accepted.Mo entries) (accepted.Po stats) m n p q = absurd q
brings_one (Mo bytes) (accepted.Po stats) other m n p q = absurd p

no_fault : (source : SourceValue) (counts : Accepted) (m : List Entry) → Brings source counts m → (e : StoreFault)
    → IsSourceFault source e → ⊥
no_fault (Po text options) (accepted.Po stats) m (c, means, stats_are, m_is) = no_text_fault text options c means
no_fault (Po text options) (accepted.Mo entries) m p = absurd p
no_fault (Mo bytes) (accepted.Mo entries) m (is_m, entries_are) = no_file_fault bytes m is_m
no_fault (Mo bytes) (accepted.Po stats) m p = absurd p

fault_one : (source : SourceValue) (e f : StoreFault) → IsSourceFault source e → IsSourceFault source f → e ≡ f
fault_one (Po text options) = text_fault_one text options
fault_one (Mo bytes) = file_fault_one bytes

-- ---- jobs

accepted_one : (s t u : StoreValue) (job : JobValue) (counts other : Accepted) → IsAccepted s job counts t
    → IsAccepted s job other u → (counts ≡ other) × (t ≡ u)
accepted_one s t u job counts other (m, brings, adds) (n, brings', adds') =
    let same = brings_one job.source counts other m n brings brings' in
    (same.0, adds_one s t u job.domain job.locale m n same.1 adds adds')

accepted_refused : (s t : StoreValue) (job : JobValue) (counts : Accepted) (e : StoreFault) → e ≢ fault.Memory
    → IsAccepted s job counts t → IsRefused s job e → ⊥
accepted_refused s t job counts e not (m, brings, adds) r =
    added_or_refused (IsSourceFault job.source) (no_fault job.source counts m brings) s t job.domain job.locale m e adds
    (not, r)

refused_one : (s : StoreValue) (job : JobValue) (e f : StoreFault) → e ≢ fault.Memory → f ≢ fault.Memory
    → IsRefused s job e → IsRefused s job f → e ≡ f
refused_one s job e f neither nor p q =
    reason_one (IsSourceFault job.source) (fault_one job.source) s job.domain job.locale e f (neither, p) (nor, q)

-- a refused job says so
refused_parts : (s t : StoreValue) (job : JobValue) (e : StoreFault) → Does s job (Err e) t
    → (e ≢ fault.Memory) × IsRefused s job e × (t ≡ s)
refused_parts s t job fault.Memory h = absurd h
refused_parts s t job e h = ((λ is. absurd (cc is)), h.0, h.1)

does_one : (s t u : StoreValue) (job : JobValue) (o p : Outcome) → Does s job o t → Does s job p u
    → (o ≡ p) × (t ≡ u)
does_one s t u job (Ok counts) (Ok other) (l, a, is) (m, b, is') =
    let same = accepted_one s l m job counts other a b in
    (ap (λ x. Ok x) same.0, is ∙ ap store_after_publish same.1 ∙ sym is')
does_one s t u job (Ok counts) (Err e) (l, a, is) h =
    let r = refused_parts s u job e h in
    absurd (accepted_refused s l job counts e r.0 a r.1)
does_one s t u job (Err e) (Ok counts) h (l, a, is) =
    let r = refused_parts s t job e h in
    absurd (accepted_refused s l job counts e r.0 a r.1)
does_one s t u job (Err e) (Err f) h k =
    let r = refused_parts s t job e h in
    let q = refused_parts s u job f k in
    let same : e ≡ f = refused_one s job e f r.0 q.0 r.1 q.1 in
    (ap (λ x. Err x) same, r.2 ∙ sym q.2)

does_all_one : (s t u : StoreValue) (jobs : List JobValue) (os ps : List Outcome) → DoesAll s jobs os t
    → DoesAll s jobs ps u → (os ≡ ps) × (t ≡ u)
does_all_one s t u [] [] [] h k = (refl, h ∙ sym k)
does_all_one s t u [] [] (p ∷ ps) h k = absurd k
does_all_one s t u [] (o ∷ os) ps h k = absurd h
does_all_one s t u (j ∷ jobs) [] ps h k = absurd h
does_all_one s t u (j ∷ jobs) (o ∷ os) [] h k = absurd k
does_all_one s t u (j ∷ jobs) (o ∷ os) (p ∷ ps) (b, first, rest) (c, first', rest') =
    let one = does_one s b c j o p first first' in
    let P : StoreValue → Type 0 = λ x. DoesAll x jobs os t in
    let others = does_all_one c t u jobs os ps (subst P one.1 rest) rest' in
    (ap (λ x. x ∷ os) one.0 ∙ ap (λ xs. p ∷ xs) others.0, others.1)

pub end_one : HasOneEnd
end_one s after other jobs outcomes others h k = does_all_one (store_after_publish s) after other jobs outcomes others
    h k
