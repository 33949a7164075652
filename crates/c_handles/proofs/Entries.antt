-- The acts of a reader lead from what it had seen to what it has seen.
use Rattle.c_handles.proofs.Common.{◌≡◌, ◌⊎◌, ℕ, ◌≤◌, List, [], ◌∷◌, ◌++◌, map, refl, sym, subst, arith, max, ⊎_elim}
use Rattle.c_handles.proofs.Common.{Option, None, Some, ⊤, LoadValue, joined_loads, version_of, StartsWith, GoOn, Look}
use Rattle.c_handles.proofs.Common.{ReaderAct, Entered, Told, telling, AreAnswered, learns_nothing, learns_all}
use Rattle.c_handles.proofs.Common.{either_begins}
use Rattle.life.specs.Acts.{Act, Enters, Learns, IsLearning, Leads, LeadsAll}
use Rattle.desks.proofs.Answers.{version_grows}
use Rattle.life.proofs.Weaving.{learnt_version, leads_all_begins as life_begins}

-- an entry of these batches, with the look-ups in it
pub record IsReading (seen : List (List LoadValue)) (version : ℕ) (looks : List Look) (next : List (List LoadValue))
    : Type 0 where
  pub later : StartsWith next seen
  pub version_is : version ≡ version_of next
  pub answered : AreAnswered (joined_loads next) looks

abbrev pub ReaderLeads : List (List LoadValue) → ReaderAct → List (List LoadValue) → Type 0
ReaderLeads seen (Entered version looks) next = IsReading seen version looks next
ReaderLeads seen (Told version) next = IsLearning seen version next

abbrev pub ReaderLeadsAll : List (List LoadValue) → List ReaderAct → List (List LoadValue) → Type 0
ReaderLeadsAll seen [] end = end ≡ seen
ReaderLeadsAll seen (act ∷ acts) end = (next : List (List LoadValue)) × ReaderLeads seen act next
    × ReaderLeadsAll next acts end

pub leads_append : (a : List (List LoadValue)) (xs : List ReaderAct) (b : List (List LoadValue)) (ys : List ReaderAct)
    (c : List (List LoadValue)) → ReaderLeadsAll a xs b → ReaderLeadsAll b ys c → ReaderLeadsAll a (xs ++ ys) c
leads_append a [] b ys c is more = subst (λ (x : List (List LoadValue)). ReaderLeadsAll x ys c) is more
leads_append a (x ∷ xs) b ys c (next, one, rest) more = (next, one, leads_append next xs b ys c rest more)

-- ---- an entry after what was told

-- what was told is the version of a beginning of these batches
abbrev pub IsToldIn : Option ℕ → List (List LoadValue) → Type 0
IsToldIn None next = ⊤
IsToldIn (Some version) next = (notice : List (List LoadValue)) × (version ≡ version_of notice) × StartsWith next notice

one_entry : (seen : List (List LoadValue)) (version : ℕ) (looks : List Look) (next : List (List LoadValue))
    → StartsWith next seen → version ≡ version_of next → AreAnswered (joined_loads next) looks
    → ReaderLeadsAll seen (Entered version looks ∷ []) next
one_entry seen version looks next later is answered =
    (next, record { later = later; version_is = is; answered = answered }, refl)

pub entry_leads : (seen : List (List LoadValue)) (told : Option ℕ) (version : ℕ) (looks : List Look)
    (next : List (List LoadValue)) → StartsWith next seen → IsToldIn told next → version ≡ version_of next
    → AreAnswered (joined_loads next) looks → ReaderLeadsAll seen (telling told ++ Entered version looks ∷ []) next
entry_leads seen None version looks next later told is answered = one_entry seen version looks next later is answered
entry_leads seen (Some old) version looks next later (notice, same, begins) is answered =
    ⊎_elim
    (λ (longer : StartsWith seen notice). (
      seen,
      learns_so seen (learns_nothing seen notice longer),
      one_entry seen version looks next later is answered,
    ))
    (λ (newer : StartsWith notice seen). (
      notice,
      learns_so notice (learns_all seen notice newer),
      one_entry notice version looks next begins is answered,
    ))
    (either_begins next seen notice later begins) where
      learns_so : (now : List (List LoadValue)) → IsLearning seen (version_of notice) now → IsLearning seen old now
      learns_so now is = subst (λ (v : ℕ). IsLearning seen v now) (sym same) is

-- ---- the same acts without their texts, as acts of a life

abbrev pub plain : ReaderAct → Act
plain (Entered version looks) = Enters version []
plain (Told version) = Learns version

plain_leads : (a : List (List LoadValue)) (act : ReaderAct) (b : List (List LoadValue)) → ReaderLeads a act b
    → Leads a (plain act) b
plain_leads a (Entered version looks) b leads =
    record { later = leads.later; version_is = leads.version_is; texts = tt }
plain_leads a (Told version) b leads = leads

pub plain_leads_all : (a : List (List LoadValue)) (acts : List ReaderAct) (b : List (List LoadValue))
    → ReaderLeadsAll a acts b → LeadsAll a (map plain acts) b
plain_leads_all a [] b is = is
plain_leads_all a (act ∷ acts) b (next, one, rest) =
    (next, plain_leads a act next one, plain_leads_all next acts b rest)

pub leads_all_begins : (a : List (List LoadValue)) (acts : List ReaderAct) (b : List (List LoadValue))
    → ReaderLeadsAll a acts b → StartsWith b a
leads_all_begins a acts b leads = life_begins a (map plain acts) b (plain_leads_all a acts b leads)

-- ---- versions that never fall

pub goes_on : (seen : ℕ) (a : List (List LoadValue)) (acts : List ReaderAct) (b : List (List LoadValue))
    → seen ≡ version_of a → ReaderLeadsAll a acts b → GoOn seen acts
goes_on seen a [] b n is = tt
goes_on seen a (Entered version looks ∷ acts) b n (next, one, rest) =
    let le : version_of a ≤ version_of next = version_grows next a one.later in (
      omega (arith, n, le, one.version_is),
      (joined_loads next, one.version_is, one.answered),
      goes_on version next acts b one.version_is rest,
    )
goes_on seen a (Told version ∷ acts) b n (next, one, rest) =
    goes_on (max seen version) next acts b (learnt_version seen version a next n one) rest
