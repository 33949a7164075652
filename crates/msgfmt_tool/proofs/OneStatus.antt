-- Two runs with the same arguments, files and input have one status.
use Rattle.std.proofs.Common.{◌≡◌, ◌∙◌, ap, sym, subst, refl, inl, inr, ℕ, Bool, true, false, List, [], ◌∷◌, Option}
use Rattle.std.proofs.Common.{Some, None, IsSome, unwrap_or}
use Rattle.clap.specs.Kinds.{Kinds}
use Rattle.clap.specs.declared.error.kind.ErrorKind.{ErrorKind}
use Rattle.catalogue.specs.Meaning.{Means, Refuses}
use Rattle.catalogue.specs.declared.LoadFault.{LoadFault}
use Rattle.catalogue.proofs.OneMeaning.{meaning_one, means_or_refuses, refusal_one}
use Rattle.msgfmt_words.specs.Words.{AreFaulty, AreTaken, AskForHelp, Asked, request_in}
use Rattle.devices.specs.Devices.{IsFront, InputSeen}
use Rattle.msgfmt_steps.specs.RunDevices.{FilesSeen, Reads, is_standard, most_read}
use Rattle.msgfmt_tool.specs.Runs.{IsRefused, MakesFile, Run, Runs}
use Rattle.msgfmt_tool.specs.Laws.{BeginAlike, IsSettled}
use Rattle.msgfmt_steps.specs.declared.outcome.Cause.TheVariants.{Words, NoInput, CannotRead, Refused, CannotWrite}
use Rattle.msgfmt_steps.specs.declared.outcome.Cause.TheVariants.{ErrorOutput, Memory}
use Rattle.msgfmt_steps.specs.declared.outcome.Status.{Status}
use Rattle.msgfmt_steps.specs.declared.outcome.Status.TheVariants.{Done, Failed}

-- ---- one text

front_one : (known other : Option (List ℕ)) (text other_text : List ℕ) → other ≡ known → IsSome known
    → IsFront most_read known text → IsFront most_read other other_text → text ≡ other_text
front_one None other text other_text is some front other_front = absurd (cc some)
front_one (Some bytes) other text other_text is some front other_front =
    front ∙ sym (subst (λ o. IsFront most_read o other_text) is other_front)

module _ (run other : Run) (alike : BeginAlike run other) where
  read_one : (standard : Bool) (name text other_text : List ℕ)
      → Reads standard run.files.before run.input name text
      → Reads standard other.files.before other.input name other_text → text ≡ other_text
  read_one true name text other_text r s = front_one run.input.before.left other.input.before.left text other_text
      (ap (λ (i : InputSeen). i.left) alike.input) alike.input_tells r.front s.front
  read_one false name text other_text r s = front_one (run.files.before.content name)
      (other.files.before.content name) text other_text
      (ap (λ (f : FilesSeen). f.content name) alike.files) (alike.files_tell name) r.front s.front

  text_one : (request : Asked) (name other_name text other_text : List ℕ)
      → request.input ≡ Some name → request.input ≡ Some other_name
      → Reads (is_standard name) run.files.before run.input name text
      → Reads (is_standard other_name) other.files.before other.input other_name other_text → text ≡ other_text
  text_one request name other_name text other_text is other_is r s =
      let same : other_name ≡ name = ap (λ o. unwrap_or o name) (sym other_is ∙ is) in
      read_one (is_standard name) name text other_text r
      (subst (λ n. Reads (is_standard n) other.files.before other.input n other_text) same s)

  -- ---- one outcome of the work

  makes_one : (request : Asked) (makes : MakesFile run request) (other_makes : MakesFile other request)
      → makes.compiled ≡ other_makes.compiled
  makes_one request makes other_makes =
      let p = makes.compiles in
      let q = other_makes.compiles in
      let same = text_one request p.name q.name p.text q.text p.input q.input p.read q.read in
      meaning_one q.text request.options makes.compiled other_makes.compiled
      (subst (λ t. Means t request.options makes.compiled) same p.means) q.means

  refusals_one : (request : Asked) (fault other_fault : LoadFault) → IsRefused run request fault
      → IsRefused other request other_fault → fault ≡ other_fault
  refusals_one request fault other_fault p q =
      let same = text_one request p.name q.name p.text q.text p.input q.input p.read q.read in
      let both = refusal_one q.text request.options fault.kind other_fault.kind fault.line other_fault.line
      (subst (λ t. Refuses t request.options fault.kind fault.line) same p.refuses) q.refuses in
      λ k. record { kind = both.0 k; line = both.1 k }

  makes_or_refused : (request : Asked) (fault : LoadFault) → MakesFile run request → IsRefused other request fault → ⊥
  makes_or_refused request fault makes q =
      let p = makes.compiles in
      let same = text_one request p.name q.name p.text q.text p.input q.input p.read q.read in
      means_or_refuses q.text request.options makes.compiled fault.kind fault.line
      (subst (λ t. Means t request.options makes.compiled) same p.means) q.refuses

  refused_or_makes : (request : Asked) (fault : LoadFault) → IsRefused run request fault → MakesFile other request → ⊥
  refused_or_makes request fault p makes =
      let q = makes.compiles in
      let same = text_one request p.name q.name p.text q.text p.input q.input p.read q.read in
      means_or_refuses q.text request.options makes.compiled fault.kind fault.line q.means
      (subst (λ t. Refuses t request.options fault.kind fault.line) same p.refuses)

-- ---- one outcome of the arguments

abbrev first_kind : Kinds → ErrorKind → ErrorKind
first_kind [] k = k
first_kind (l ∷ ks) k = l

not_both : (words : List (List ℕ)) → AreFaulty words → AskForHelp words → ⊥
not_both words (k, is, other) asks = other (ap (λ ks. first_kind ks k) (sym is ∙ asks))

faulty_not_taken : (words : List (List ℕ)) → AreFaulty words → AreTaken words → ⊥
faulty_not_taken words (k, is, other) taken = let no = sym is ∙ taken in absurd (cc no)

help_not_taken : (words : List (List ℕ)) → AskForHelp words → AreTaken words → ⊥
help_not_taken words asks taken = let no = sym asks ∙ taken in absurd (cc no)

named : (o : Option (List ℕ)) (name : List ℕ) → o ≡ None → o ≡ Some name → ⊥
named o name is other = let no = sym is ∙ other in absurd (cc no)

pub status_one : (words : List (List ℕ)) (run other : Run) (status other_status : Status) → BeginAlike run other
    → IsSettled status → IsSettled other_status → Runs run words status → Runs other words other_status
    → status ≡ other_status
status_one words run other Done Done alike s t p q = refl
status_one words run other Done (Failed Words) alike s t (told, inl p) q = absurd (not_both words q.0 p.asks)
status_one words run other Done (Failed Words) alike s t (told, inr p) q = absurd (faulty_not_taken words q.0 p.0)
status_one words run other Done (Failed NoInput) alike s t (told, inl p) q = absurd (help_not_taken words p.asks q.0)
status_one words run other Done (Failed NoInput) alike s t (told, inr p) q =
    absurd (named _ p.1.compiles.name q.1.0 p.1.compiles.input)
status_one words run other Done (Failed (Refused f)) alike s t (told, inl p) q =
    absurd (help_not_taken words p.asks q.0)
status_one words run other Done (Failed (Refused f)) alike s t (told, inr p) q =
    absurd (makes_or_refused run other alike (request_in words) f p.1 q.1)
status_one words run other (Failed Words) Done alike s t p (told, inl q) = absurd (not_both words p.0 q.asks)
status_one words run other (Failed Words) Done alike s t p (told, inr q) = absurd (faulty_not_taken words p.0 q.0)
status_one words run other (Failed Words) (Failed Words) alike s t p q = refl
status_one words run other (Failed Words) (Failed NoInput) alike s t p q = absurd (faulty_not_taken words p.0 q.0)
status_one words run other (Failed Words) (Failed (Refused f)) alike s t p q =
    absurd (faulty_not_taken words p.0 q.0)
status_one words run other (Failed NoInput) Done alike s t p (told, inl q) = absurd (help_not_taken words q.asks p.0)
status_one words run other (Failed NoInput) Done alike s t p (told, inr q) =
    absurd (named _ q.1.compiles.name p.1.0 q.1.compiles.input)
status_one words run other (Failed NoInput) (Failed Words) alike s t p q = absurd (faulty_not_taken words q.0 p.0)
status_one words run other (Failed NoInput) (Failed NoInput) alike s t p q = refl
status_one words run other (Failed NoInput) (Failed (Refused f)) alike s t p q =
    absurd (named _ q.1.name p.1.0 q.1.input)
status_one words run other (Failed (Refused e)) Done alike s t p (told, inl q) =
    absurd (help_not_taken words q.asks p.0)
status_one words run other (Failed (Refused e)) Done alike s t p (told, inr q) =
    absurd (refused_or_makes run other alike (request_in words) e p.1 q.1)
status_one words run other (Failed (Refused e)) (Failed Words) alike s t p q =
    absurd (faulty_not_taken words q.0 p.0)
status_one words run other (Failed (Refused e)) (Failed NoInput) alike s t p q =
    absurd (named _ p.1.name q.1.0 p.1.input)
status_one words run other (Failed (Refused e)) (Failed (Refused f)) alike s t p q =
    ap (λ x. Failed (Refused x)) (refusals_one run other alike (request_in words) e f p.1 q.1)
status_one words run other (Failed CannotRead) status alike s t p q = absurd s
status_one words run other (Failed CannotWrite) status alike s t p q = absurd s
status_one words run other (Failed ErrorOutput) status alike s t p q = absurd s
status_one words run other (Failed Memory) status alike s t p q = absurd s
status_one words run other status (Failed CannotRead) alike s t p q = absurd t
status_one words run other status (Failed CannotWrite) alike s t p q = absurd t
status_one words run other status (Failed ErrorOutput) alike s t p q = absurd t
status_one words run other status (Failed Memory) alike s t p q = absurd t

pub file_one : (request : Asked) (run other : Run) → BeginAlike run other → (makes : MakesFile run request)
    (other_makes : MakesFile other request) → makes.compiled ≡ other_makes.compiled
file_one request run other alike = makes_one run other alike request
