-- The look-ups of a reader until it enters another version or leaves are answered over the version that it is in.
use Rattle.c_handles.proofs.Common.{OthersStay, ◌≡◌, ℕ, ◌==◌, Bool, false, if◌then◌else◌, List, [], ◌∷◌, ◌++◌, sym, ap}
use Rattle.c_handles.proofs.Common.{◌∙◌, subst, inl, inr, refl, ◌&&◌, Option, None, Some, MatchOption, take, LoadValue}
use Rattle.c_handles.proofs.Common.{joined_loads, SeenValue, LooksAtIn, Handle, Open, Handles, Call, MakesReader}
use Rattle.c_handles.proofs.Common.{EntersAfter, Leaves, Looks, LooksAt, CountsReader, ClosesReader, AgreesWith, IsOpen}
use Rattle.c_handles.proofs.Common.{Makes, Turns, IsMadeAt, EntersIn, EntersAfterIn, DoesToReaders, IsTrace, no_fault}
use Rattle.c_handles.proofs.Common.{IsAnswerFrom, IsAnswerIn, reader_in, HeldSet, Origin, Lent, IsEntered}
use Rattle.c_handles.proofs.Common.{IsEnteredAfter, IsAfter, Look, AreAnswered, ends_entry, look_in, looks_in, by_test}
use Rattle.c_answers.specs.Answering.{IsClosedAnswer, Question, key_of}
use Rattle.mo_image.specs.Entry.{Entry}
use Rattle.live_set.specs.SetPlaces.{listed_places, map_among}
use Rattle.live_set.specs.declared.places.Places.{Places}
use Rattle.live_set.specs.Sets.{SetValue, fold}
use Rattle.c_handles.specs.Calls.{Enters}
use Rattle.c_sets.proofs.Reading.{answered_from as over_loads}
use Rattle.c_handles.proofs.Slots.{changed, equal, opened_with, made_at, turned_at}

-- the reader is in the version of these batches
abbrev pub IsInOrigin : List (List LoadValue) → Origin → Type 0
IsInOrigin v origin = MatchOption (reader_in origin) ⊥ (λ r. r.batches ≡ v)

abbrev pub IsIn : List (List LoadValue) → Handle HeldSet → Type 0
IsIn v (Open held) = IsInOrigin v held.origin
IsIn v _ = ⊥

-- ---- entries that are refused leave the reader where it is

entered_fault : (v : List (List LoadValue)) (o : Origin) (f : ℕ) (new : HeldSet)
    → IsEntered (record { origin = o; fault = f }) new → IsInOrigin v o → new.fault ≡ no_fault
entered_fault v (Lent r) f new is now = is.1
entered_fault v _ f new is now = absurd now

-- a reader that is told to be busy is where it was
stays_after : (v : List (List LoadValue)) (r n : SeenValue) (o : Origin) (f : ℕ)
    → IsAfter r n (record { origin = o; fault = f }) → r.batches ≡ v → (f == no_fault) ≡ false → IsInOrigin v o
stays_after v r n (Lent r') f (inl (none, sees)) now fails = absurd (cc (fails, ap (λ (k : ℕ). k == no_fault) none))
stays_after v r n (Lent r') f (inr (busy, same)) now fails = ap (λ (x : SeenValue). x.batches) same ∙ now
stays_after v r n _ f is now fails = absurd is

stays_told : (v : List (List LoadValue)) (o : Origin) (f : ℕ) (notice : Option SeenValue) (new : HeldSet)
    → IsEnteredAfter (record { origin = o; fault = f }) (record { notice = notice }) new → IsInOrigin v o
    → (new.fault == no_fault) ≡ false → IsInOrigin v new.origin
stays_told v (Lent r) f None new is now fails = absurd (cc (fails, ap (λ (k : ℕ). k == no_fault) is.1))
stays_told v (Lent r) f (Some n) new is now fails = stays_after v r n new.origin new.fault is.1 now fails
stays_told v _ f notice new is now fails = absurd now

-- ---- a look-up

answered_from : (v : List (List LoadValue)) (o : Origin) (domain languages : List ℕ) (q : Question) (text : List ℕ)
    → IsInOrigin v o → IsAnswerFrom o domain languages q text
    → AreAnswered (joined_loads v) (record { domain = domain; languages = languages; question = q; text = text } ∷ [])
answered_from v (Lent r) domain languages q text now is = subst
    (λ (l : List (List LoadValue)). AreAnswered (joined_loads l)
    (record { domain = domain; languages = languages; question = q; text = text } ∷ [])) now (is, tt)
answered_from v _ domain languages q text now is = absurd now

answered_here : (v : List (List LoadValue)) (x : Handle HeldSet) (domain languages : List ℕ) (q : Question)
    (text : List ℕ) → IsIn v x → IsOpen (λ r. IsAnswerFrom r.origin domain languages q text) x
    → AreAnswered (joined_loads v) (record { domain = domain; languages = languages; question = q; text = text } ∷ [])
answered_here v (Open a) domain languages q text now is = answered_from v a.origin domain languages q text now is
answered_here v _ domain languages q text now is = absurd now

-- ---- a look-up at listed places

no_entry : (q : Question) (text : List ℕ) → IsClosedAnswer [] q text → text ≡ []
no_entry q [] is = refl
no_entry q (b ∷ bs) is = absurd (cc (is))

-- no places
nowhere : (held : List LoadValue) (places : Places) (q : Question) (text : List ℕ) → places.count ≡ 0
    → IsClosedAnswer (map_among held (listed_places places) (key_of q)) q text → text ≡ []
nowhere held places q text none is = no_entry q text
    (subst (λ (n : ℕ). IsClosedAnswer (map_among held (take n places.places) (key_of q)) q text) none is)

answered_at : (v : List (List LoadValue)) (o : Origin) (f : ℕ) (domain languages : List ℕ) (places : Places)
    (q : Question) (text : List ℕ) → IsInOrigin v o
    → LooksAtIn domain languages places q text (record { origin = o; fault = f })
    → AreAnswered (joined_loads v) (record { domain = domain; languages = languages; question = q; text = text } ∷ [])
answered_at v (Lent r) f domain languages places q text now is =
    let set : SetValue = fold (joined_loads r.batches) in
    let found : IsAnswerIn set domain languages q text = record {
      asked = λ d l. subst (λ (m : List Entry). IsClosedAnswer m q text)
          ((is.places_are.asked d l).answers is.few (key_of q)) is.answer;
      no_domain = λ d. nowhere set.held places q text (is.places_are.no_domain d) is.answer;
      no_languages = λ l. nowhere set.held places q text (is.places_are.no_languages l) is.answer;
    } in
    answered_from v (Lent r) domain languages q text now (over_loads (Lent r) domain languages q text found)
answered_at v _ f domain languages places q text now is = absurd now

answered_at_here : (v : List (List LoadValue)) (x : Handle HeldSet) (domain languages : List ℕ) (places : Places)
    (q : Question) (text : List ℕ) → IsIn v x → IsOpen (LooksAtIn domain languages places q text) x
    → AreAnswered (joined_loads v) (record { domain = domain; languages = languages; question = q; text = text } ∷ [])
answered_at_here v (Open a) domain languages places q text now is =
    answered_at v a.origin a.fault domain languages places q text now is
answered_at_here v _ domain languages places q text now is = absurd now

-- ---- a call

record Continues (v : List (List LoadValue)) (ends : Bool) (look : List Look) (y : Handle HeldSet) : Type 0 where
  pub answered : AreAnswered (joined_loads v) look
  pub stays : ends ≡ false → IsIn v y

same_readers : (v : List (List LoadValue)) (k : ℕ) (before after : ℕ → Handle HeldSet) → after ≡ before
    → IsIn v (before k) → Continues v false [] (after k)
same_readers v k before after same now = record {
  answered = tt;
  stays = λ fails. subst (λ (f : ℕ → Handle HeldSet). IsIn v (f k)) (sym same) now;
}

-- a look-up by reader n, if it is this one
looked : (v : List (List LoadValue)) (k n : ℕ) (before after : ℕ → Handle HeldSet) (Is : HeldSet → Type 0) (look : Look)
    → IsOpen Is (before n) × (after ≡ before) → (IsOpen Is (before k) → AreAnswered (joined_loads v) (look ∷ []))
    → IsIn v (before k) → Continues v false (if k == n then look ∷ [] else []) (after k)
looked v k n before after Is look is answers now = record {
  answered = by_test (k == n)
      (λ yes_. subst (λ (b : Bool). AreAnswered (joined_loads v) (if b then look ∷ [] else [])) (sym yes_)
      (answers (subst (λ (j : ℕ). IsOpen Is (before j)) (sym (equal k n yes_)) is.0)))
      (λ no_. subst (λ (b : Bool). AreAnswered (joined_loads v) (if b then look ∷ [] else [])) (sym no_) tt);
  stays = λ fails. subst (λ (f : ℕ → Handle HeldSet). IsIn v (f k)) (sym is.1) now;
}

-- a call that ends the reader's entry
ended : (v : List (List LoadValue)) (k n : ℕ) (before after : ℕ → Handle HeldSet) → OthersStay n before after
    → IsIn v (before k) → Continues v (k == n) [] (after k)
ended v k n before after others now = record {
  answered = tt;
  stays = changed k n before after (λ b x. b ≡ false → IsIn v x) others (λ fails. now)
      (λ same fails. absurd (cc (fails)));
}

looks_step : (v : List (List LoadValue)) (k : ℕ) (h : Handles) (call : Call) (next : ℕ → Handle HeldSet)
    → DoesToReaders h call next → IsIn v (h.readers k)
    → Continues v (ends_entry k call) (look_in k call) (next k)
looks_step v k h (MakesReader entrance n told version fault) next is now =
    let e = opened_with (λ e. Makes (IsMadeAt e told version fault) n h.readers next) (h.entrances entrance) is in
    record {
      answered = tt;
      stays = made_at (IsMadeAt e.0 told version fault) k n h.readers next
          (λ b x y. IsIn v x → (b && fault == no_fault) ≡ false → IsIn v y) e.1 (λ now fails. now)
          (λ r made now fails. absurd now) now;
    }
looks_step v k h (Enters n version fault) next is now = record {
  answered = tt;
  stays = turned_at (EntersIn version fault) k n h.readers next
      (λ b x y. IsIn v x → (b && fault == no_fault) ≡ false → IsIn v y) is (λ now fails. now)
      (λ a c one now fails.
      let none : fault ≡ no_fault = one.numbers.fault_is ∙ entered_fault v a.origin a.fault c one.entered now in
      absurd (cc (fails, ap (λ (n : ℕ). n == no_fault) none))) now;
}
looks_step v k h (EntersAfter n notice told version fault) next is now =
    let m = opened_with (λ m. Turns (EntersAfterIn m told version fault) n h.readers next) (h.notices notice) is in
    record {
      answered = tt;
      stays = turned_at (EntersAfterIn m.0 told version fault) k n h.readers next
          (λ b x y. IsIn v x → (b && fault == no_fault) ≡ false → IsIn v y) m.1 (λ now fails. now)
          (λ a c one now fails. stays_told v a.origin a.fault m.0.notice c one.entered now
          (ap (λ (k : ℕ). k == no_fault) (sym one.numbers.fault_is) ∙ fails)) now;
    }
looks_step v k h (Leaves n) next is now = ended v k n h.readers next is.others now
looks_step v k h (Looks n domain languages question text) next is now =
    looked v k n h.readers next (λ r. IsAnswerFrom r.origin domain languages question text)
    (record { domain = domain; languages = languages; question = question; text = text }) is
    (λ is. answered_here v (h.readers k) domain languages question text now is) now
looks_step v k h (LooksAt n domain languages places question text) next is now =
    looked v k n h.readers next (LooksAtIn domain languages places question text)
    (record { domain = domain; languages = languages; question = question; text = text }) is
    (λ is. answered_at_here v (h.readers k) domain languages places question text now is) now
looks_step v k h (CountsReader n which number) next is now = same_readers v k h.readers next is.1 now
looks_step v k h (AgreesWith store n) next is now = same_readers v k h.readers next is.1 now
looks_step v k h (ClosesReader n) next is now = ended v k n h.readers next is.others now
looks_step v k h _ next is now = same_readers v k h.readers next is now

-- ---- a trace

answered_append : (loads : List LoadValue) (a b : List Look) → AreAnswered loads a → AreAnswered loads b
    → AreAnswered loads (a ++ b)
answered_append loads [] b p q = q
answered_append loads (l ∷ ls) b p q = (p.0, answered_append loads ls b p.1 q)

pub looks_answered : (v : List (List LoadValue)) (k : ℕ) (calls : List Call) (h last : Handles) → IsTrace h calls last
    → IsIn v (h.readers k) → AreAnswered (joined_loads v) (looks_in k calls)
looks_answered v k [] h last is now = tt
looks_answered v k (call ∷ calls) h last (between, step, rest) now =
    let one = looks_step v k h call between.readers step.readers now in
    by_test (ends_entry k call)
    (λ yes_. subst
    (λ (b : Bool). AreAnswered (joined_loads v) (if b then [] else look_in k call ++ looks_in k calls)) (sym yes_) tt)
    (λ no_. subst
    (λ (b : Bool). AreAnswered (joined_loads v) (if b then [] else look_in k call ++ looks_in k calls)) (sym no_)
    (answered_append (joined_loads v) (look_in k call) (looks_in k calls) one.answered
    (looks_answered v k calls between last rest (one.stays no_))))
