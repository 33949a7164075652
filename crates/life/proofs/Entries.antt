-- Requests and their replies, one after another.
use Rattle.life.proofs.Common.{AllZip, get_or, Option, None, Some, ◌≡◌, ◌⊎◌, ℕ, ◌+◌, ◌<◌, List, [], ◌∷◌, ◌++◌, take}
use Rattle.life.proofs.Common.{length, String, refl, sym, ap, ◌∙◌, subst, append_assoc, ⊎_elim, take_more, append-nil}
use Rattle.life.proofs.Common.{LoadValue, QueryValue, joined_loads, version_of, StartsWith, SeenValue, Reply, Act}
use Rattle.life.proofs.Common.{Enters}
use Rattle.life.proofs.Common.{IsLearning, AreTexts, Leads, LeadsAll, queries_in, AreTextsOf, IsTold, IsReplyTo}
use Rattle.life.proofs.Common.{AreReplies, looked_up, learning_acts, acts_of_one, acts_for, IsAnswered}
use Rattle.std.specs.declared.alloc.Global.{Global}
use Rattle.std.specs.String.{string_bytes}
use Rattle.std.proofs.lemmas.Slice.Zip.{all_zipped_more, AllZip-long}
use Rattle.live_set.specs.Asks.{IsAnswer as HasText}
use Rattle.life.specs.declared.client.Request.{Request}
use Rattle.life.proofs.Calls.{leads_append, learns, learns_nothing, learns_all, either_begins}

-- ---- one entry

texts_are : (loads : List LoadValue) (queries : List QueryValue) (texts : List (String Global))
    → AreTextsOf loads queries texts → AreTexts loads (looked_up queries texts)
texts_are loads [] [] are = tt
texts_are loads (q ∷ qs) (t ∷ ts) are = (are.0, texts_are loads qs ts are.1)
texts_are loads _ _ are = absurd are

-- one text more
pub texts_more : (loads : List LoadValue) (queries : List QueryValue) (i : ℕ) (query : QueryValue)
    (texts : List (String Global)) (text : String Global) → i < length queries → query ≡ get_or queries i query
    → AreTextsOf loads (take i queries) texts → HasText loads query (string_bytes text)
    → AreTextsOf loads (take (i + 1) queries) (texts ++ text ∷ [])
texts_more loads queries i query texts text below is all one =
    let R : QueryValue → String Global → Type 0 = λ q t. HasText loads q (string_bytes t) in
    let taken : take (i + 1) queries ≡ take i queries ++ query ∷ [] = take_more queries i query below
    ∙ ap (λ x. take i queries ++ x ∷ []) (sym is) in
    subst (λ (l : List QueryValue). AllZip R l (texts ++ text ∷ [])) (sym taken)
    (all_zipped_more R (take i queries) texts query text all one)

-- a reply without a notice
pub plain_answers : (queries : List QueryValue) (seen next : List (List LoadValue)) (reply : Reply)
    → reply.learnt ≡ None → StartsWith next seen → reply.version ≡ version_of next
    → AreTextsOf (joined_loads next) queries reply.texts.items → IsAnswered queries seen next reply
plain_answers queries seen next reply none later version texts =
    let R : QueryValue → String Global → Type 0 = λ q t. HasText (joined_loads next) q (string_bytes t) in
    let entry : Act = Enters reply.version (looked_up queries reply.texts.items) in
    let one : Leads seen entry next = record {
      later = later;
      version_is = version;
      texts = texts_are (joined_loads next) queries reply.texts.items texts;
    } in
    record {
      texts = AllZip-long R queries reply.texts.items texts;
      leads = subst (λ (o : Option ℕ). LeadsAll seen (learning_acts o ++ entry ∷ []) next) (sym none) (next, one, refl);
    }

-- a reply with a notice, which was learnt before the entry
pub told_answers : (queries : List QueryValue) (seen told next : List (List LoadValue)) (reply : Reply) (version : ℕ)
    → reply.learnt ≡ Some version → IsLearning seen version told → StartsWith next told
    → reply.version ≡ version_of next → AreTextsOf (joined_loads next) queries reply.texts.items
    → IsAnswered queries seen next reply
told_answers queries seen told next reply version some learns later is texts =
    let R : QueryValue → String Global → Type 0 = λ q t. HasText (joined_loads next) q (string_bytes t) in
    let entry : Act = Enters reply.version (looked_up queries reply.texts.items) in
    let one : Leads told entry next = record {
      later = later;
      version_is = is;
      texts = texts_are (joined_loads next) queries reply.texts.items texts;
    } in
    record {
      texts = AllZip-long R queries reply.texts.items texts;
      leads = subst (λ (o : Option ℕ). LeadsAll seen (learning_acts o ++ entry ∷ []) next) (sym some)
          (told, learns, (next, one, refl));
    }

-- `Lookups::learn`, and then an entry
pub learnt_answers : (queries : List QueryValue) (old notice told next : SeenValue) (reply : Reply)
    → reply.learnt ≡ Some (version_of notice.batches)
    → StartsWith told.batches old.batches × StartsWith told.batches notice.batches
    → (told ≡ old) ⊎ (told ≡ notice) → StartsWith next.batches told.batches
    → reply.version ≡ version_of next.batches → AreTextsOf (joined_loads next.batches) queries reply.texts.items
    → IsAnswered queries old.batches next.batches reply
learnt_answers queries old notice told next reply some longer one later is texts =
    told_answers queries old.batches told.batches next.batches reply (version_of notice.batches) some
    (learns old told notice longer one) later is texts

-- `Reader::enter_after` of a snapshot store
pub entered_answers : (queries : List QueryValue) (old notice next : SeenValue) (reply : Reply)
    → reply.learnt ≡ Some (version_of notice.batches) → StartsWith next.batches notice.batches
    → StartsWith next.batches old.batches → reply.version ≡ version_of next.batches
    → AreTextsOf (joined_loads next.batches) queries reply.texts.items
    → IsAnswered queries old.batches next.batches reply
entered_answers queries old notice next reply some entered later is texts =
    let version : ℕ = version_of notice.batches in
    ⊎_elim
    (λ (older : StartsWith old.batches notice.batches).
    told_answers queries old.batches old.batches next.batches reply version some
    (learns_nothing old.batches notice.batches older) later is texts)
    (λ (newer : StartsWith notice.batches old.batches).
    told_answers queries old.batches notice.batches next.batches reply version some
    (learns_all old.batches notice.batches newer) entered is texts)
    (either_begins next.batches old.batches notice.batches later entered)

-- ---- all requests

acts_more : (requests : List Request) (replies : List Reply) (request : Request) (reply : Reply)
    → AreReplies requests replies
    → acts_for (requests ++ request ∷ []) (replies ++ reply ∷ [])
    ≡ acts_for requests replies ++ acts_of_one (queries_in request) reply
acts_more [] [] request reply are = append-nil (acts_of_one (queries_in request) reply)
acts_more (r ∷ rs) (p ∷ ps) request reply are =
    let first : List Act = acts_of_one (queries_in r) p in
    ap (λ (l : List Act). first ++ l) (acts_more rs ps request reply are.1)
    ∙ sym (append_assoc first (acts_for rs ps) (acts_of_one (queries_in request) reply))
acts_more _ _ request reply are = absurd are

-- some first requests are answered
pub record Replied (first now : List (List LoadValue)) (requests : List Request) (replies : List Reply) : Type 0 where
  pub each : AreReplies requests replies
  pub leads : LeadsAll first (acts_for requests replies) now

-- one request more
pub replied_more : (first now next : List (List LoadValue)) (requests : List Request) (i : ℕ) (request : Request)
    (replies pushed : List Reply) (reply : Reply) → i < length requests → request ≡ get_or requests i request
    → Replied first now (take i requests) replies → IsTold request reply.learnt
    → IsAnswered (queries_in request) now next reply → pushed ≡ replies ++ reply ∷ []
    → Replied first next (take (i + 1) requests) pushed
replied_more first now next requests i request replies pushed reply below is all told one items =
    let taken : take (i + 1) requests ≡ take i requests ++ request ∷ [] = take_more requests i request below
    ∙ ap (λ x. take i requests ++ x ∷ []) (sym is) in
    let fits : IsReplyTo request reply = record { told = told; texts = one.texts } in
    let mine : List Act = acts_of_one (queries_in request) reply in
    let acts = acts_more (take i requests) replies request reply all.each in
    let more : Replied first next (take i requests ++ request ∷ []) (replies ++ reply ∷ []) = record {
      each = all_zipped_more IsReplyTo (take i requests) replies request reply all.each fits;
      leads = subst (λ (l : List Act). LeadsAll first l next) (sym acts)
          (leads_append first (acts_for (take i requests) replies) now mine next all.leads one.leads);
    } in
    subst (λ (l : List Reply). Replied first next (take (i + 1) requests) l) (sym items)
    (subst (λ (l : List Request). Replied first next l (replies ++ reply ∷ [])) (sym taken) more)
