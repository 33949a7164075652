-- A text has at most one outcome.
use Rattle.po_text.proofs.Kit.{◌≡◌, ℕ, ◌<◌, ◌≤◌, List, [], ◌∷◌, ◌++◌, length, Some, None, refl, sym, ap, ◌∙◌, subst}
use Rattle.po_text.proofs.Kit.{inl, inr, arith, append_assoc, ◌⊎◌, map-append, append-nil, PoKind, BadText, BadOrder}
use Rattle.po_text.proofs.Kit.{Token, Text, Lexeme, Entry, Derives, all_tokens, texts, IsOpenList, ClosesAt, ClosesBy}
use Rattle.po_text.proofs.Kit.{Start, begin, no_flags, State, at_state, drafts_at, start, Reads, IsFaulty, body, Gives}
use Rattle.po_text.specs.declared.fault.PoKind.TheVariants.{TooLarge, NotUtf8, BadIndex}
use Rattle.po_text.specs.Entries.{IsKeyword, PutsFour, IsIndexStage}
use Rattle.po_text.specs.Outcome.{HasGrammarFault, IsReadable, IsUndecodable, Refuses}
use Rattle.po_text.proofs.Drafts.{drafts_one}
use Rattle.po_text.proofs.Feeding.{chain_feeds, feeds_stage}
use Rattle.po_text.proofs.Grammar.{run, live_front, open_run}
use Rattle.po_text.proofs.OpenLists.{taken_open, two_cuts}
use Rattle.po_text.proofs.OneReading.{Spells-one}
use Rattle.po_text.proofs.OneFault.{HasFault-one, no_both}

-- ---- one list of entries

pub derives_one : (found : List Lexeme) (entries others : List Entry) → Derives found entries → Derives found others
    → entries ≡ others
derives_one found entries others (later, chain) (later', chain') =
    let (q, done, d, f, k, b, whole, end) = chain_feeds entries [] later found chain Start [] (begin 0 no_flags None) 0
    tt in
    let (q', done', d', f', k', b', whole', end') = chain_feeds others [] later' found chain' Start []
    (begin 0 no_flags None) 0 tt in
    let same : at_state q done d f k ≡ at_state q' done' d' f' k' = cc (end, end') in
    drafts_one entries others (sym whole ∙ ap (λ (s : State). drafts_at s.stage s.done s.draft) same ∙ whole')

-- what derives entries is open
derives_open : (found : List Lexeme) (entries : List Entry) → Derives found entries → IsOpenList (all_tokens found)
derives_open found entries (later, chain) =
    let (q, done, d, f, k, b, whole, end) = chain_feeds entries [] later found chain Start [] (begin 0 no_flags None) 0
    tt in
    taken_open (all_tokens found) q (feeds_stage found start (at_state q done d f k) end)

-- the front of an open list is open
front_open : (xs ys : List Lexeme) → IsOpenList (all_tokens (xs ++ ys)) → IsOpenList (all_tokens xs)
front_open xs ys o =
    let (p, at) = open_run (all_tokens (xs ++ ys)) o in
    let cut : run (Some Start) (all_tokens xs ++ all_tokens ys)
    ≡ Some p = ap (λ (ts : List Token). run (Some Start) ts) (sym (map-append (λ (l : Lexeme). l.token) xs ys))
    ∙ at in
    let (r, here) = live_front Start p (all_tokens xs) (all_tokens ys) cut in
    taken_open (all_tokens xs) r here

closed_whole : (found : List Lexeme) (kind : PoKind) (line : ℕ) → ClosesAt found kind line
    → ¬ IsOpenList (all_tokens found)
closed_whole found kind line c o =
    c.closed (front_open (c.before ++ (c.x ∷ [])) c.after (subst (λ (ls : List Lexeme). IsOpenList (all_tokens ls))
    (c.split ∙ sym (append_assoc c.before (c.x ∷ []) c.after)) o))

-- ---- one grammar fault

-- the later of two closing tokens would follow a front that is already closed
not_later : (before : List Lexeme) (x : Lexeme) (c : List Lexeme) (before' : List Lexeme) → before' ≡ before ++ (x ∷ c)
    → IsOpenList (all_tokens before') → ¬ IsOpenList (all_tokens (before ++ (x ∷ []))) → ⊥
not_later before x c before' is o closed = closed (front_open (before ++ (x ∷ [])) c
    (subst (λ (ls : List Lexeme). IsOpenList (all_tokens ls)) (is ∙ sym (append_assoc before (x ∷ []) c)) o))

same_index : (before before' : List Lexeme) (x x' : Lexeme) (after after' : List Lexeme) → before ++ (x ∷ after)
    ≡ before' ++ (x' ∷ after') → IsOpenList (all_tokens before) → IsOpenList (all_tokens before')
    → ¬ IsOpenList (all_tokens (before ++ (x ∷ []))) → ¬ IsOpenList (all_tokens (before' ++ (x' ∷ [])))
    → (before ≡ before') × (x ≡ x')
same_index before before' x x' after after' e o o' c c' = elim (two_cuts before (x ∷ after) before' (x' ∷ after') e) [
  | inl (mid, is) ↦ later mid is
  | inr (mid, is, rest) ↦ earlier mid is rest
]
  where
    later : (mid : List Lexeme) → before' ≡ before ++ mid → (before ≡ before') × (x ≡ x')
    later [] is =
        let same : before' ≡ before = is ∙ append-nil before in
        let tails : x ∷ after ≡ x' ∷ after' = cancel before (x ∷ after) (x' ∷ after')
        (e ∙ ap (λ (b : List Lexeme). b ++ (x' ∷ after')) same) in
        (sym same, cc tails)
      where
        cancel : (xs ys zs : List Lexeme) → xs ++ ys ≡ xs ++ zs → ys ≡ zs
        cancel [] ys zs f = f
        cancel (y ∷ xs) ys zs f = cancel xs ys zs (cc f)
    later (y ∷ mid) is =
        let tails : x ∷ after ≡ (y ∷ mid) ++ (x' ∷ after') = cancel before (x ∷ after) ((y ∷ mid) ++ (x' ∷ after'))
        (e ∙ ap (λ (b : List Lexeme). b ++ (x' ∷ after')) is ∙ append_assoc before (y ∷ mid) (x' ∷ after')) in
        let head : x ≡ y = cc tails in
        absurd (not_later before x mid before' (is ∙ ap (λ (l : Lexeme). before ++ (l ∷ mid)) (sym head)) o' c)
      where
        cancel : (xs ys zs : List Lexeme) → xs ++ ys ≡ xs ++ zs → ys ≡ zs
        cancel [] ys zs f = f
        cancel (y ∷ xs) ys zs f = cancel xs ys zs (cc f)

    earlier : (mid : List Lexeme) → before ≡ before' ++ mid → mid ++ (x ∷ after) ≡ x' ∷ after' → (before ≡ before')
        × (x ≡ x')
    earlier [] is rest = (is ∙ append-nil before', cc rest)
    earlier (y ∷ mid) is rest =
        let head : y ≡ x' = cc rest in
        absurd (not_later before' x' mid before (is ∙ ap (λ (l : Lexeme). before' ++ (l ∷ mid)) head) o c')

-- ---- one kind and line

-- the last keyword followed only by strings is unique
no_keyword : (t : Token) → IsKeyword t → (b : List ℕ) → t ≡ Text b → ⊥
no_keyword t (inl e) b f = absurd (cc (e, f))
no_keyword t (inr e) b f = absurd (cc (e, f))

keyword_in_texts : (front : List Lexeme) (keyword : Lexeme) (others ls : List Lexeme) (parts : List (List ℕ))
    → IsKeyword keyword.token → ls ≡ front ++ (keyword ∷ others) → all_tokens ls ≡ texts parts → ⊥
keyword_in_texts [] keyword others [] parts kw e f = absurd (cc e)
keyword_in_texts (y ∷ front) keyword others [] parts kw e f = absurd (cc e)
keyword_in_texts front keyword others (l ∷ ls) [] kw e f = absurd (cc f)
keyword_in_texts [] keyword others (l ∷ ls) (b ∷ parts) kw e f = let same : l
    ≡ keyword = cc e in no_keyword keyword.token kw b (sym (ap (λ (x : Lexeme). x.token) same) ∙ cc f)
keyword_in_texts (y ∷ front) keyword others (l ∷ ls) (b ∷ parts) kw e f = keyword_in_texts front keyword others ls parts
    kw (cc e) (cc f)

one_keyword : (front front' : List Lexeme) (k k' : Lexeme) (others others' : List Lexeme) (parts parts' : List (List ℕ))
    → front ++ (k ∷ others) ≡ front' ++ (k' ∷ others') → IsKeyword k.token → IsKeyword k'.token → all_tokens others
    ≡ texts parts → all_tokens others' ≡ texts parts' → k ≡ k'
one_keyword [] [] k k' others others' parts parts' e kw kw' f f' = cc e
one_keyword [] (y ∷ front') k k' others others' parts parts' e kw kw' f f' = absurd
    (keyword_in_texts front' k' others' others parts kw' (cc e) f)
one_keyword (y ∷ front) [] k k' others others' parts parts' e kw kw' f f' = absurd
    (keyword_in_texts front k others others' parts' kw (sym (cc e)) f')
one_keyword (y ∷ front) (y' ∷ front') k k' others others' parts parts' e kw kw' f f' = one_keyword front front' k k'
    others others' parts parts' (cc e) kw kw' f f'

four_line : (before : List Lexeme) (x : Lexeme) (m n : ℕ) → PutsFour before x m → PutsFour before x n → m ≡ n
four_line before x m n p q = p.line_is ∙ ap (λ (l : Lexeme). l.line)
    (one_keyword p.front q.front p.keyword q.keyword p.others q.others p.parts q.parts (sym p.split ∙ q.split)
    p.keyword_is q.keyword_is p.others_are q.others_are) ∙ sym q.line_is

four_no_index : (before : List Lexeme) (x : Lexeme) (m : ℕ) → PutsFour before x m → IsIndexStage before x → ⊥
four_no_index before x m p q = let e = p.text in let f = q.number.1 in absurd (cc (e, f))

closes_one : (kind kind' : PoKind) (before : List Lexeme) (x : Lexeme) (m n : ℕ) → ClosesBy kind before x m
    → ClosesBy kind' before x n → (kind ≡ kind') × (m ≡ n)
closes_one BadText BadText before x m n p q = (refl, four_line before x m n p q)
closes_one BadText BadIndex before x m n p q = absurd (four_no_index before x m p q.0)
closes_one BadText BadOrder before x m n p q = absurd (q.0 m p)
closes_one BadIndex BadText before x m n p q = absurd (four_no_index before x n q p.0)
closes_one BadIndex BadIndex before x m n p q = (refl, p.1 ∙ sym q.1)
closes_one BadIndex BadOrder before x m n p q = absurd (q.1 p.0)
closes_one BadOrder BadText before x m n p q = absurd (p.0 n q)
closes_one BadOrder BadIndex before x m n p q = absurd (p.1 q.0)
closes_one BadOrder BadOrder before x m n p q = (refl, p.2 ∙ sym q.2)
closes_one _ _ before x m n p q = absurd (first_of (assumption p, assumption q))

snoc_one : (xs ys : List Lexeme) (x y : Lexeme) → xs ++ (x ∷ []) ≡ ys ++ (y ∷ []) → x ≡ y
snoc_one [] [] x y e = cc e
snoc_one [] (z ∷ []) x y e = absurd (cc e)
snoc_one [] (z ∷ w ∷ ys) x y e = absurd (cc e)
snoc_one (z ∷ []) [] x y e = absurd (cc e)
snoc_one (z ∷ w ∷ xs) [] x y e = absurd (cc e)
snoc_one (z ∷ xs) (w ∷ ys) x y e = snoc_one xs ys x y (cc e)

pub grammar_one : (found : List Lexeme) (kind kind' : PoKind) (m n : ℕ) → HasGrammarFault found kind m
    → HasGrammarFault found kind' n → (kind ≡ kind') × (m ≡ n)
grammar_one found kind kind' m n (inl p) (inl q) =
    let same = same_index p.before q.before p.x q.x p.after q.after (sym p.split ∙ q.split) p.open_before q.open_before
    p.closed q.closed in
    closes_one kind kind' q.before q.x m n (subst (λ (l : Lexeme). ClosesBy kind q.before l m) same.1
    (subst (λ (ls : List Lexeme). ClosesBy kind ls p.x m) same.0 p.how)) q.how
grammar_one found kind kind' m n (inl p) (inr (is, q)) = absurd (closed_whole found kind m p q.still_open)
grammar_one found kind kind' m n (inr (is, p)) (inl q) = absurd (closed_whole found kind' n q p.still_open)
grammar_one found kind kind' m n (inr (is, p)) (inr (is', q)) = (
  is ∙ sym is',
  p.line_is ∙ ap (λ (l : Lexeme). l.line) (snoc_one p.before q.before p.x q.x (sym p.split ∙ q.split))
      ∙ sym q.line_is,
)

no_grammar_fault : (found : List Lexeme) (entries : List Entry) (kind : PoKind) (line : ℕ) → Derives found entries
    → HasGrammarFault found kind line → ⊥
no_grammar_fault found entries kind line d (inl c) = closed_whole found kind line c (derives_open found entries d)
no_grammar_fault found entries kind line d (inr (is, e)) = e.underived entries d

-- ---- texts without a byte order mark

pub reads_one : (text : List ℕ) (entries others : List Entry) → Reads text entries → Reads text others → entries
    ≡ others
reads_one text entries others (found, spells, d) (found', spells', d') =
    derives_one found' entries others (subst (λ (ls : List Lexeme). Derives ls entries)
    (Spells-one text found found' spells spells') d) d'

pub faulty_one : (text : List ℕ) (kind kind' : PoKind) (m n : ℕ) → IsFaulty text kind m → IsFaulty text kind' n
    → (kind ≡ kind') × (m ≡ n)
faulty_one text kind kind' m n (inl p) (inl q) = HasFault-one text kind kind' m n p q
faulty_one text kind kind' m n (inl p) (inr (found, spells, g)) = absurd (no_both text found kind m spells p)
faulty_one text kind kind' m n (inr (found, spells, g)) (inl q) = absurd (no_both text found kind' n spells q)
faulty_one text kind kind' m n (inr (found, spells, g)) (inr (found', spells', g')) =
    grammar_one found' kind kind' m n (subst (λ (ls : List Lexeme). HasGrammarFault ls kind m)
    (Spells-one text found found' spells spells') g) g'

pub reads_no_fault : (text : List ℕ) (entries : List Entry) (kind : PoKind) (line : ℕ) → Reads text entries
    → IsFaulty text kind line → ⊥
reads_no_fault text entries kind line (found, spells, d) (inl f) = no_both text found kind line spells f
reads_no_fault text entries kind line (found, spells, d) (inr (found', spells', g)) =
    no_grammar_fault found' entries kind line (subst (λ (ls : List Lexeme). Derives ls entries)
    (Spells-one text found found' spells spells') d) g

-- ---- whole texts

pub gives_one : (text : List ℕ) (entries others : List Entry) → Gives text entries → Gives text others → entries
    ≡ others
gives_one text entries others p q = reads_one (body text) entries others p.reads q.reads

-- the three ways of being refused
abbrev Refusal : List ℕ → PoKind → ℕ → Type 0
Refusal text kind line = ((kind ≡ TooLarge) × (67108864 < length text) × (line ≡ 0))
    ⊎ (((kind ≡ NotUtf8) × IsUndecodable text line) ⊎ (IsReadable text × IsFaulty (body text) kind line))

refusal_is : (text : List ℕ) (kind : PoKind) (line : ℕ) → Refuses text kind line → Refusal text kind line
refusal_is text TooLarge line h = inl (refl, h.0, h.1)
refusal_is text NotUtf8 line h = inr (inl (refl, h))
refusal_is text _ line h = inr (inr h)

large_small : (text : List ℕ) → 67108864 < length text → length text ≤ 67108864 → ⊥
large_small text p q = absurd (omega (arith, p, q))

refusal_one : (text : List ℕ) (kind kind' : PoKind) (m n : ℕ) → Refusal text kind m → Refusal text kind' n
    → (kind ≡ kind') × (m ≡ n)
refusal_one text kind kind' m n (inl (is, large, line)) (inl (is', large', line')) = (is ∙ sym is', line ∙ sym line')
refusal_one text kind kind' m n (inl (is, large, line)) (inr (inl (is', u))) = absurd (large_small text large u.size)
refusal_one text kind kind' m n (inl (is, large, line)) (inr (inr (r, f))) = absurd (large_small text large r.size)
refusal_one text kind kind' m n (inr (inl (is, u))) (inl (is', large, line)) = absurd (large_small text large u.size)
refusal_one text kind kind' m n (inr (inl (is, u))) (inr (inl (is', u'))) = (is ∙ sym is', u.line_is ∙ sym u'.line_is)
refusal_one text kind kind' m n (inr (inl (is, u))) (inr (inr (r, f))) = absurd (u.undecodable r.utf8)
refusal_one text kind kind' m n (inr (inr (r, f))) (inl (is', large, line)) = absurd (large_small text large r.size)
refusal_one text kind kind' m n (inr (inr (r, f))) (inr (inl (is', u))) = absurd (u.undecodable r.utf8)
refusal_one text kind kind' m n (inr (inr (r, f))) (inr (inr (r', f'))) = faulty_one (body text) kind kind' m n f f'

pub refuses_one : (text : List ℕ) (kind kind' : PoKind) (m n : ℕ) → Refuses text kind m → Refuses text kind' n
    → (kind ≡ kind') × (m ≡ n)
refuses_one text kind kind' m n p q = refusal_one text kind kind' m n (refusal_is text kind m p)
    (refusal_is text kind' n q)

gives_no_refusal : (text : List ℕ) (entries : List Entry) (kind : PoKind) (line : ℕ) → Gives text entries
    → Refusal text kind line → ⊥
gives_no_refusal text entries kind line g (inl (is, large, at)) = large_small text large g.readable.size
gives_no_refusal text entries kind line g (inr (inl (is, u))) = u.undecodable g.readable.utf8
gives_no_refusal text entries kind line g (inr (inr (r, f))) = reads_no_fault (body text) entries kind line g.reads f

pub gives_or_refuses : (text : List ℕ) (entries : List Entry) (kind : PoKind) (line : ℕ) → Gives text entries
    → Refuses text kind line → ⊥
gives_or_refuses text entries kind line g r = gives_no_refusal text entries kind line g (refusal_is text kind line r)

-- a fault of the text after its byte order mark is the text's refusal
pub faulty_refuses : (text : List ℕ) (kind : PoKind) (line : ℕ) → IsReadable text → IsFaulty (body text) kind line
    → Refuses text kind line
faulty_refuses text TooLarge line r (inl f) = absurd f.fault
faulty_refuses text TooLarge line r (inr (found, spells, inl c)) = absurd c.how
faulty_refuses text TooLarge line r (inr (found, spells, inr (is, e))) = absurd (cc is)
faulty_refuses text NotUtf8 line r (inl f) = absurd f.fault
faulty_refuses text NotUtf8 line r (inr (found, spells, inl c)) = absurd c.how
faulty_refuses text NotUtf8 line r (inr (found, spells, inr (is, e))) = absurd (cc is)
faulty_refuses text _ line r f = (r, f)
