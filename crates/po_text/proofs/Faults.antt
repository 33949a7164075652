-- The grammar faults, from what was built.
use Rattle.po_text.proofs.Kit.{◌≡◌, ℕ, ◌+◌, List, [], ◌∷◌, ◌++◌, Option, Some, None, refl, sym, ap, ◌∙◌, subst, inl}
use Rattle.po_text.proofs.Kit.{inr, append_assoc, ◌⊎◌, option_map, Contains, map-append, append-nil, cases_Bool}
use Rattle.po_text.proofs.Kit.{eqb-true, BadOrder, Token, Context, Id, Plural, Str, Number, Open, Close, Text, Mark}
use Rattle.po_text.proofs.Kit.{Lexeme, Strings, texts, all_tokens, IsOpenList, ClosesBy, ClosesAt, Stage, Start}
use Rattle.po_text.proofs.Kit.{ContextWord, ContextText, IdWord, IdText, FormWord, FormText, PluralWord, PluralText}
use Rattle.po_text.proofs.Kit.{IndexOpen, IndexNumber, IndexClose, IndexedWord, IndexedText, IsBoundary, has_four}
use Rattle.po_text.proofs.Kit.{key_text, begin, no_flags, State, at_state, opens, opens_id, after, start}
use Rattle.std.specs.Prelude.{nat_eq}
use Rattle.std.proofs.lemmas.Map.Views.{Contains-from_any}
use Rattle.po_text.specs.Entries.{IsKeyword, PutsFour, IsIndexStage, EndsEarly}
use Rattle.po_text.specs.Stages.{step}
use Rattle.po_text.specs.Building.{feed, feeds}
use Rattle.po_text.specs.Parsing.{EndsOn, refusal, key_refusal, number_refusal}
use Rattle.po_text.proofs.Grammar.{run, run-none, run-append, live_front, closes}
use Rattle.po_text.proofs.OpenLists.{taken_open}
use Rattle.po_text.proofs.Feeding.{feeds-none, feeds_stage, chain_feeds}

-- ---- what precedes a stage

abbrev pub BehindKey : List Lexeme → ℕ → Type 0
BehindKey before k = (front : List Lexeme) × (keyword : Lexeme) × (others : List Lexeme) × (parts : Strings)
    × (before ≡ front ++ (keyword ∷ others)) × IsKeyword keyword.token × (all_tokens others ≡ texts parts)
    × (k ≡ keyword.line)

abbrev pub Behind : List Lexeme → Stage → ℕ → Type 0
Behind before ContextWord k = BehindKey before k
Behind before ContextText k = BehindKey before k
Behind before IdWord k = BehindKey before k
Behind before IdText k = BehindKey before k
Behind before (IndexNumber n) k = (front : List Lexeme) × (bracket : Lexeme) × (before ≡ front ++ (bracket ∷ []))
    × (bracket.token ≡ Open)
Behind before _ k = Unit {0}

snoc_text : (l : Lexeme) (b : List ℕ) (others : List Lexeme) (parts : Strings) → all_tokens others ≡ texts parts
    → l.token ≡ Text b → all_tokens (others ++ (l ∷ [])) ≡ texts (parts ++ (b ∷ []))
snoc_text l b others parts e f =
    map-append (λ (x : Lexeme). x.token) others (l ∷ []) ∙ ap (λ (ts : List Token). ts ++ (l.token ∷ [])) e
    ∙ ap (λ (t : Token). texts parts ++ (t ∷ [])) f ∙ sym (map-append Text parts (b ∷ []))

more_key : (before : List Lexeme) (k : ℕ) (l : Lexeme) (b : List ℕ) → l.token ≡ Text b → BehindKey before k
    → BehindKey (before ++ (l ∷ [])) k
more_key before k l b f (front, keyword, others, parts, is, kw, tokens, line) = (
  front,
  keyword,
  others ++ (l ∷ []),
  parts ++ (b ∷ []),
  ap (λ (x : List Lexeme). x ++ (l ∷ [])) is
      ∙ append_assoc front (keyword ∷ others) (l ∷ []),
  kw,
  snoc_text l b others parts tokens f,
  line,
)

pub key_to : (b : List ℕ) (p q : Stage) → key_text b p ≡ Some q → p ≡ q
key_to b p q e = elim (cases_Bool (has_four b)) [
  | inl four ↦ let f : key_text b p ≡ None = rw four refl in absurd (cc (e, f))
  | inr none ↦ let f : key_text b p ≡ Some p = rw none refl in cc (e, f)
]

new_key : (before : List Lexeme) (l : Lexeme) → IsKeyword l.token → BehindKey (before ++ (l ∷ [])) l.line
new_key before l kw = (before, l, [], [], refl, kw, refl, refl)

leads : (before : List Lexeme) (p q : Stage) (k : ℕ) → p ≡ q → Behind before p k → Behind before q k
leads before p q k e h = subst (λ (x : Stage). Behind before x k) e h

text_behind : (before : List Lexeme) (p q : Stage) (k : ℕ) (l : Lexeme) (b : List ℕ) → l.token ≡ Text b
    → step p (Text b) ≡ Some q → Behind before p k → Behind (before ++ (l ∷ [])) q k
unfolding step
text_behind before ContextWord q k l b f e h = leads _ _ q k (key_to b ContextText q e) (more_key before k l b f h)
text_behind before ContextText q k l b f e h = leads _ _ q k (key_to b ContextText q e) (more_key before k l b f h)
text_behind before IdWord q k l b f e h = leads _ _ q k (key_to b IdText q e) (more_key before k l b f h)
text_behind before IdText q k l b f e h = leads _ _ q k (key_to b IdText q e) (more_key before k l b f h)
text_behind before FormWord q k l b f e h = leads _ FormText q k (cc e) tt
text_behind before FormText q k l b f e h = leads _ FormText q k (cc e) tt
text_behind before PluralWord q k l b f e h = leads _ PluralText q k (cc e) tt
text_behind before PluralText q k l b f e h = leads _ PluralText q k (cc e) tt
text_behind before (IndexedWord n) q k l b f e h = leads _ (IndexedText n) q k (cc e) tt
text_behind before (IndexedText n) q k l b f e h = leads _ (IndexedText n) q k (cc e) tt
text_behind before p q k l b f e h = absurd (cc e)

context_to : (p q : Stage) → step p Context ≡ Some q → q ≡ ContextWord
unfolding step
context_to Start q e = sym (cc e)
context_to _ q e = sym (cc e)

id_to : (p q : Stage) → step p Id ≡ Some q → q ≡ IdWord
unfolding step
id_to Start q e = sym (cc e)
id_to _ q e = sym (cc e)

open_to : (p q : Stage) → step p Open ≡ Some q → (k : ℕ) × (q ≡ IndexNumber k)
unfolding step
open_to (IndexOpen k) q e = (k, sym (cc e))
open_to p q e = absurd (cc e)

-- stages about whose tokens nothing needs to be known
abbrev Plain : Stage → Type 0
Plain p = (before : List Lexeme) (k : ℕ) → Behind before p k

plain_from : (p q : Stage) → p ≡ q → Plain p → Plain q
plain_from p q e h = subst (λ (x : Stage). Plain x) e h

str_to : (p q : Stage) → step p Str ≡ Some q → Plain q
unfolding step
str_to IdText q e = plain_from FormWord q (cc e) (λ before k. tt)
str_to PluralText q e = plain_from (IndexOpen 0) q (cc e) (λ before k. tt)
str_to (IndexedText n) q e = plain_from (IndexOpen (n + 1)) q (cc e) (λ before k. tt)
str_to p q e = absurd (cc e)

plural_to : (p q : Stage) → step p Plural ≡ Some q → Plain q
unfolding step
plural_to IdText q e = plain_from PluralWord q (cc e) (λ before k. tt)
plural_to p q e = absurd (cc e)

close_to : (p q : Stage) → step p Close ≡ Some q → Plain q
unfolding step
close_to (IndexClose n) q e = plain_from (IndexedWord n) q (cc e) (λ before k. tt)
close_to p q e = absurd (cc e)

index_to : (n k : ℕ) (q : Stage) → step (IndexNumber k) (Number n) ≡ Some q → IndexClose k ≡ q
unfolding step
index_to n k q e = elim (cases_Bool (nat_eq n k)) [
  | inl same ↦ let f : step (IndexNumber k) (Number n) ≡ Some (IndexClose k) = rw same refl in cc (e, f)
  | inr other ↦ let f : step (IndexNumber k) (Number n) ≡ None = rw other refl in absurd (cc (e, f))
]

number_to : (n : ℕ) (p q : Stage) → step p (Number n) ≡ Some q → Plain q
unfolding step
number_to n (IndexNumber k) q e = plain_from (IndexClose k) q (index_to n k q e) (λ before k. tt)
number_to n p q e = absurd (cc e)

-- the line of the last context or msgid keyword, after a token
abbrev line_after : Token → ℕ → ℕ → ℕ
line_after Context line k = line
line_after Id line k = line
line_after _ line k = k

token_behind : (before : List Lexeme) (p q : Stage) (k : ℕ) (l : Lexeme) (t : Token) → l.token ≡ t → step p t ≡ Some q
    → Behind before p k → Behind (before ++ (l ∷ [])) q (line_after t l.line k)
token_behind before p q k l Context f e h = subst (λ (x : Stage). Behind (before ++ (l ∷ [])) x l.line)
    (sym (context_to p q e)) (new_key before l (inl f))
token_behind before p q k l Id f e h = subst (λ (x : Stage). Behind (before ++ (l ∷ [])) x l.line) (sym (id_to p q e))
    (new_key before l (inr f))
token_behind before p q k l (Text b) f e h = text_behind before p q k l b f e h
token_behind before p q k l Open f e h = let o = open_to p q e in subst (λ (x : Stage). Behind (before ++ (l ∷ [])) x k)
    (sym o.1) (before, l, refl, f)
token_behind before p q k l Str f e h = str_to p q e (before ++ (l ∷ [])) k
token_behind before p q k l Plural f e h = plural_to p q e (before ++ (l ∷ [])) k
token_behind before p q k l Close f e h = close_to p q e (before ++ (l ∷ [])) k
token_behind before p q k l (Number n) f e h = number_to n p q e (before ++ (l ∷ [])) k

id_keyword : (o : Option (Option (List ℕ))) (s : State) (marks : List Mark) (line : ℕ) (q : Stage)
    → ((after o s marks line Id q).stage ≡ q) × ((after o s marks line Id q).keyword ≡ line)
id_keyword None s marks line q = (refl, refl)
id_keyword (Some c) s marks line q = (refl, refl)

after_is : (s : State) (marks : List Mark) (line : ℕ) (t : Token) (q : Stage)
    → ((after (opens t s.stage) s marks line t q).stage ≡ q)
    × ((after (opens t s.stage) s marks line t q).keyword ≡ line_after t line s.keyword)
after_is s marks line Id q = id_keyword (opens_id s.stage) s marks line q
after_is s marks line _ q = (refl, refl)

some_after : (s : State) (marks : List Mark) (line : ℕ) (t : Token) (s' : State) (o : Option Stage) → step s.stage t ≡ o
    → option_map (λ (p : Stage). after (opens t s.stage) s marks line t p) o ≡ Some s' → (q : Stage)
    × (step s.stage t ≡ Some q) × (s'.stage ≡ q) × (s'.keyword ≡ line_after t line s.keyword)
some_after s marks line t s' None is e = absurd (cc e)
some_after s marks line t s' (Some q) is e =
    let same : after (opens t s.stage) s marks line t q ≡ s' = cc e in
    let a = after_is s marks line t q in
    (q, is, ap (λ (x : State). x.stage) (sym same) ∙ a.0, ap (λ (x : State). x.keyword) (sym same) ∙ a.1)

feed_behind : (before : List Lexeme) (l : Lexeme) (s s' : State) → feed (Some s) l ≡ Some s'
    → Behind before s.stage s.keyword → Behind (before ++ (l ∷ [])) s'.stage s'.keyword
feed_behind before l s s' e h =
    let (q, st, stage, keyword) = some_after s l.marks l.line l.token s' (step s.stage l.token) refl e in
    subst (λ (x : Stage). Behind (before ++ (l ∷ [])) x s'.keyword) (sym stage)
    (subst (λ (x : ℕ). Behind (before ++ (l ∷ [])) q x) (sym keyword)
    (token_behind before s.stage q s.keyword l l.token refl st h))

feeds_behind : (ls before : List Lexeme) (s s' : State) → feeds (Some s) ls ≡ Some s' → Behind before s.stage s.keyword
    → Behind (before ++ ls) s'.stage s'.keyword
feeds_behind [] before s s' e h =
    let same : s ≡ s' = cc e in
    subst (λ (x : State). Behind (before ++ []) x.stage x.keyword) same
    (subst (λ (x : List Lexeme). Behind x s.stage s.keyword) (sym (append-nil before)) h)
feeds_behind (l ∷ ls) before s s' e h = next (λ (s2 : State) (g : feeds (Some s2) ls ≡ Some s')
    (b : Behind (before ++ (l ∷ [])) s2.stage s2.keyword). feeds_behind ls (before ++ (l ∷ [])) s2 s' g b)
    (feed (Some s) l) refl e
  where
    next : ((s2 : State) → feeds (Some s2) ls ≡ Some s' → Behind (before ++ (l ∷ [])) s2.stage s2.keyword
        → Behind ((before ++ (l ∷ [])) ++ ls) s'.stage s'.keyword) → (o : Option State) → feed (Some s) l ≡ o
        → feeds o ls ≡ Some s' → Behind (before ++ (l ∷ ls)) s'.stage s'.keyword
    next again None is g = let dead = feeds-none ls in absurd (cc (dead, g))
    next again (Some s2) is g = subst (λ (x : List Lexeme). Behind x s'.stage s'.keyword)
        (append_assoc before (l ∷ []) ls) (again s2 g (feed_behind before l s s2 is h))

pub behind : (found : List Lexeme) (s : State) → feeds (Some start) found ≡ Some s → Behind found s.stage s.keyword
behind found s e = feeds_behind found [] start s e tt

-- ---- stages, recognized by the tokens before them

abbrev pub IsKeyStage : Stage → Type 0
IsKeyStage ContextWord = Unit {0}
IsKeyStage ContextText = Unit {0}
IsKeyStage IdWord = Unit {0}
IsKeyStage IdText = Unit {0}
IsKeyStage _ = ⊥

stays_key : (p : Stage) (b : List ℕ) (o : Option Stage) → IsKeyStage p → step p (Text b) ≡ o → (o ≡ None)
    ⊎ ((q : Stage) × (o ≡ Some q) × IsKeyStage q)
unfolding step
stays_key p b None h e = inl refl
stays_key ContextWord b (Some q) h e = inr (q, refl, subst (λ (x : Stage). IsKeyStage x) (key_to b ContextText q e) tt)
stays_key ContextText b (Some q) h e = inr (q, refl, subst (λ (x : Stage). IsKeyStage x) (key_to b ContextText q e) tt)
stays_key IdWord b (Some q) h e = inr (q, refl, subst (λ (x : Stage). IsKeyStage x) (key_to b IdText q e) tt)
stays_key IdText b (Some q) h e = inr (q, refl, subst (λ (x : Stage). IsKeyStage x) (key_to b IdText q e) tt)
stays_key p b o h e = absurd h

texts_key : (parts : Strings) (p q : Stage) → IsKeyStage p → run (Some p) (texts parts) ≡ Some q → IsKeyStage q
texts_key [] p q h e = let same : p ≡ q = cc e in subst (λ (x : Stage). IsKeyStage x) same h
texts_key (b ∷ parts) p q h e = next (λ (r : Stage) (g : IsKeyStage r) (f : run (Some r) (texts parts) ≡ Some q).
    texts_key parts r q g f) (stays_key p b (step p (Text b)) h refl)
  where
    next : ((r : Stage) → IsKeyStage r → run (Some r) (texts parts) ≡ Some q → IsKeyStage q)
        → ((step p (Text b) ≡ None) ⊎ ((r : Stage) × (step p (Text b) ≡ Some r) × IsKeyStage r)) → IsKeyStage q
    next again (inl none) = let dead = run-none (texts parts) in let f = ap (λ (o : Option Stage). run o (texts parts))
        none in absurd (cc (e, f, dead))
    next again (inr (r, is, key)) = again r key (sym (ap (λ (o : Option Stage). run o (texts parts)) is) ∙ e)

keyword_key : (p q : Stage) (t : Token) → IsKeyword t → step p t ≡ Some q → IsKeyStage q
keyword_key p q t (inl e) st = let f : step p Context ≡ Some q = subst (λ (x : Token). step p x ≡ Some q) e st in subst
    (λ (x : Stage). IsKeyStage x) (sym (context_to p q f)) tt
keyword_key p q t (inr e) st = let f : step p Id ≡ Some q = subst (λ (x : Token). step p x ≡ Some q) e st in subst
    (λ (x : Stage). IsKeyStage x) (sym (id_to p q f)) tt

some_step : (o : Option Stage) (ts : List Token) (p : Stage) → run o ts ≡ Some p → (q : Stage) × (o ≡ Some q)
some_step None ts p e = let dead = run-none ts in absurd (cc (dead, e))
some_step (Some q) ts p e = (q, refl)

behind_keyword : (front : List Lexeme) (keyword : Lexeme) (others : List Lexeme) (parts : Strings) (p : Stage)
    → run (Some Start) (all_tokens (front ++ (keyword ∷ others))) ≡ Some p → IsKeyword keyword.token → all_tokens others
    ≡ texts parts → IsKeyStage p
behind_keyword front keyword others parts p e kw is =
    let all : run (Some Start) (all_tokens front ++ (keyword.token ∷ all_tokens others))
    ≡ Some p = ap (λ (ts : List Token). run (Some Start) ts)
    (sym (map-append (λ (x : Lexeme). x.token) front (keyword ∷ others))) ∙ e in
    let (r, at) = live_front Start p (all_tokens front) (keyword.token ∷ all_tokens others) all in
    let rest : run (step r keyword.token) (all_tokens others)
    ≡ Some p = ap (λ (o : Option Stage). run o (keyword.token ∷ all_tokens others)) (sym at)
    ∙ sym (run-append (Some Start) (all_tokens front) (keyword.token ∷ all_tokens others)) ∙ all in
    let (q, st) = some_step (step r keyword.token) (all_tokens others) p rest in
    texts_key parts q p (keyword_key r q keyword.token kw st)
    (ap (λ (ts : List Token). run (Some q) ts) (sym is) ∙ ap (λ (o : Option Stage). run o (all_tokens others))
    (sym st) ∙ rest)

behind_bracket : (front : List Lexeme) (bracket : Lexeme) (p : Stage)
    → run (Some Start) (all_tokens (front ++ (bracket ∷ []))) ≡ Some p → bracket.token ≡ Open → (k : ℕ)
    × (p ≡ IndexNumber k)
behind_bracket front bracket p e is =
    let all : run (Some Start) (all_tokens front ++ (bracket.token ∷ []))
    ≡ Some p = ap (λ (ts : List Token). run (Some Start) ts)
    (sym (map-append (λ (x : Lexeme). x.token) front (bracket ∷ []))) ∙ e in
    let (r, at) = live_front Start p (all_tokens front) (bracket.token ∷ []) all in
    let rest : step r bracket.token ≡ Some p = ap (λ (o : Option Stage). run o (bracket.token ∷ [])) (sym at)
    ∙ sym (run-append (Some Start) (all_tokens front) (bracket.token ∷ [])) ∙ all in
    open_to r p (ap (λ (t : Token). step r t) (sym is) ∙ rest)

-- ---- how a list closes

four_there : (b : List ℕ) (p : Stage) → key_text b p ≡ None → Contains b 4
four_there b p e = elim (cases_Bool (has_four b)) [
  | inl four ↦ Contains-from_any (λ x y e. eqb-true x y e) 4 b four
  | inr none ↦ let f : key_text b p ≡ Some p = rw none refl in absurd (cc (e, f))
]

puts_four : (before : List Lexeme) (x : Lexeme) (k : ℕ) (b : List ℕ) (p : Stage) → BehindKey before k → x.token ≡ Text b
    → key_text b p ≡ None → PutsFour before x k
puts_four before x k b p (front, keyword, others, parts, is, kw, tokens, line) t e = record {
  front = front;
  keyword = keyword;
  others = others;
  parts = parts;
  bytes = b;
  split = is;
  keyword_is = kw;
  others_are = tokens;
  text = t;
  four = four_there b p e;
  line_is = line;
}

no_text : (before : List Lexeme) (x : Lexeme) (p : Stage) → run (Some Start) (all_tokens before) ≡ Some p
    → ¬ IsKeyStage p → (n : ℕ) → ¬ PutsFour before x n
no_text before x p at other n h = other (behind_keyword h.front h.keyword h.others h.parts p
    (ap (λ (ls : List Lexeme). run (Some Start) (all_tokens ls)) (sym h.split) ∙ at) h.keyword_is h.others_are)

no_index : (before : List Lexeme) (x : Lexeme) (p : Stage) → run (Some Start) (all_tokens before) ≡ Some p
    → ((k : ℕ) → p ≡ IndexNumber k → ⊥) → ¬ IsIndexStage before x
no_index before x p at other h = let b = behind_bracket h.front h.bracket p
    (ap (λ (ls : List Lexeme). run (Some Start) (all_tokens ls)) (sym h.split) ∙ at) h.bracket_is in other b.0 b.1

other_order : (before : List Lexeme) (x : Lexeme) → ((b : List ℕ) → x.token ≡ Text b → ⊥)
    → ((n : ℕ) → x.token ≡ Number n → ⊥) → ClosesBy BadOrder before x x.line
other_order before x text number = ((λ n h. text h.bytes h.text), (λ h. number h.number.0 h.number.1), refl)

text_order : (before : List Lexeme) (x : Lexeme) (b : List ℕ) (p : Stage) → run (Some Start) (all_tokens before)
    ≡ Some p → ¬ IsKeyStage p → x.token ≡ Text b → ClosesBy BadOrder before x x.line
text_order before x b p at other t = (
  no_text before x p at other,
  (λ h. let f = h.number.1 in absurd (cc (t, f))),
  refl,
)

number_order : (before : List Lexeme) (x : Lexeme) (n : ℕ) (p : Stage) → run (Some Start) (all_tokens before) ≡ Some p
    → ((k : ℕ) → p ≡ IndexNumber k → ⊥) → x.token ≡ Number n → ClosesBy BadOrder before x x.line
number_order before x n p at other t = (
  (λ m h. let f = h.text in absurd (cc (t, f))),
  no_index before x p at other,
  refl,
)

text_closes : (before : List Lexeme) (x : Lexeme) (b : List ℕ) (p : Stage) (k : ℕ)
    → run (Some Start) (all_tokens before) ≡ Some p → Behind before p k → x.token ≡ Text b → step p (Text b) ≡ None
    → ClosesBy (key_refusal p x.line k).kind before x (key_refusal p x.line k).line
unfolding step
text_closes before x b ContextWord k at h t e = puts_four before x k b ContextText h t e
text_closes before x b ContextText k at h t e = puts_four before x k b ContextText h t e
text_closes before x b IdWord k at h t e = puts_four before x k b IdText h t e
text_closes before x b IdText k at h t e = puts_four before x k b IdText h t e
text_closes before x b Start k at h t e = text_order before x b Start at (λ i. i) t
text_closes before x b (IndexOpen n) k at h t e = text_order before x b (IndexOpen n) at (λ i. i) t
text_closes before x b (IndexNumber n) k at h t e = text_order before x b (IndexNumber n) at (λ i. i) t
text_closes before x b (IndexClose n) k at h t e = text_order before x b (IndexClose n) at (λ i. i) t
text_closes before x b _ k at h t e = absurd (cc e)

number_closes : (before : List Lexeme) (x : Lexeme) (m : ℕ) (p : Stage) (k : ℕ) → run (Some Start) (all_tokens before)
    ≡ Some p → Behind before p k → x.token ≡ Number m → ClosesBy (number_refusal p x.line).kind before x
    (number_refusal p x.line).line
number_closes before x m (IndexNumber n) k at (front, bracket, is, open_is) t =
    (record { front = front; bracket = bracket; split = is; bracket_is = open_is; number = (m, t) }, refl)
number_closes before x m p k at h t = number_order before x m p at (λ k e. absurd (cc e)) t

token_closes : (before : List Lexeme) (x : Lexeme) (t : Token) (p : Stage) (k : ℕ)
    → run (Some Start) (all_tokens before) ≡ Some p → Behind before p k → x.token ≡ t → step p t ≡ None
    → ClosesBy (refusal t p x.line k).kind before x (refusal t p x.line k).line
token_closes before x (Text b) p k at h t e = text_closes before x b p k at h t e
token_closes before x (Number n) p k at h t e = number_closes before x n p k at h t
token_closes before x _ p k at h t e = other_order before x (λ b f. absurd (cc (t, f))) (λ n f. absurd (cc (t, f)))

-- a token that isn't allowed is the grammar fault
pub refused_closes : (found more : List Lexeme) (x : Lexeme) (s : State) → feeds (Some start) found ≡ Some s
    → step s.stage x.token ≡ None
    → ClosesAt (found ++ (x ∷ more)) (refusal x.token s.stage x.line s.keyword).kind
    (refusal x.token s.stage x.line s.keyword).line
refused_closes found more x s fed refused =
    let at = feeds_stage found start s fed in
    record {
      before = found;
      x = x;
      after = more;
      split = refl;
      open_before = taken_open (all_tokens found) s.stage at;
      closed = λ o. closes (all_tokens found) x.token s.stage at refused
          (subst (λ (ts : List Token). IsOpenList ts) (map-append (λ (l : Lexeme). l.token) found (x ∷ [])) o);
      how = token_closes found x x.token s.stage s.keyword at (behind found s fed) refl refused;
    }

-- the lexemes end in the middle of an entry
pub ends_early : (found : List Lexeme) (s : State) (line : ℕ) → feeds (Some start) found ≡ Some s → ¬ IsBoundary s.stage
    → EndsOn found line → EndsEarly found line
ends_early found s line fed inside (inl none) =
    let fed' : Some start ≡ Some s = ap (λ (ls : List Lexeme). feeds (Some start) ls) (sym none) ∙ fed in
    let same : start ≡ s = cc fed' in absurd (inside (subst (λ (x : State). IsBoundary x.stage) same tt))
ends_early found s line fed inside (inr (before, x, split, at)) = record {
  before = before;
  x = x;
  split = split;
  still_open = taken_open (all_tokens found) s.stage (feeds_stage found start s fed);
  underived = λ entries (later, chain).
      let (q, done, d, f, k, b, whole, end) = chain_feeds entries [] later found chain Start [] (begin 0 no_flags None)
      0 tt in
      let same : at_state q done d f k ≡ s = cc (end, fed) in
      inside (subst (λ (x : State). IsBoundary x.stage) same b);
  line_is = sym at;
}
