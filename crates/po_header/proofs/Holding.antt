-- The tree that the parser's steps find is derived by the tokens.
use Rattle.std.proofs.Common.{◌≡◌, ℕ, ◌<◌, ◌≤◌, List, [], ◌∷◌, ◌++◌, Option}
use Rattle.std.proofs.Common.{Some, None, refl, ap, ◌∙◌, arith, append_assoc, inl, inr}
use Rattle.std.proofs.lemmas.List.{append-nil}
use Rattle.std.proofs.lemmas.Bool.{cases_lt, le-leb, lt-leb}
use Rattle.po_header.specs.declared.token.Operator.{Operator}
use Rattle.po_header.specs.declared.token.Token.{Token}
use Rattle.po_header.specs.declared.token.Token.TheVariants.{Count, Number, Open, Close, Question, Colon, Bang, Sign}
use Rattle.po_header.specs.Grammar.{Tree, Variable, Constant, Negation, Binary, Choice, Derivation}
use Rattle.po_header.specs.Grammar.{Name, Numeral, Bracketed, Negated, Joined, Chosen, level}
use Rattle.po_header.specs.Grammar.{level_of, IsGrouped, tokens_of, derived_tree, Derives}
use Rattle.po_header.specs.Stack.{Waiting, BracketWaits, BangWaits, LeftWaits, ConditionWaits, BranchWaits, State}
use Rattle.po_header.specs.Stack.{joined_operand, negated_operand, colon, close, begin, go_on, step}
use Rattle.po_header.specs.Stack.{step_at, steps, start, tree_at_end, finish_at, finish}
use Rattle.po_header.proofs.Feeding.{Fits, Fits-le, level_low, level_high}

-- a derivation of a tree, as the position of its parts allows
pub record Part (tree : Tree) (low : ℕ) (d : Derivation) : Type 0 where
  pub grouped : IsGrouped d
  pub high : low ≤ level_of d
  pub tree_is : tree ≡ derived_tree d

-- the tokens before the operand
abbrev pub Holds : List Waiting → List Token → Type 0
Holds [] ts = ts ≡ []
Holds (BracketWaits ∷ ws) ts = (before : List Token) × Holds ws before × (ts ≡ before ++ (Open ∷ []))
Holds (BangWaits ∷ ws) ts = (before : List Token) × Holds ws before × (ts ≡ before ++ (Bang ∷ []))
Holds (LeftWaits op left ∷ ws) ts = (before : List Token) × (d : Derivation) × Holds ws before × Fits ws (level op)
    × Part left (level op) d × (ts ≡ before ++ (tokens_of d ++ (Sign op ∷ [])))
Holds (ConditionWaits c ∷ ws) ts = (before : List Token) × (d : Derivation) × Holds ws before × Fits ws 1 × Part c 2 d
    × (ts ≡ before ++ (tokens_of d ++ (Question ∷ [])))
Holds (BranchWaits c a ∷ ws) ts = (before : List Token) × (d e : Derivation) × Holds ws before × Fits ws 1 × Part c 2 d
    × Part a 1 e × (ts ≡ before ++ (tokens_of d ++ (Question ∷ tokens_of e ++ (Colon ∷ []))))

-- the tokens up to and including an operand of this level or a tighter one
pub record Operand (low : ℕ) (ws : List Waiting) (t : Tree) (ts : List Token) : Type 0 where
  pub before : List Token
  pub derivation : Derivation
  pub holds : Holds ws before
  pub part : Part t low derivation
  pub fits : Fits ws (level_of derivation)
  pub tokens_are : ts ≡ before ++ tokens_of derivation

Part-le : (t : Tree) (j k : ℕ) (d : Derivation) → j ≤ k → Part t k d → Part t j d
Part-le t j k d le p = record { grouped = p.grouped; high = omega (arith, p.high); tree_is = p.tree_is }

pub Operand-le : (j k : ℕ) (ws : List Waiting) (t : Tree) (ts : List Token) → j ≤ k → Operand k ws t ts
    → Operand j ws t ts
Operand-le j k ws t ts le o = record {
  before = o.before;
  derivation = o.derivation;
  holds = o.holds;
  part = Part-le t j
      k o.derivation le o.part;
  fits = o.fits;
  tokens_are = o.tokens_are;
}

joined_part : (op : Operator) (left right : Tree) (a b : Derivation) (k : ℕ) → Part left (level op) a → Part right k b
    → level op < level_of b → Part (Binary op left right) (level op) (Joined op a b)
joined_part op left right a b k p q lt = record {
  grouped = (p.grouped, q.grouped, p.high, lt);
  high = omega arith;
  tree_is = let e = p.tree_is in let f = q.tree_is in cc (e, f);
}

chosen_part : (c t other : Tree) (a b d : Derivation) (k : ℕ) → Part c 2 a → Part t 1 b → Part other k d
    → Part (Choice c t other) 1 (Chosen a b d)
chosen_part c t other a b d k p q r = record {
  grouped = (p.grouped, q.grouped, r.grouped, p.high);
  high = omega arith;
  tree_is = let e = p.tree_is in let f = q.tree_is in let g = r.tree_is in cc (e, f, g);
}

-- ---- tokens, one after another

ends_with : (ts before b d e : List Token) (token : Token) → ts ≡ before ++ e → before ≡ b ++ (d ++ (token ∷ [])) → ts
    ≡ b ++ (d ++ (token ∷ e))
ends_with ts before b d e token x y = rw (x, y) (simp append_assoc)

opens_with : (ts before b e : List Token) (token : Token) → ts ≡ before ++ e → before ≡ b ++ (token ∷ []) → ts ≡ b
    ++ (token ∷ e)
opens_with ts before b e token x y = rw (x, y) (simp append_assoc)

branch_ends : (ts before b c a e : List Token) (s t : Token) → ts ≡ before ++ e → before ≡ b
    ++ (c ++ (s ∷ a ++ (t ∷ []))) → ts ≡ b ++ (c ++ (s ∷ a ++ (t ∷ e)))
branch_ends ts before b c a e s t x y = rw (x, y) (simp append_assoc)

adds_token : (ts before e : List Token) (token : Token) → ts ≡ before ++ e → ts ++ (token ∷ []) ≡ before
    ++ (e ++ (token ∷ []))
adds_token ts before e token x = rw x (append_assoc before e (token ∷ []))

-- ---- joining

-- an operand that is joined as far as this level requires
pub record JoinedTo (k : ℕ) (p : List Waiting × Tree) (ts : List Token) : Type 0 where
  pub operand : Operand k p.0 p.1 ts
  pub stops : Fits p.0 k

stays : (k : ℕ) (ws : List Waiting) (t : Tree) (ts : List Token) → Operand k ws t ts → Fits ws k → JoinedTo k (ws, t) ts
stays k ws t ts o h = record { operand = o; stops = h }

joins_left : (k : ℕ) (op : Operator) (left : Tree) (ws : List Waiting) (t : Tree) (ts : List Token) → k ≤ level op
    → Operand k (LeftWaits op left ∷ ws) t ts → Operand k ws (Binary op left t) ts
joins_left k op left ws t ts le o =
    let h = o.holds in
    record {
      before = h.0;
      derivation = Joined op h.1 o.derivation;
      holds = h.2;
      part = Part-le (Binary op left t) k (level op) (Joined op h.1 o.derivation) le
          (joined_part op left t h.1 o.derivation k h.4 o.part o.fits);
      fits = h.3;
      tokens_are = ends_with ts o.before h.0 (tokens_of h.1) (tokens_of o.derivation) (Sign op) o.tokens_are h.5;
    }

joins_branch : (k : ℕ) (c a : Tree) (ws : List Waiting) (t : Tree) (ts : List Token) → k ≤ 1
    → Operand k (BranchWaits c a ∷ ws) t ts → Operand k ws (Choice c a t) ts
joins_branch k c a ws t ts le o =
    let h = o.holds in
    record {
      before = h.0;
      derivation = Chosen h.1 h.2 o.derivation;
      holds = h.3;
      part = Part-le (Choice c a t) k 1 (Chosen h.1 h.2 o.derivation) le
          (chosen_part c a t h.1 h.2 o.derivation k h.5 h.6 o.part);
      fits = h.4;
      tokens_are = branch_ends ts o.before h.0 (tokens_of h.1) (tokens_of h.2) (tokens_of o.derivation) Question Colon
          o.tokens_are h.7;
    }

pub joins : (k : ℕ) (ws : List Waiting) (t : Tree) (ts : List Token) → Operand k ws t ts
    → JoinedTo k (joined_operand k ws t) ts
joins k [] t ts o = stays k [] t ts o tt
joins k (BracketWaits ∷ ws) t ts o = stays k (BracketWaits ∷ ws) t ts o tt
joins k (BangWaits ∷ ws) t ts o = absurd o.fits
joins k (LeftWaits op left ∷ ws) t ts o = elim (cases_lt (level op) k) [
  | inl lt ↦ rw (lt-leb k (level op) lt) (stays k (LeftWaits op left ∷ ws) t ts o lt)
  | inr le ↦ rw (le-leb k (level op) le) (joins k ws (Binary op left t) ts (joins_left k op left ws t ts le o))
]
joins k (ConditionWaits c ∷ ws) t ts o = stays k (ConditionWaits c ∷ ws) t ts o tt
joins k (BranchWaits c a ∷ ws) t ts o = elim (cases_lt 1 k) [
  | inl lt ↦ rw (lt-leb k 1 lt) (stays k (BranchWaits c a ∷ ws) t ts o tt)
  | inr le ↦ rw (le-leb k 1 le) (joins k ws (Choice c a t) ts (joins_branch k c a ws t ts le o))
]

-- ---- negating

tight_operand : (ws : List Waiting) (t : Tree) (ts before : List Token) (d : Derivation) → Fits ws 8 → Holds ws before
    → Part t 8 d → ts ≡ before ++ tokens_of d → Operand 8 ws t ts
tight_operand ws t ts before d fits h p e = record {
  before = before;
  derivation = d;
  holds = h;
  part = p;
  fits =
      Fits-le ws 8 (level_of d) p.high fits;
  tokens_are = e;
}

pub negates : (ws : List Waiting) (t : Tree) (ts before : List Token) (d : Derivation) → Holds ws before → Part t 8 d
    → ts ≡ before ++ tokens_of d → Operand 8 (negated_operand ws t).0 (negated_operand ws t).1 ts
negates [] t ts before d h p e = tight_operand [] t ts before d tt h p e
negates (BracketWaits ∷ ws) t ts before d h p e = tight_operand (BracketWaits ∷ ws) t ts before d tt h p e
negates (BangWaits ∷ ws) t ts before d h p e =
    negates ws (Negation t) ts h.0 (Negated d) h.1 (record {
      grouped = (p.grouped, p.high);
      high = omega arith;
      tree_is
          = ap Negation p.tree_is;
    })
    (opens_with ts before h.0 (tokens_of d) Bang e h.2)
negates (LeftWaits op left ∷ ws) t ts before d h p e = tight_operand (LeftWaits op left ∷ ws) t ts before d
    (omega (arith, level_high op)) h p e
negates (ConditionWaits c ∷ ws) t ts before d h p e = tight_operand (ConditionWaits c ∷ ws) t ts before d tt h p e
negates (BranchWaits c a ∷ ws) t ts before d h p e = tight_operand (BranchWaits c a ∷ ws) t ts before d tt h p e

-- ---- steps

abbrev pub IsReadAt : List Waiting → Option Tree → List Token → Type 0
IsReadAt ws None ts = Holds ws ts
IsReadAt ws (Some t) ts = Operand 8 ws t ts

-- the state, if there is one, is what the tokens so far lead to
abbrev pub IsRead : Option State → List Token → Type 0
IsRead None ts = Unit {0}
IsRead (Some s) ts = IsReadAt s.waiting s.operand ts

begins : (ws : List Waiting) (ts : List Token) (token : Token) → Holds ws ts
    → IsRead (begin ws token) (ts ++ (token ∷ []))
begins ws ts Count h = negates ws Variable (ts ++ (Count ∷ [])) ts Name h
    (record { grouped = tt; high = omega arith; tree_is = refl }) refl
begins ws ts (Number v) h = negates ws (Constant v) (ts ++ (Number v ∷ [])) ts (Numeral v) h
    (record { grouped = tt; high = omega arith; tree_is = refl }) refl
begins ws ts Open h = (ts, h, refl)
begins ws ts Bang h = (ts, h, refl)
begins ws ts _ h = tt

colons : (ws : List Waiting) (t : Tree) (ts : List Token) → Operand 1 ws t ts
    → IsRead (colon (ws, t)) (ts ++ (Colon ∷ []))
colons (ConditionWaits c ∷ ws) t ts o =
    let h = o.holds in (
      h.0,
      h.1,
      o.derivation,
      h.2,
      h.3,
      h.4,
      o.part,
      ends_with (ts ++ (Colon ∷ [])) o.before h.0 (tokens_of h.1) (tokens_of o.derivation ++ (Colon ∷ [])) Question
          (adds_token ts o.before (tokens_of o.derivation) Colon o.tokens_are) h.5,
    )
colons _ t ts o = tt

closes : (ws : List Waiting) (t : Tree) (ts : List Token) → Operand 1 ws t ts
    → IsRead (close (ws, t)) (ts ++ (Close ∷ []))
closes (BracketWaits ∷ ws) t ts o =
    let h = o.holds in
    negates ws t (ts ++ (Close ∷ [])) h.0 (Bracketed o.derivation) h.1
    (record { grouped = o.part.grouped; high = omega arith; tree_is = o.part.tree_is })
    (opens_with (ts ++ (Close ∷ [])) o.before h.0 (tokens_of o.derivation ++ (Close ∷ [])) Open
    (adds_token ts o.before (tokens_of o.derivation) Close o.tokens_are) h.2)
closes _ t ts o = tt

-- where an operand of level 2 may come, so may one of level 1
Fits-loose : (ws : List Waiting) → Fits ws 2 → Fits ws 1
Fits-loose (BangWaits ∷ ws) h = h
Fits-loose (LeftWaits op left ∷ ws) h = absurd (omega (arith, level_low op))
Fits-loose _ h = tt

goes_on : (ws : List Waiting) (t : Tree) (ts : List Token) (token : Token) → Operand 8 ws t ts
    → IsRead (go_on ws t token) (ts ++ (token ∷ []))
goes_on ws t ts Close o = closes (joined_operand 1 ws t).0 (joined_operand 1 ws t).1 ts
    (joins 1 ws t ts (Operand-le 1 8 ws t ts (omega arith) o)).operand
goes_on ws t ts Colon o = colons (joined_operand 1 ws t).0 (joined_operand 1 ws t).1 ts
    (joins 1 ws t ts (Operand-le 1 8 ws t ts (omega arith) o)).operand
goes_on ws t ts Question o =
    let j = joins 2 ws t ts (Operand-le 2 8 ws t ts (omega arith) o) in (
      j.operand.before,
      j.operand.derivation,
      j.operand.holds,
      Fits-loose (joined_operand 2 ws t).0 j.stops,
      j.operand.part,
      adds_token ts j.operand.before (tokens_of j.operand.derivation) Question j.operand.tokens_are,
    )
goes_on ws t ts (Sign op) o =
    let j = joins (level op) ws t ts (Operand-le (level op) 8 ws t ts (omega (arith, level_high op)) o) in (
      j.operand.before,
      j.operand.derivation,
      j.operand.holds,
      j.stops,
      j.operand.part,
      adds_token ts j.operand.before (tokens_of j.operand.derivation) (Sign op) j.operand.tokens_are,
    )
goes_on ws t ts _ o = tt

steps_at : (ws : List Waiting) (o : Option Tree) (ts : List Token) (token : Token) → IsReadAt ws o ts
    → IsRead (step_at ws o token) (ts ++ (token ∷ []))
steps_at ws None ts token h = begins ws ts token h
steps_at ws (Some t) ts token h = goes_on ws t ts token h

step_reads : (s : Option State) (ts : List Token) (token : Token) → IsRead s ts
    → IsRead (step s token) (ts ++ (token ∷ []))
step_reads None ts token h = tt
step_reads (Some s) ts token h = steps_at s.waiting s.operand ts token h

pub steps_read : (more ts : List Token) (s : Option State) → IsRead s ts → IsRead (steps s more) (ts ++ more)
steps_read [] ts s h = rw (append-nil ts) h
steps_read (token ∷ more) ts s h = rw (← append_assoc ts (token ∷ []) more)
    (steps_read more (ts ++ (token ∷ [])) (step s token) (step_reads s ts token h))

ends : (ws : List Waiting) (t tree : Tree) (ts : List Token) → Operand 1 ws t ts → tree_at_end (ws, t) ≡ Some tree
    → Derives ts tree
ends [] t tree ts o e = record {
  derivation = o.derivation;
  grouped = o.part.grouped;
  tokens_are = o.tokens_are ∙ ap (λ (before : List Token). before ++ tokens_of o.derivation) o.holds;
  tree_is = let f = o.part.tree_is in cc (e, f);
}
ends (w ∷ ws) t tree ts o e = absurd (cc e)

finishes_at : (ws : List Waiting) (o : Option Tree) (ts : List Token) (tree : Tree) → IsReadAt ws o ts → finish_at ws o
    ≡ Some tree → Derives ts tree
finishes_at ws None ts tree h e = absurd (cc e)
finishes_at ws (Some t) ts tree h e = ends (joined_operand 1 ws t).0 (joined_operand 1 ws t).1 tree ts
    (joins 1 ws t ts (Operand-le 1 8 ws t ts (omega arith) h)).operand e

finishes : (s : Option State) (ts : List Token) (tree : Tree) → IsRead s ts → finish s ≡ Some tree → Derives ts tree
finishes None ts tree h e = absurd (cc e)
finishes (Some s) ts tree h e = finishes_at s.waiting s.operand ts tree h e

-- what the steps find is derived
pub derives_found : (tokens : List Token) (tree : Tree) → finish (steps start tokens) ≡ Some tree → Derives tokens tree
derives_found tokens tree e = finishes (steps start tokens) tokens tree (steps_read tokens [] start refl) e
