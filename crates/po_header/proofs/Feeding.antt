-- The parser's steps find the tree that the tokens derive.
use Rattle.po_header.proofs.Kit.{◌≡◌, ℕ, ◌<◌, ◌≤◌, List, [], ◌∷◌, ◌++◌, Option, Some, refl, sym, ap, ◌∙◌, arith, le-leb}
use Rattle.po_header.proofs.Kit.{lt-leb, Operator, Token, Tree, Derives, Waiting, BranchWaits, State, with_operand}
use Rattle.po_header.proofs.Kit.{joined_operand, negated_operand, colon, close, step, steps, start, tree_at_end, finish}
use Rattle.po_header.specs.declared.token.Operator.TheVariants.{Or}
use Rattle.po_header.specs.declared.token.Token.TheVariants.{Close, Question, Colon, Sign}
use Rattle.po_header.specs.Grammar.{Derivation, Name, Numeral, Bracketed, Negated, Joined}
use Rattle.po_header.specs.Grammar.{Chosen, level, level_of, IsGrouped, tokens_of, derived_tree}
use Rattle.po_header.specs.Stack.{BracketWaits, BangWaits, LeftWaits, ConditionWaits, without_operand, left_waits}
use Rattle.po_header.specs.Stack.{condition_waits}

-- ---- levels

pub level_low : (op : Operator) → 2 ≤ level op
level_low Or = omega arith
level_low _ = omega arith

pub level_high : (op : Operator) → level op ≤ 7
level_high Or = omega arith
level_high _ = omega arith

pub level_some : (d : Derivation) → 1 ≤ level_of d
level_some (Joined op a b) = omega (arith, level_low op)
level_some _ = omega arith

-- ---- what waits

-- an operand of this level may follow what waits
abbrev pub Fits : List Waiting → ℕ → Type 0
Fits (BangWaits ∷ ws) k = ⊥
Fits (LeftWaits op left ∷ ws) k = level op < k
Fits _ k = Unit {0}

pub Fits-le : (ws : List Waiting) (j k : ℕ) → j ≤ k → Fits ws j → Fits ws k
Fits-le (BangWaits ∷ ws) j k le h = h
Fits-le (LeftWaits op left ∷ ws) j k le h = omega arith
Fits-le _ j k le h = tt

-- what waits on looser levels keeps waiting
joined-Fits : (k : ℕ) (ws : List Waiting) (t : Tree) → 2 ≤ k → Fits ws k → joined_operand k ws t ≡ (ws, t)
joined-Fits k (LeftWaits op left ∷ ws) t some h = rw (lt-leb k (level op) h) refl
joined-Fits k (BranchWaits c a ∷ ws) t some h = let lt : 1 < k = omega arith in rw (lt-leb k 1 lt) refl
joined-Fits k _ t some h = refl

negated-Fits : (k : ℕ) (ws : List Waiting) (t : Tree) → Fits ws k → negated_operand ws t ≡ (ws, t)
negated-Fits k (BangWaits ∷ ws) t h = absurd h
negated-Fits k _ t h = refl

pub steps-append : (a b : List Token) (s : Option State) → steps s (a ++ b) ≡ steps (steps s a) b
steps-append [] b s = refl
steps-append (t ∷ a) b s = steps-append a b (step s t)

-- ---- derivations

-- after what waits, the derivation's tokens leave an operand that joins as the derivation's tree does
pub record Reads (d : Derivation) (ws : List Waiting) : Type 0 where
  pub waiting : List Waiting
  pub operand : Tree
  pub after : steps (without_operand ws) (tokens_of d) ≡ with_operand (waiting, operand)
  pub joins : (k : ℕ) → k ≤ level_of d → joined_operand k waiting operand ≡ joined_operand k ws (derived_tree d)

pub record Feeds (d : Derivation) : Type 0 where
  pub tight : 8 ≤ level_of d → (ws : List Waiting) → steps (without_operand ws) (tokens_of d)
      ≡ with_operand (negated_operand ws (derived_tree d))
  pub all : (ws : List Waiting) → Fits ws (level_of d) → Reads d ws

tight_feeds : (d : Derivation) → ((ws : List Waiting) → steps (without_operand ws) (tokens_of d)
    ≡ with_operand (negated_operand ws (derived_tree d))) → Feeds d
tight_feeds d h = record {
  tight = λ high. h;
  all = λ ws fits. record {
    waiting = ws;
    operand = derived_tree d;
    after = h ws ∙ ap with_operand (negated-Fits (level_of d) ws (derived_tree d) fits);
    joins = λ k le. refl;
  };
}

-- the first of two derivations, followed by more tokens
after_first : (d : Derivation) (ws : List Waiting) (more : List Token) → (r : Reads d ws)
    → steps (without_operand ws) (tokens_of d ++ more) ≡ steps (with_operand (r.waiting, r.operand)) more
after_first d ws more r = steps-append (tokens_of d) more (without_operand ws)
    ∙ ap (λ (s : Option State). steps s more) r.after

bracketed_feeds : (d : Derivation) → Feeds d → Feeds (Bracketed d)
bracketed_feeds d h = tight_feeds (Bracketed d) (λ ws.
    let r = h.all (BracketWaits ∷ ws) tt in
    after_first d (BracketWaits ∷ ws) (Close ∷ []) r ∙ ap close (r.joins 1 (level_some d)))

joined_feeds : (op : Operator) (a b : Derivation) → Feeds a → Feeds b → level op ≤ level_of a → level op < level_of b
    → Feeds (Joined op a b)
joined_feeds op a b h g le lt = record {
  tight = λ high. absurd (omega (arith, level_high op));
  all = λ ws fits.
      let q = h.all ws (Fits-le ws (level op) (level_of a) le fits) in
      let r = g.all (LeftWaits op (derived_tree a) ∷ ws) lt in
      record {
        waiting = r.waiting;
        operand = r.operand;
        after =
            after_first a ws (Sign op ∷ tokens_of b) q
            ∙ ap (λ (p : List Waiting × Tree). steps (left_waits op p) (tokens_of b))
            (q.joins (level op) le ∙ joined-Fits (level op) ws (derived_tree a) (level_low op) fits)
            ∙ r.after;
        joins = λ k small. r.joins k (omega arith) ∙ rw (le-leb k (level op) small) refl;
      };
}

chosen_feeds : (c a b : Derivation) → Feeds c → Feeds a → Feeds b → 2 ≤ level_of c → Feeds (Chosen c a b)
chosen_feeds c a b h g f le = record {
  tight = λ high. absurd (omega arith);
  all = λ ws fits.
      let p = h.all ws (Fits-le ws 1 (level_of c) (omega arith) fits) in
      let q = g.all (ConditionWaits (derived_tree c) ∷ ws) tt in
      let r = f.all (BranchWaits (derived_tree c) (derived_tree a) ∷ ws) tt in
      let two : 2 ≤ 2 = omega arith in
      record {
        waiting = r.waiting;
        operand = r.operand;
        after =
            after_first c ws (Question ∷ tokens_of a ++ (Colon ∷ tokens_of b)) p
            ∙ ap (λ (w : List Waiting × Tree). steps (condition_waits w) (tokens_of a ++ (Colon ∷ tokens_of b)))
            (p.joins 2 le ∙ joined-Fits 2 ws (derived_tree c) two (Fits-le ws 1 2 (omega arith) fits))
            ∙ after_first a (ConditionWaits (derived_tree c) ∷ ws) (Colon ∷ tokens_of b) q
            ∙ ap (λ (w : List Waiting × Tree). steps (colon w) (tokens_of b)) (q.joins 1 (level_some a))
            ∙ r.after;
        joins = λ k small. r.joins k (omega (arith, level_some b)) ∙ rw (le-leb k 1 small) refl;
      };
}

pub feeds : (d : Derivation) → IsGrouped d → Feeds d
feeds Name g = tight_feeds Name (λ ws. refl)
feeds (Numeral v) g = tight_feeds (Numeral v) (λ ws. refl)
feeds (Bracketed d) g = bracketed_feeds d (feeds d g)
feeds (Negated d) g = tight_feeds (Negated d) (λ ws. (feeds d g.0).tight g.1 (BangWaits ∷ ws))
feeds (Joined op a b) g = joined_feeds op a b (feeds a g.0) (feeds b g.1) g.2 g.3
feeds (Chosen c a b) g = chosen_feeds c a b (feeds c g.0) (feeds a g.1) (feeds b g.2) g.3

-- the steps find the tree that the tokens derive
pub finds_tree : (tokens : List Token) (tree : Tree) → Derives tokens tree → finish (steps start tokens) ≡ Some tree
finds_tree tokens tree h =
    let r = (feeds h.derivation h.grouped).all [] tt in
    ap (λ (ts : List Token). finish (steps start ts)) h.tokens_are ∙ ap finish r.after
    ∙ ap tree_at_end (r.joins 1 (level_some h.derivation)) ∙ ap Some (sym h.tree_is)

-- tokens derive at most one tree
pub Derives-one : (tokens : List Token) (tree other : Tree) → Derives tokens tree → Derives tokens other → tree ≡ other
Derives-one tokens tree other h g = let e = finds_tree tokens tree h in let f = finds_tree tokens other g in cc (e, f)
