-- The parser's steps through a text.
use Rattle.po_header.proofs.Kit.{◌≡◌, ◌≢◌, List, [], ◌∷◌, ◌++◌, Option, Some, None, refl, sym, ap, ◌∙◌, Token, Node}
use Rattle.po_header.proofs.Kit.{Begins, Tree, IsStray, State, start, step, steps, finish}
use Rattle.po_header.specs.declared.parse.Frame.{Frame}
use Rattle.std.specs.Prelude.{ℕ}
use Rattle.po_header.specs.Expression.{SpellsTree}
use Rattle.po_header.specs.ExprParsing.{StopsBlanks}
use Rattle.po_header.specs.Frames.{state_of}
use Rattle.po_header.proofs.Feeding.{steps-append, finds_tree}
use Rattle.po_header.proofs.Holding.{derives_found}
use Rattle.po_header.proofs.OneSpelling.{Begins-append, spelled_after, stray_behind, Spells-one}

-- what the parser has read of a text, up to rest
pub record HasRead (text rest : List ℕ) (frames : List Frame) (operand : Option Node) : Type 0 where
  pub tokens : List Token
  pub begins : Begins tokens text rest
  pub state : steps start tokens ≡ Some (state_of frames operand)
  pub stops : StopsBlanks rest

pub reads_nothing : (text rest : List ℕ) (frames : List Frame) → frames ≡ [] → Begins [] text rest → StopsBlanks rest
    → HasRead text rest frames None
reads_nothing text rest frames none b stops = record { tokens = []; begins = b; state = rw none refl; stops = stops }

steps-one : (tokens : List Token) (token : Token) (s : Option State) → steps start tokens ≡ s
    → steps start (tokens ++ (token ∷ [])) ≡ step s token
steps-one tokens token s e = steps-append tokens (token ∷ []) start ∙ ap (λ (o : Option State). step o token) e

pub reads_token : (text rest later then : List ℕ) (frames frames' : List Frame) (operand operand' : Option Node)
    (token : Token) → HasRead text rest frames operand → Begins (token ∷ []) rest later
    → step (Some (state_of frames operand)) token ≡ Some (state_of frames' operand') → Begins [] later then
    → StopsBlanks then → HasRead text then frames' operand'
reads_token text rest later then frames frames' operand operand' token h b e blanks stops = record {
  tokens = (h.tokens ++ (token ∷ [])) ++ [];
  begins = Begins-append (h.tokens ++ (token ∷ [])) [] text later then
      (Begins-append h.tokens (token ∷ []) text rest later h.begins b) blanks;
  state = steps-append (h.tokens ++ (token ∷ [])) [] start ∙ steps-one h.tokens token _ h.state ∙ e;
  stops = stops;
}

steps-none : (tokens : List Token) → steps None tokens ≡ None
steps-none [] = refl
steps-none (t ∷ tokens) = steps-none tokens

-- a token is refused, so the text derives no tree
pub refuses_token : (text rest later : List ℕ) (frames : List Frame) (operand : Option Node) (token : Token)
    → HasRead text rest frames operand → Begins (token ∷ []) rest later → step (Some (state_of frames operand)) token
    ≡ None → (tree : Tree) → ¬ SpellsTree text tree
refuses_token text rest later frames operand token h b e tree s =
    let r = spelled_after (h.tokens ++ (token ∷ [])) s.tokens text later
    (Begins-append h.tokens (token ∷ []) text rest later h.begins b) s.spells in
    let none : steps start s.tokens ≡ None =
    ap (λ (ts : List Token). steps start ts) r.1 ∙ steps-append (h.tokens ++ (token ∷ [])) r.0 start
    ∙ ap (λ (o : Option State). steps o r.0) (steps-one h.tokens token _ h.state ∙ e) ∙ steps-none r.0
    in
    let found = finds_tree s.tokens tree s.derives in
    let f = ap finish none in
    absurd (cc (found, f))

-- no token is where one is needed
pub refuses_stray : (text rest : List ℕ) (frames : List Frame) (operand : Option Node)
    → HasRead text rest frames operand → IsStray rest → rest ≢ [] → (tree : Tree) → ¬ SpellsTree text tree
refuses_stray text rest frames operand h stray some tree s = stray_behind h.tokens s.tokens text rest h.begins stray
    some s.spells

pub ends_well : (text rest : List ℕ) (frames : List Frame) (operand : Option Node) (tree : Tree)
    → HasRead text rest frames operand → rest ≡ [] → finish (Some (state_of frames operand)) ≡ Some tree
    → SpellsTree text tree
ends_well text rest frames operand tree h none e = record {
  tokens = h.tokens;
  spells = rw none at h.begins;
  derives = derives_found h.tokens tree (ap finish h.state ∙ e);
}

-- the text ends too early
pub ends_badly : (text rest : List ℕ) (frames : List Frame) (operand : Option Node) → HasRead text rest frames operand
    → rest ≡ [] → finish (Some (state_of frames operand)) ≡ None → (tree : Tree) → ¬ SpellsTree text tree
ends_badly text rest frames operand h none e tree s =
    let same = Spells-one text h.tokens s.tokens (rw none at h.begins) s.spells in
    let found = finds_tree s.tokens tree s.derives in
    let f = ap (λ (ts : List Token). finish (steps start ts)) (sym same) ∙ ap finish h.state ∙ e in
    absurd (cc (found, f))
