use Rattle.po_text.proofs.Kit.{ℕ, ◌+◌, ◌≤◌, List, ◌++◌, length, Lexeme, TakesLexemes}
use Rattle.po_text.proofs.lexer.Lexer.skip_tokens.Given as goal

abbrev pub invariant-tokens : goal.invariant-tokens
invariant-tokens l = record {
  taken : (text : List ℕ) (found : List Lexeme) → TakesLexemes found 1 text l.initial.self.line l.initial.self.rest.now
      → (more : List Lexeme) × TakesLexemes (found ++ more) 1 text l.self.line l.self.rest.now;
  room : l.self.line + length l.self.rest.now ≤ l.initial.self.line + length l.initial.self.rest.now;
}

abbrev pub decreases-tokens : goal.decreases-tokens
decreases-tokens l = length l.self.rest.now
