use Rattle.po_text.proofs.Kit.{◌++◌, ◌∷◌, [], List, arith, inl, inr, append_assoc, subst, err_from_is_err_and, Lexeme}
use Rattle.po_text.proofs.Kit.{string_of, TakesLexemes}
use Rattle.po_text.proofs.LexemeLemmas.{lexemes_push, lexemes_end, lexemes_fault, lexeme_of}
use Rattle.po_text.proofs.lexer.Lexer.skip_tokens.Goals as goal

pub returns-in_err-next_token-clause-err : goal.returns-in_err-next_token-clause-err
returns-in_err-next_token-clause-err c =
    let p = err_from_is_err_and c.from_residual.result c.from_residual.ensures.1 in
    rw (p.1, p.2) (elim c.in_err-next_token.ensures.err [
      | inl e ↦ inl e
      | inr h ↦ inr (λ text found taken. let t = c.tokens.invariant.taken text found taken in lexemes_fault
          (found ++ t.0) c.tokens.self.line text c.tokens.self.rest.now c.tokens.self.flags _ _ t.1 h)
    ])

pub tokens-preserved : goal.tokens-preserved
tokens-preserved c =
    let next = rw c.in-Some.is at c.in_ok-next_token.ensures.next in
    record {
      taken = λ text found taken.
          let t = c.tokens.invariant.taken text found taken in
          let l = lexeme_of c.in-Some.field-0 (string_of c.next_token.new.bytes) c.next_token.new.self.line
          next.gap.pieces in (
            t.0 ++ l ∷ [],
            subst (λ (ls : List Lexeme). TakesLexemes ls 1 text c.next_token.new.self.line
                c.next_token.new.self.rest.now) (append_assoc found t.0 (l ∷ []))
                (lexemes_push (found ++ t.0) 1 c.tokens.self.line c.next_token.new.self.line text c.tokens.self.rest.now
                c.next_token.new.self.rest.now c.tokens.self.flags c.next_token.new.self.flags c.in-Some.field-0
                (string_of c.next_token.new.bytes) t.1 next),
          );
      room = omega (arith, next.gap.room, next.shorter, c.tokens.invariant.room);
    }

pub tokens-smaller : goal.tokens-smaller
tokens-smaller c =
    let next = rw c.in-Some.is at c.in_ok-next_token.ensures.next in
    omega (arith, next.shorter, next.gap.falls)

pub returns-clause-ok : goal.returns-clause-ok
returns-clause-ok c text found taken =
    let end = rw c.in_default.is at c.in_ok-next_token.ensures.next in
    let t = c.tokens.invariant.taken text found taken in
    (t.0, lexemes_end (found ++ t.0) c.tokens.self.line text c.tokens.self.rest.now c.tokens.self.flags t.1 end)
