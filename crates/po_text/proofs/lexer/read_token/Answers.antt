use Rattle.po_text.proofs.Kit.{◌≡◌, ℕ, List, ◌∷◌, refl, sym, ap, ◌∙◌, Some, IfOk, take_while, PoKind, Quoted, Word}
use Rattle.po_text.proofs.Kit.{PieceAt, is_word_byte, string_of, token_view}
use Rattle.std.proofs.Common.{Ok, Err, Result, arith}
use Rattle.std.proofs.lemmas.Grind.{common_steps}
use denote.Ref.{Bor}
use Rattle.po_text.specs.declared.lexer.Token as code
use Rattle.po_text.specs.Spelling as spec
use Rattle.po_text.specs.Lexing.{TakesToken}
use Rattle.po_text.proofs.lexer.read_token.Goals as goal

pub returns-in_ok-rest-clause-ok : goal.returns-in_ok-rest-clause-ok
returns-in_ok-rest-clause-ok c =
    let quote : c.args.text.now ≡ 34 ∷ c.in-Some.later.now = c.in-Some.ensures
    ∙ ap (λ (b : ℕ). b ∷ c.in-Some.later.now) c.if-byte-eq34.true in
    (Quoted (string_of c.read_string.new.bytes), rw quote c.in_ok-rest.ensures.ok, refl)

a_word : (text bytes : List ℕ) (r : Result (code.Token × Bor (List ℕ)) PoKind)
    → IfOk r (λ x. (token : spec.Token) × PieceAt (Word (take_while is_word_byte text) token) text x.1.now
    × ((bytes' : List ℕ) → token_view x.0 bytes' ≡ token)) → IfOk r (λ x. TakesToken x.0 bytes text x.1.now)
a_word text bytes (Ok x) h = (Word (take_while is_word_byte text) h.0, h.1, ap Some (sym (h.2 bytes)))
a_word text bytes (Err e) h = tt

pub returns-else-byte-eq93-clause-ok : goal.returns-else-byte-eq93-clause-ok
returns-else-byte-eq93-clause-ok c = a_word c.args.text.now (string_of c.args.bytes.now) c.read_word.result
    c.read_word.ensures.ok

pub returns-else-byte-eq93-clause-err : goal.returns-else-byte-eq93-clause-err
returns-else-byte-eq93-clause-err c = grind (arith, common_steps)
