use Rattle.po_text.specs.Lexing.{string_of}
use Rattle.po_text.proofs.EndLemmas.{gap_ends, token_ends}
use Rattle.po_text.proofs.lexer.Lexer.next_token.Goals as goal

pub invariant_of-self : goal.invariant_of-self
invariant_of-self c =
    let old = c.args.self.now in
    record {
      ends = gap_ends old.flags c.gap_end-text.new.flags old.line c.gap_end-text.new.line old.rest.now
          c.gap_end-text.result.now c.gap_end-text.ensures.gap old.ends;
    }

pub read_token-requires-clause-ends : goal.read_token-requires-clause-ends
read_token-requires-clause-ends c =
    let old = c.args.self.now in
    gap_ends old.flags c.gap_end-text.new.flags old.line c.gap_end-text.new.line old.rest.now c.gap_end-text.result.now
    c.gap_end-text.ensures.gap old.ends

pub invariant_of-self-in-Ok : goal.invariant_of-self-in-Ok
invariant_of-self-in-Ok c =
    let old = c.args.self.now in
    let text = c.gap_end-text.result.now in
    record {
      ends = token_ends c.in-Ok.token (string_of c.read_token.new.bytes) text c.in-Ok.rest.now
          (gap_ends old.flags c.gap_end-text.new.flags old.line c.gap_end-text.new.line old.rest.now text
          c.gap_end-text.ensures.gap old.ends) c.in-Ok.ensures.ok;
    }
