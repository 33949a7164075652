use Rattle.po_text.proofs.Kit.{◌≡◌, ℕ, ◌+◌, ◌≤◌, List, map, length, false, Entry, draft_of, HasParsed, stage_view}
use Rattle.po_text.specs.Parsing.{HasTakenTo}
use Rattle.po_text.specs.Buffers.{HasForm}
use Rattle.po_text.proofs.parser.Parser.next_entry.Given as goal

abbrev pub invariant-tokens : goal.invariant-tokens
invariant-tokens l = record {
  taken : (text : List ℕ) (entries : List Entry) → HasParsed text entries l.initial.self
      → HasTakenTo text (map draft_of entries) (draft_of l.into) l.self;
  form : HasForm (stage_view l.self.stage l.self.count) (draft_of l.into);
  not_finished : l.self.finished ≡ false;
  lines : l.self.lexer.line + length l.self.lexer.rest.now ≤ l.initial.self.lexer.line + length
      l.initial.self.lexer.rest.now;
  falls : length l.self.lexer.rest.now ≤ length l.initial.self.lexer.rest.now;
  counts : l.self.count + length l.self.lexer.rest.now ≤ l.initial.self.count + length l.initial.self.lexer.rest.now;
}

abbrev pub decreases-tokens : goal.decreases-tokens
decreases-tokens l = length l.self.lexer.rest.now
