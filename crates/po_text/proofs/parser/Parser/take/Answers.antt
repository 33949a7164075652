use Rattle.po_text.proofs.Kit.{List, [], Some, refl, sym, ap, ◌∙◌, Draft, draft_of, at_state, begin, no_flags, some_if}
use Rattle.po_text.proofs.Kit.{stage_view, string_of, token_view}
use Rattle.po_text.specs.Stages.{next_count}
use Rattle.po_text.specs.Parsing.{is_context_word}
use Rattle.po_text.proofs.Begun.{can_add, put_form, opening_form, opens_opening}
use Rattle.po_text.proofs.Taking.{feed_open, opens_to, at_start}
use Rattle.po_text.proofs.parser.Parser.take.Goals as goal

pub returns-then-is_start-clause-taken : goal.returns-then-is_start-clause-taken
returns-then-is_start-clause-taken c done =
    let st = c.requires.stands in
    let r = c.args.self.now in
    let p = stage_view r.stage r.count in
    let t = token_view c.args.token (string_of r.bytes) in
    let o = c.if-not-opens_entry.ensures (string_of r.bytes) r.count in
    let empty = c.if-is_start.ensures r.count in
    feed_open p t c.args.stage _ r.count _ done (draft_of c.args.into.now) r.lexer.flags r.keyword_line r.lexer.line st
    o
    ∙ ap (λ (x : List Draft). Some (at_state (stage_view c.args.stage r.count) x
    (begin r.lexer.line r.lexer.flags (some_if (is_context_word c.args.stage) [])) no_flags r.lexer.line))
    (at_start p done (draft_of c.args.into.now) empty)
    ∙ ap (λ (x : Draft). Some (at_state (stage_view c.args.stage r.count) done x no_flags r.lexer.line))
    (sym (c.begin.ensures ∙ rw c.is_context.ensures refl))

pub returns-clause-taken : goal.returns-clause-taken
returns-clause-taken c done =
    let st = c.requires.stands in
    let r = c.args.self.now in
    let p = stage_view r.stage r.count in
    let t = token_view c.args.token (string_of r.bytes) in
    let o = c.if-not-opens_entry.ensures (string_of r.bytes) r.count in
    let some = c.if-is_start.ensures r.count done (draft_of c.args.into.now) in (
      (opens_to p t _ _ st o).0,
      some,
      refl,
      feed_open p t c.args.stage _ r.count _ done (draft_of c.args.into.now) r.lexer.flags r.keyword_line r.lexer.line
          st o
          ∙ ap (λ (x : List Draft). Some (at_state (stage_view c.args.stage r.count) x
          (begin r.lexer.line r.lexer.flags (some_if (is_context_word c.args.stage) [])) no_flags r.lexer.line))
          some,
    )

pub put-requires : goal.put-requires
put-requires c k =
    let r = c.args.self.now in
    rw c.as_slice.ensures (can_add r.stage r.count k c.args.token (string_of r.bytes) _ (draft_of c.args.into.now)
    c.requires.stands c.requires.lawful c.requires.form)

pub returns-then-not-opens_entry-clause-form : goal.returns-then-not-opens_entry-clause-form
returns-then-not-opens_entry-clause-form c =
    let r = c.args.self.now in
    let t = token_view c.args.token (string_of r.bytes) in
    let put = rw c.as_slice.ensures at (c.in_ok-put.ensures r.count) in
    rw (c.forms_after-self.ensures.is, put) (put_form r.lexer.line (stage_view r.stage r.count) t
    (stage_view c.args.stage (next_count r.stage c.args.token r.count)) (draft_of c.args.into.now) c.requires.stands
    (c.if-not-opens_entry.ensures (string_of r.bytes) r.count) c.requires.form)

pub returns-then-is_start-clause-form : goal.returns-then-is_start-clause-form
returns-then-is_start-clause-form c =
    let r = c.args.self.now in
    opening_form c.args.stage r.count (draft_of c.begin.new.self)
    (opens_opening (stage_view r.stage r.count) (token_view c.args.token (string_of r.bytes)) c.args.stage _ _
    c.requires.stands (c.if-not-opens_entry.ensures (string_of r.bytes) r.count))

pub returns-clause-form : goal.returns-clause-form
returns-clause-form c =
    let r = c.args.self.now in
    opens_opening (stage_view r.stage r.count) (token_view c.args.token (string_of r.bytes)) c.args.stage _ _
    c.requires.stands (c.if-not-opens_entry.ensures (string_of r.bytes) r.count)
