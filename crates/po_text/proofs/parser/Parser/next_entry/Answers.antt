use Rattle.po_text.specs.Faults.{out_of_memory}
use Rattle.po_text.proofs.Kit.{◌≡◌, ℕ, List, map, true, inl, inr, sym, ap, ◌∙◌, arith, subst, length, ◌⊎◌, Result, Ok}
use Rattle.po_text.proofs.Kit.{Err, IfOk, BadOrder, Flags, Entry, IsFaulty, err_from_is_err_and, draft_of, at_state}
use Rattle.po_text.proofs.Kit.{HasParsed, stage_view, IsBoundary, string_of, HasEnd}
use Rattle.std.specs.Prelude.{IfErr, Bool}
use Rattle.po_text.specs.declared.fault.PoFault.{PoFault}
use Rattle.po_text.specs.declared.parser.Parser.{Parser}
use Rattle.po_text.specs.Parsing.{HasTaken, ParsesOn, EndsRight}
use Rattle.po_text.proofs.LexemeLemmas.{lexemes_fault}
use Rattle.po_text.proofs.Taking.{taken_push, opening_goes_on, end_goes_on, end_is_faulty, taken_refused}
use Rattle.po_text.proofs.parser.Parser.next_entry.Goals as goal

pub returns-in_err-token-clause-fault : goal.returns-in_err-token-clause-fault
returns-in_err-token-clause-fault c =
    let p = err_from_is_err_and c.from_residual.result c.from_residual.ensures.1 in
    let l = c.tokens.self.lexer in
    rw (p.1, p.2) (elim c.in_err-token.ensures.err [
      | inl e ↦ inl e
      | inr h ↦ inr (λ text entries had. let t = c.tokens.invariant.taken text entries had in inl
          (lexemes_fault t.found l.line text l.rest.now l.flags _ _ t.takes h))
    ])

end_ok : (r : Result Bool PoFault) (old new : Parser) (e : Entry) (f : Flags) (line : ℕ) (rest : List ℕ) (from : Parser)
    → IfOk r (λ ended. EndsRight ended old) → IfOk r (λ _. new.finished ≡ true) → HasEnd f line rest
    → ((text : List ℕ) (entries : List Entry) → HasParsed text entries from
    → HasTaken text line rest (at_state (stage_view old.stage old.count) (map draft_of entries) (draft_of e) f
    old.keyword_line))
    → IfOk r (λ more. (text : List ℕ) (entries : List Entry) → HasParsed text entries from
    → ParsesOn more text entries e new)
end_ok (Ok ended) old new e f line rest from right done end taken = λ text entries had. end_goes_on ended text entries
    line rest old new e f old.keyword_line (taken text entries had) end right done
end_ok (Err fault) old new e f line rest from right done end taken = tt

end_err : (r : Result Bool PoFault) (old : Parser) (e : Entry) (f : Flags) (line : ℕ) (rest : List ℕ) (from : Parser)
    → IfErr r (λ fault. (¬ IsBoundary (stage_view old.stage old.count)) × (fault.kind ≡ BadOrder) × (fault.line ≡ line))
    → HasEnd f line rest
    → ((text : List ℕ) (entries : List Entry) → HasParsed text entries from
    → HasTaken text line rest (at_state (stage_view old.stage old.count) (map draft_of entries) (draft_of e) f
    old.keyword_line))
    → IfErr r (λ fault. (fault ≡ out_of_memory) ⊎ ((text : List ℕ) (entries : List Entry) → HasParsed text entries from
    → IsFaulty text fault.kind fault.line))
end_err (Ok ended) old e f line rest from fault end taken = tt
end_err (Err fault) old e f line rest from (inside, kind, at) end taken = inr
    (λ text entries had. end_is_faulty text line rest (stage_view old.stage old.count) (map draft_of entries)
    (draft_of e) f old.keyword_line fault.kind fault.line (taken text entries had) end inside kind at)

pub returns-in_default-clause-read : goal.returns-in_default-clause-read
returns-in_default-clause-read c =
    let l = c.tokens.self.lexer in
    let end = rw c.in_default.is at c.in_ok-token.ensures.next in
    end_ok c.end.result _ c.end.new.self c.tokens.into l.flags l.line l.rest.now c.args.self.now c.end.ensures.right
    c.end.ensures.finished end c.tokens.invariant.taken

pub returns-in_default-clause-fault : goal.returns-in_default-clause-fault
returns-in_default-clause-fault c =
    let l = c.tokens.self.lexer in
    let end = rw c.in_default.is at c.in_ok-token.ensures.next in
    end_err c.end.result c.tokens.self c.tokens.into l.flags l.line l.rest.now c.args.self.now c.end.ensures.fault end
    c.tokens.invariant.taken

pub returns-in_default-next_stage-clause-fault : goal.returns-in_default-next_stage-clause-fault
returns-in_default-next_stage-clause-fault c =
    let next = rw c.in-Some.is at c.in_ok-token.ensures.next in
    let l = c.tokens.self.lexer in
    elim c.refuse.ensures [
      | inl e ↦ inl e
      | inr f ↦ inr (λ text entries had.
          let t = c.tokens.invariant.taken text entries had in
          f text (taken_refused text l.line c.next_token.new.self.line l.rest.now c.next_token.new.self.rest.now
          (stage_view c.tokens.self.stage c.tokens.self.count) (map draft_of entries) (draft_of c.tokens.into)
          l.flags c.next_token.new.self.flags c.tokens.self.keyword_line c.in-Some.token
          (string_of c.next_token.new.bytes) t next c.in_default-next_stage.ensures))
    ]

pub returns-then-branch-clause-read : goal.returns-then-branch-clause-read
returns-then-branch-clause-read c text entries had =
    let next = rw c.in-Some.is at c.in_ok-token.ensures.next in
    let l = c.tokens.self.lexer in
    let p = stage_view c.tokens.self.stage c.tokens.self.count in
    let e = c.tokens.into in
    let d = draft_of e in
    let t = c.tokens.invariant.taken text entries had in
    let (b, last, same, fed) = rw c.if-branch.true at (c.in_ok-take.ensures.taken (map draft_of entries)) in
    let pushed = taken_push text l.line c.next_token.new.self.line l.rest.now c.next_token.new.self.rest.now p
    (map draft_of entries) d l.flags c.next_token.new.self.flags c.tokens.self.keyword_line _ c.in-Some.token
    (string_of c.next_token.new.bytes) t next fed in
    let on = opening_goes_on text entries l.line l.rest.now p e l.flags c.tokens.self.keyword_line c.take.new.self t b
    last (rw (c.in_ok-take.ensures.line, c.in_ok-take.ensures.rest) pushed)
    (c.in_ok-take.ensures.finished ∙ c.tokens.invariant.not_finished) in
    subst (λ (x : Entry). ParsesOn true text entries x c.take.new.self) (sym same) on

pub tokens-preserved : goal.tokens-preserved
tokens-preserved c =
    let next = rw c.in-Some.is at c.in_ok-token.ensures.next in
    let l = c.tokens.self.lexer in
    let p = stage_view c.tokens.self.stage c.tokens.self.count in
    record {
      taken = λ text entries had.
          let t = c.tokens.invariant.taken text entries had in
          let fed = rw c.if-branch.false at (c.in_ok-take.ensures.taken (map draft_of entries)) in
          rw (c.in_ok-take.ensures.line, c.in_ok-take.ensures.rest)
          (taken_push text l.line c.next_token.new.self.line l.rest.now c.next_token.new.self.rest.now p
          (map draft_of entries) (draft_of c.tokens.into) l.flags c.next_token.new.self.flags
          c.tokens.self.keyword_line _ c.in-Some.token (string_of c.next_token.new.bytes) t next fed);
      form = rw c.if-branch.false at c.in_ok-take.ensures.form;
      not_finished = c.in_ok-take.ensures.finished ∙ c.tokens.invariant.not_finished;
      lines = omega (
        arith,
        next.gap.room,
        next.shorter,
        c.tokens.invariant.lines,
        ap (λ (x : List ℕ). length x)
            c.in_ok-take.ensures.rest,
        c.in_ok-take.ensures.line,
      );
      falls = omega (
        arith,
        next.gap.falls,
        next.shorter,
        c.tokens.invariant.falls,
        ap (λ (x : List ℕ). length x)
            c.in_ok-take.ensures.rest,
      );
      counts = omega (
        arith,
        next.gap.falls,
        next.shorter,
        c.tokens.invariant.counts,
        ap (λ (x : List ℕ). length x)
            c.in_ok-take.ensures.rest,
        c.in_ok-take.ensures.count,
      );
    }
