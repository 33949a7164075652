use Rattle.po_text.proofs.Kit.{inl, inr, ◌++◌, ◌∷◌, [], string_of}
use Rattle.po_text.proofs.Taking.{refused_is_faulty}
use Rattle.po_text.proofs.parser.Parser.refuse.Goals as goal

pub returns-in-Ok : goal.returns-in-Ok
returns-in-Ok c =
    let r = c.args.self.now in
    inr (λ text h.
    let s = c.in-Ok.ensures.ok text (h.found ++ (h.x ∷ [])) h.takes in
    refused_is_faulty text r.lexer.line r.lexer.rest.now _ r.keyword_line _ c.refusal_of-fault.result h s.0 s.1
    (c.refusal_of-fault.ensures (string_of r.bytes) r.count))

pub returns-in-Err : goal.returns-in-Err
returns-in-Err c = elim c.in-Err.ensures.err [
  | inl e ↦ inl e
  | inr f ↦ inr (λ text h. inl (f text (h.found ++ (h.x ∷ [])) h.takes))
]
