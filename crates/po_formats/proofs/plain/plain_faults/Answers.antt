use Rattle.std.proofs.Common.{inl, inr, ◌∙◌}
use Rattle.std.proofs.lemmas.Result.{err_from_is_err_and, IfOk-weaker}
use Rattle.po_header.specs.Rules.{rule_of}
use Rattle.po_formats.proofs.PlainLemmas.{charset_refuses, has_faults}
use Rattle.po_formats.proofs.plain.plain_faults.Goals as goal

pub returns-in_err-rule-clause-err : goal.returns-in_err-rule-clause-err
returns-in_err-rule-clause-err c =
    let p = err_from_is_err_and c.from_residual-in_err-rule.result c.from_residual-in_err-rule.ensures.1 in
    let fault = c.in_err-rule.field-0.0 in
    rw (p.1, p.2) (elim c.in_err-rule.ensures.err [
      | inl e ↦ inl e
      | inr foreign ↦ inr (charset_refuses c.args.text.now c.args.options c.in_ok-header.header fault
          c.in_ok-header.ensures.ok foreign)
    ])

pub returns-clause-ok : goal.returns-clause-ok
returns-clause-ok c = IfOk-weaker c.faults_of_entries.result _ _ (λ faults found.
    has_faults c.args.text.now c.args.options c.in_ok-header.header (rule_of c.in_ok-rule.rule)
    c.as_slice.result.now faults.items c.in_ok-header.ensures.ok c.in_ok-rule.ensures.ok
    (c.as_slice.ensures.value ∙ c.in_ok-often.ensures) found) c.faults_of_entries.ensures.ok
