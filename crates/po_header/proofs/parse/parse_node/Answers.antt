use Rattle.po_header.proofs.Kit.{refl, inr, node_tree}
use Rattle.std.proofs.lemmas.Result.{err_from_is_err_and}
use Rattle.po_header.proofs.FaultLemmas.{IsFault-map, IfErr-map, IfOk-map, is_nothing, is_something}
use Rattle.po_header.proofs.Running.{reads_token, refuses_token, refuses_stray, ends_well, ends_badly}
use Rattle.po_header.proofs.parse.parse_node.Goals as goal

pub returns-in_default-clause-err : goal.returns-in_default-clause-err
returns-in_default-clause-err c =
    inr (
      refl,
      refuses_stray c.args.text.now c.tokens.rest.now c.tokens.waiting.items c.tokens.operand
          c.tokens.invariant c.in_default.ensures.none (is_something _ c.tokens-test.ensures),
    )

pub returns-in_err-operand-clause-err : goal.returns-in_err-operand-clause-err
returns-in_err-operand-clause-err c =
    let p = err_from_is_err_and c.from_residual.result c.from_residual.ensures.1 in
    rw (p.1, p.2) (IsFault-map _ (refuses_token c.args.text.now c.tokens.rest.now c.in-Some.later.now
    c.tokens.waiting.items c.tokens.operand c.in-Some.token c.tokens.invariant c.in-Some.ensures.some)
    c.in_err-operand.ensures.err)

pub tokens-preserved : goal.tokens-preserved
tokens-preserved c =
    reads_token c.args.text.now c.tokens.rest.now c.in-Some.later.now c.skip_blanks-rest-in-tokens.result.now
    c.tokens.waiting.items c.take_token.new.waiting.items c.tokens.operand _ c.in-Some.token
    c.tokens.invariant c.in-Some.ensures.some c.in_ok-operand.ensures.ok c.skip_blanks-rest-in-tokens.ensures.blanks
    c.skip_blanks-rest-in-tokens.ensures.stops

pub returns-clause-ok : goal.returns-clause-ok
returns-clause-ok c =
    IfOk-map c.finish_node.result (λ node e. ends_well c.args.text.now c.tokens.rest.now c.tokens.waiting.items
    c.tokens.operand (node_tree node) c.tokens.invariant (is_nothing _ c.tokens-test.ensures) e)
    c.finish_node.ensures.ok

pub returns-clause-err : goal.returns-clause-err
returns-clause-err c =
    IfErr-map c.finish_node.result (ends_badly c.args.text.now c.tokens.rest.now c.tokens.waiting.items c.tokens.operand
    c.tokens.invariant (is_nothing _ c.tokens-test.ensures)) c.finish_node.ensures.err
