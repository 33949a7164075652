use Rattle.po_header.proofs.FaultLemmas.{IfOk-map}
use Rattle.dependent_po.proofs.MeaningLemmas.{gathered_of, IfErr-map}
use Rattle.dependent_po.proofs.SplitPlaces.{means_split}
use Rattle.dependent_po.proofs.compiler.compile_dependent.Goals as goal

pub returns-clause-split : goal.returns-clause-split
returns-clause-split c =
    let text = c.args.text.now in
    let of = gathered_of text c.args.options c.in_ok-gathered.gathered c.in_ok-check_front.ensures.ok
    c.in_ok-gathered.ensures.ok in
    IfOk-map c.compile_gathered.result (λ compiled says. means_split text c.args.options compiled (says text of))
    c.compile_gathered.ensures.ok

pub returns-clause-err : goal.returns-clause-err
returns-clause-err c =
    let text = c.args.text.now in
    let of = gathered_of text c.args.options c.in_ok-gathered.gathered c.in_ok-check_front.ensures.ok
    c.in_ok-gathered.ensures.ok in
    IfErr-map c.compile_gathered.result (λ fault says. says text of) c.compile_gathered.ensures.err
