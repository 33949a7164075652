use Rattle.std.proofs.Common.{rules, length}
use Rattle.std.proofs.lemmas.Bool.{eq-eqb}
use Rattle.std.proofs.lemmas.Iterator.{YieldsList-from_slice, YieldsList-from_zip}
use Rattle.std.proofs.lemmas.Iterator.Consumers.{YieldsList-at}
use Rattle.std.proofs.lemmas.Iterator.Search.{all_from_yields_List}
use Rattle.lisp_formats.specs.LispAgreement.{same_kind}
use Rattle.lisp_formats.proofs.agreement.are_same.Goals as goal

pub returns-then-original-translation : goal.returns-then-original-translation
returns-then-original-translation c =
    let same = eq-eqb (length c.args.original.now) (length c.args.translation.now) c.if-original-translation.true in
    rw same (all_from_yields_List (λ pair. same_kind pair.0 pair.1) c.all.new.self _ _ c.all.ensures.ran
    (YieldsList-from_zip (YieldsList-at c.zip.ensures.first (YieldsList-from_slice c.args.original.now
    c.iter.ensures.rest)) (YieldsList-at c.zip.ensures.second (YieldsList-from_slice c.args.translation.now
    c.iter-then-original-translation.ensures.rest))) (λ x b q k. search rules))
