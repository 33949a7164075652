use Rattle.std.proofs.Common.{◌≡◌, ℕ, List, take, Some, arith, subst}
use Rattle.std.specs.List.{fold}
use Rattle.std.proofs.lemmas.List.{take_all}
use Rattle.python_format.specs.PythonPieces.{open_after}
use Rattle.python_format.proofs.PartLemmas.{name_none}
use Rattle.python_format.proofs.parts.name_len.Goals as goal

pub returns : goal.returns
returns c name rest e balanced =
    let whole : take c.bytes.offset c.args.text.now ≡ c.args.text.now = take_all c.bytes.offset c.args.text.now
    (omega (arith, c.bytes-test.false, c.bytes.invariant.within)) in
    name_none c.args.text.now name rest c.bytes.depth
    (subst (λ (t : List ℕ). fold open_after (Some 0) t ≡ Some c.bytes.depth) whole c.bytes.invariant.depth) e balanced
