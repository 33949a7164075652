use Rattle.std.proofs.Common.{◌≡◌, [], rules}
use Rattle.std.proofs.lemmas.Bool.{false≢true}
use Rattle.c_macros.proofs.SplitLemmas.{none_invalid, none_of}
use Rattle.c_macros.proofs.splitting.valid_parts.Goals as goal

pub returns-else-is_of : goal.returns-else-is_of
returns-else-is_of c =
    let none : c.new-none.result.items ≡ [] = search rules in
    none_of c.args.side c.args.text.now c.in-Ok.parts.items _ none c.in-Ok.ensures.ok.1
    (λ of. false≢true (c.if-is_of.ensures.1 (rw c.deref.ensures.value of)))

pub returns-in-Err-Invalid : goal.returns-in-Err-Invalid
returns-in-Err-Invalid c =
    let none : c.new-none.result.items ≡ [] = search rules in
    none_invalid c.args.side c.args.text.now _ none (rw c.in-Err-Invalid.field-0-is at c.in-Err-Invalid.ensures.err)
