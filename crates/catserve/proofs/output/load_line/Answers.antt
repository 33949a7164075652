use Rattle.catserve.proofs.Common.{◌∙◌, ◌++◌, ◌∷◌, [], ap, sym, append_assoc, codes}
use Rattle.std.specs.Fmt.{decimal}
use Rattle.catserve.proofs.output.load_line.Goals as goal

pub returns-in_ok-line-in-Ok-Po : goal.returns-in_ok-line-in-Ok-Po
returns-in_ok-line-in-Ok-Po c =
    let is = rw c.in-Ok-Po.is at c.in-Ok-Po.field-0-is in
    rw (c.in-Ok-Po.is, is) (simp append_assoc c.in_ok-line-in-Ok-Po.ensures.ok)

pub returns-in_ok-line-in-Err-Refused : goal.returns-in_ok-line-in-Err-Refused
returns-in_ok-line-in-Err-Refused c =
    let number = decimal c.po_number-number.result in
    let is = rw c.in-Err-Refused.is at c.in-Err-Refused.field-0-is in
    rw (c.in-Err-Refused.is, is, ← c.po_number-number.ensures.number) (c.in_ok-line-in-Err-Refused.ensures.ok
    ∙ ap (λ xs. codes "refused" ++ 9 ∷ xs)
    (sym (append_assoc number (9 ∷ decimal c.in-Err-Refused.fault.line) (10 ∷ []))))
