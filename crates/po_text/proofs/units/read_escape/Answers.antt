use Rattle.po_text.proofs.Kit.{refl, sym, ap, ◌∷◌, List, ℕ, ◌∙◌, Escape}
use Rattle.po_text.proofs.UnitLemmas.{octal_some}
use Rattle.po_text.proofs.units.read_escape.Goals as goal

pub read_octal-requires : goal.read_octal-requires
read_octal-requires c = rw c.in-Some.ensures (octal_some c.in-Some.letter c.in-Some.rest.now
    (sym c.is_octal_digit.ensures ∙ c.if-is_octal_digit.true))

pub returns-in-Some-escape_value-clause-ok : goal.returns-in-Some-escape_value-clause-ok
returns-in-Some-escape_value-clause-ok c = (
  Escape c.in-Some.letter c.in-Some-escape_value.value,
  (
    ap (λ (t : List ℕ). 92 ∷ t) c.in-Some.ensures,
    sym
        c.in-Some-escape_value.ensures,
  ),
  refl,
)
