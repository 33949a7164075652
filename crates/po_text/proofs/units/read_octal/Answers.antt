use Rattle.po_text.proofs.Kit.{sym, arith, Octal}
use Rattle.po_text.proofs.UnitLemmas.{octal_unit}
use Rattle.po_text.proofs.units.read_octal.Goals as goal

pub returns-clause-ok : goal.returns-clause-ok
returns-clause-ok c =
    let value = c.octal_number-value.ensures (omega arith) in (
      Octal c.octal_digits.result.0.now,
      octal_unit c.octal_digits.result.0.now c.octal_digits.result.1.now
          c.args.text.now c.octal_digits.ensures.rest c.octal_digits.ensures.digits c.requires (omega (arith, value)),
      sym
          value,
    )
