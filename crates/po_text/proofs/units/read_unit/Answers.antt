use Rattle.po_text.proofs.Kit.{refl, arith, Plain}
use Rattle.po_text.proofs.UnitLemmas.{is_plain_byte}
use Rattle.po_text.proofs.units.read_unit.Goals as goal

pub returns-in_default-clause-ok : goal.returns-in_default-clause-ok
returns-in_default-clause-ok c =
    let plain = is_plain_byte c.args.byte c.requires (λ e. omega (arith, e, c.in_default))
    (λ e. omega (arith, e, c.in_default)) in
    (Plain c.args.byte, (refl, plain), refl)
