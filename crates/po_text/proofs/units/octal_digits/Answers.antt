use Rattle.std.proofs.Common.{◌∙◌}
use Rattle.po_text.proofs.UnitLemmas.{octal_take, octal_few, octal_window}
use Rattle.po_text.proofs.units.octal_digits.Goals as goal

pub split_at-requires : goal.split_at-requires
split_at-requires c = octal_few c.args.text.now c.octal_len-len.result
    (octal_window c.args.text.now c.octal_len-len.result c.min.result c.min.ensures c.octal_len-len.ensures)

pub returns-clause-digits : goal.returns-clause-digits
returns-clause-digits c =
    c.split_at.ensures.front ∙ octal_take c.args.text.now c.octal_len-len.result
    (octal_window c.args.text.now c.octal_len-len.result c.min.result c.min.ensures c.octal_len-len.ensures)
