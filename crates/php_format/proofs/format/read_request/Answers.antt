use Rattle.std.proofs.Common.{sym, ◌∙◌}
use Rattle.php_format.proofs.PhpDirectiveLemmas.{no_conversion, no_kind}
use Rattle.php_format.proofs.format.read_request.Goals as goal

pub returns-in_err-conversion : goal.returns-in_err-conversion
returns-in_err-conversion c = rw c.from_residual-in_err-conversion.ensures (no_conversion c.args.text.now
    c.in_ok-number.number c.in_ok-number.behind_number.now c.skip_flags-behind_flags.result.now c.in_ok-number.ensures
    c.skip_flags-behind_flags.ensures
    (cc (
      c.skip_digits.ensures,
      c.skip_precision.ensures,
      c.skip_size-behind_size.ensures,
      c.in_err-conversion.ensures,
    )))

pub returns-in_err-kind : goal.returns-in_err-kind
returns-in_err-kind c = rw c.from_residual-in_err-kind.ensures (no_kind c.args.text.now
    c.in_ok-number.number c.in_ok-number.behind_number.now c.skip_flags-behind_flags.result.now c.in_ok-number.ensures
    c.skip_flags-behind_flags.ensures c.in_ok-conversion.conversion c.in_ok-conversion.rest.now
    (cc (c.skip_digits.ensures, c.skip_precision.ensures, c.skip_size-behind_size.ensures, c.in_ok-conversion.ensures))
    c.in_err-kind.ensures)
