use Rattle.std.proofs.Common.{List, ℕ, sym, ap, ◌∙◌}
use Rattle.java_formats.specs.JavaElements.{is_decimal}
use Rattle.java_formats.proofs.DecimalLemmas.{decimal_step}
use Rattle.java_formats.proofs.decimals.is_decimal.Goals as goal

pub bytes-preserved : goal.bytes-preserved
bytes-preserved c =
    let step = decimal_step c.bytes.escaped c.bytes.quoted c.bytes.found c.in-Some.byte c.in-Some.after.now
    c.if-escaped-gt0.false c.if-byte-eq39.false in
    rw (c.escape_len-escaped.ensures, c.has_digit-found.ensures)
    (sym step ∙ ap (λ (text : List ℕ). is_decimal c.bytes.escaped c.bytes.quoted c.bytes.found text)
    (sym c.in-Some.ensures) ∙ c.bytes.invariant)
