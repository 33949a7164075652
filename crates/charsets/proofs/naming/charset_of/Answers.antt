use Rattle.std.proofs.Common.{◌≡◌, List, length, get_or, sym, ap, ◌∙◌, below_more, arith}
use Rattle.std.proofs.lemmas.List.{get_or_default}
use Rattle.charsets.specs.declared.kinds.Charset.{Charset}
use Rattle.charsets.specs.declared.kinds.Charset.TheVariants.{Ascii}
use Rattle.charsets.specs.Every.{all}
use Rattle.charsets.proofs.Every.{every}
use Rattle.charsets.proofs.naming.charset_of.Goals as goal

pub charsets-preserved : goal.charsets-preserved
charsets-preserved c =
    let item = ap (λ (xs : List Charset). get_or xs c.charsets.i Ascii) (sym c.all-charset-items.ensures)
    ∙ get_or_default c.all-charset-items.result.now c.charsets.i Ascii _ c.charsets-test.true in
    below_more _ _ c.charsets.invariant (λ has.
    let found = c.is_name_of.ensures.1 (rw item at has) in
    absurd (cc (found, c.if-is_name_of.false)))

pub returns : goal.returns
returns c = λ charset has.
    let place = every charset in
    let k = place.0 in
    let len : length all ≡ length c.all-charset-items.result.now = ap length (sym c.all-charset-items.ensures) in
    let at : get_or all k Ascii ≡ charset = get_or_default all k Ascii charset place.1 ∙ place.2 in
    absurd (c.charsets.invariant k (omega (arith, len, place.1, c.charsets-test.false)) (rw at has))
