use Rattle.std.proofs.Common.{◌≡◌, length, get_or, [], sym, ap, ◌∙◌, below_more, arith}
use Rattle.std.proofs.lemmas.List.{get_or_default, length-map}
use Rattle.charsets.specs.CharsetNames.{names}
use Rattle.charsets.proofs.NameLists.{item_is}
use Rattle.charsets.proofs.naming.is_name_of.Goals as goal

pub names-preserved : goal.names-preserved
names-preserved c =
    let item = item_is c.names-known-items.result.now (names c.args.charset) c.names.i _ c.names-known-items.ensures
    c.names-test.true in
    below_more _ _ c.names.invariant (λ same.
    let found = c.is_same.ensures.1 (rw item at same) in
    absurd (cc (found, c.if-is_same.false)))

pub returns : goal.returns
returns c = (
  λ no. absurd (cc no),
  λ has.
      let listed = names c.args.charset in
      let k = has.listed.0 in
      let len : length listed ≡ length c.names-known-items.result.now = ap length (sym c.names-known-items.ensures)
      ∙ length-map c.names-known-items.result.now _ in
      let at : get_or listed k [] ≡ has.known = get_or_default listed k [] has.known has.listed.1 ∙ has.listed.2 in
      absurd (c.names.invariant k (omega (arith, len, has.listed.1, c.names-test.false)) (rw at has.same)),
)
