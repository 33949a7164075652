use Rattle.std.proofs.Common.{◌≡◌, ℕ, List, [], length, ap, arith}
use denote.Ref.{Bor}
use Rattle.std.proofs.lemmas.Bool.Decides.{nat_tests}
use Rattle.std.proofs.lemmas.List.{nil_from_length}
use Rattle.kuit_formats.proofs.ContentLemmas.{all_read}
use Rattle.kuit_formats.proofs.content.is_content.Goals as goal

pub returns : goal.returns
returns c =
    let test = c.is_empty.ensures in
    let over = c.tokens-test.false in
    let last = c.is_empty-2.ensures in
    let empty : c.tokens.rest.now ≡ [] = nil_from_length c.tokens.rest.now (grind (arith, nat_tests)) in
    let whole = all_read c.args.text.now c.tokens.rest.now c.tokens.opened.items c.tokens.invariant empty in
    let len = c.tokens.opened.ok in (
      λ yes. whole.1 (nil_from_length c.tokens.opened.items (grind (arith, nat_tests))),
      λ content.
          let none : length c.tokens.opened.items ≡ 0 = ap (λ (names : List (Bor (List ℕ))). length names)
          (whole.0 content) in
          grind (arith, nat_tests),
    )
