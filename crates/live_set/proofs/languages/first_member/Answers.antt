use Rattle.live_set.proofs.Kit.{sym, ap, ◌∙◌, arith, cond, [], ◌∷◌, refl, None, members}
use Rattle.std.proofs.lemmas.Str.Pattern.{strip_prefix_char}
use Rattle.live_set.proofs.Listing.{members_cut}
use Rattle.live_set.proofs.languages.first_member.Goals as goal

pub returns-then-is_translated-clause-cut : goal.returns-then-is_translated-clause-cut
returns-then-is_translated-clause-cut c =
    let cut = members_cut c.colons.list.now c.if-is_empty.ensures
    (strip_prefix_char 58 c.colons.list.now None c.in_default.ensures.cases (omega arith)) c.split_once.result
    (c.split_once.ensures.byte (omega arith) (λ w o h. h)) c.colons.list _ refl refl c.unwrap_or.result
    c.unwrap_or.ensures in
    c.colons.invariant.0 ∙ cut ∙ ap (λ b. cond b (c.unwrap_or.result.0.now ∷ members c.unwrap_or.result.1.now) [])
    (sym c.if-is_translated.ensures)
