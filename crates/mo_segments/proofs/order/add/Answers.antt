use Rattle.std.proofs.Common.{◌≡◌, true, false, sym, ap, ◌∙◌, subst}
use Rattle.std.specs.Prelude.{is_some}
use Rattle.std.specs.Ordering.{nat_cmp, is_eq}
use Rattle.std.specs.Cmp.Lexicographic.{slice_cmp}
use Rattle.std.specs.Map.{lookup}
use Rattle.mo_image.specs.Pairs.{key_part}
use Rattle.mo_segments.specs.MessageStrings.{strings_in}
use Rattle.mo_segments.specs.Flat.{key_of}
use Rattle.mo_segments.proofs.Keeping.{kept_more, kept_old}
use Rattle.mo_segments.proofs.order.add.Goals as goal

pub returns-in_ok-insert : goal.returns-in_ok-insert
returns-in_ok-insert c = λ messages h.
    let is : c.in_ok-key.key.items ≡ key_of (strings_in c.args.message) = c.in_ok-key.ensures.items ∙ c.key.ensures
    ∙ ap key_part c.as_slice.ensures.value in
    kept_more (λ k. k.items) strings_in c.args.map.now.entries c.insert.new.self.entries c.in_ok-key.key c.args.message
    messages h
    (subst (λ t. is_some (lookup (λ k. is_eq (slice_cmp nat_cmp t k.items)) c.args.map.now.entries) ≡ false)
    (c.as_slice-2.ensures.value ∙ is) (sym c.if-not-contains_key.ensures)) is c.in_ok-insert.ensures.entries

pub returns-else-not-contains_key : goal.returns-else-not-contains_key
returns-else-not-contains_key c = λ messages h.
    let is : c.in_ok-key.key.items ≡ key_of (strings_in c.args.message) = c.in_ok-key.ensures.items ∙ c.key.ensures
    ∙ ap key_part c.as_slice.ensures.value in
    kept_old (λ k. k.items) strings_in c.args.map.now.entries messages (strings_in c.args.message) h
    (subst (λ t. is_some (lookup (λ k. is_eq (slice_cmp nat_cmp t k.items)) c.args.map.now.entries) ≡ true)
    (c.as_slice-2.ensures.value ∙ is) (sym c.if-not-contains_key.ensures))
