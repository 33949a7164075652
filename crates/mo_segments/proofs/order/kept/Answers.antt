use Rattle.std.proofs.Common.{◌≡◌, ◌++◌, ◌∷◌, [], List, sym, ap, ◌∙◌, subst, append_assoc, arith}
use Rattle.std.proofs.lemmas.Grind.{common_steps}
use Rattle.std.specs.Map.{values_of}
use Rattle.std.proofs.lemmas.List.{append-nil}
use Rattle.mo_segments.specs.MessageStrings.{Strings, strings_in, strings_of}
use Rattle.mo_segments.specs.declared.messages.Strings.{Strings as Held}
use Rattle.mo_segments.specs.Flat.{AreKept}
use Rattle.mo_segments.specs.Keeping.{IsMapOf}
use Rattle.mo_segments.proofs.Keeping.{of_none, values_kept}
use Rattle.mo_segments.proofs.order.kept.Goals as goal

pub messages-init : goal.messages-init
messages-init c = (
  [],
  ap strings_of c.into_iter-message-iterator.ensures.into_iter_gives.0,
  of_none (λ k. k.items) strings_in c.new-map.result.entries c.new-map.ensures.empty,
)

pub messages-preserved : goal.messages-preserved
messages-preserved c =
    let done : List Strings = c.messages.invariant.0 in (
      done ++ strings_in c.in-Some.message ∷ [],
      append_assoc done (strings_in c.in-Some.message ∷ []) (strings_of c.next.new.self.rest.items)
          ∙ ap (λ (t : List Strings). done ++ t) (sym (ap strings_of c.in-Some.ensures.steps.0))
          ∙ c.messages.invariant.1,
      c.in_ok-add.ensures done c.messages.invariant.2,
    )

pub kept-preserved : goal.kept-preserved
kept-preserved c =
    ap (λ (t : List Held). t ++ values_of c.next-in-kept.new.self) c.in_ok-push.ensures.items
    ∙ append_assoc c.kept.kept.items (c.in-Some-2.message ∷ []) (values_of c.next-in-kept.new.self)
    ∙ ap (λ (t : List Held). c.kept.kept.items ++ t) (sym (ap values_of c.in-Some-2.ensures.steps))
    ∙ c.kept.invariant

pub returns : goal.returns
returns c =
    let whole : c.kept.kept.items ≡ values_of c.messages.map.entries =
    sym (append-nil c.kept.kept.items)
    ∙ ap (λ (t : List Held). c.kept.kept.items ++ t) (sym (ap values_of c.in-None-2.ensures.steps.0))
    ∙ c.kept.invariant ∙ ap values_of c.into_iter-message-iterator-2.ensures.into_iter_gives.0 in
    let none : c.messages.message-iterator.rest.items ≡ [] = grind (arith, common_steps) in
    let all : c.messages.invariant.0 ≡ strings_of c.args.messages.items =
    sym (append-nil c.messages.invariant.0)
    ∙ ap (λ (t : List Strings). c.messages.invariant.0 ++ t) (sym (ap strings_of none))
    ∙ c.messages.invariant.1 in
    subst (λ (k : List Held). AreKept (strings_of c.args.messages.items) (strings_of k)) (sym whole)
    (values_kept (λ k. k.items) strings_in c.messages.map.entries (strings_of c.args.messages.items)
    (subst (λ (ms : List Strings). IsMapOf (λ k. k.items) strings_in c.messages.map.entries ms) all
    c.messages.invariant.2) c.len.ensures.ordered)
