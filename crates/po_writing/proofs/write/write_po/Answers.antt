use Rattle.std.proofs.Common.{◌≡◌, ◌≤◌, ℕ, List, length, sym, ap, ◌∙◌, subst, arith, Vec, Global}
use Rattle.std.proofs.lemmas.List.{take_all}
use Rattle.message.specs.Message.{Entry}
use Rattle.mo_image.proofs.Lists.{at_index}
use Rattle.po_text.specs.Outcome.{max_text}
use Rattle.po_writing.specs.Laws.{Tells}
use Rattle.po_writing.specs.Written.{po_of}
use Rattle.po_writing.proofs.Told.{IsFew, few_forms, tells}
use Rattle.po_writing.proofs.Steps.{first_pushed, next_pushed}
use Rattle.po_writing.proofs.write.write_po.Goals as goal
use Rattle.po_writing.proofs.write.write_po.Goals.{then-i-gt0+in_ok-push, else-i-gt0}

pub push_entry-requires-clause-few : goal.push_entry-requires-clause-few
push_entry-requires-clause-few c = at_index IsFew c.args.catalogue.now c.loop-i.i c.entry.result
    (few_forms c.args.catalogue.now c.len-i-end.ensures.lawful) c.entry.ensures

pub loop-i-preserved : goal.loop-i-preserved
loop-i-preserved c = elim c.if-i-gt0.branch [
  | then-i-gt0+in_ok-push w ↦ next_pushed c.args.escape c.args.catalogue.now c.loop-i.i c.entry.result
      c.loop-i.out.items c.if-i-gt0.out.items c.push_entry.new.out.items c.entry.ensures (omega arith)
      c.loop-i.invariant
      (ap (λ (v : Vec ℕ Global). v.items) w.out-is ∙ w.in_ok-push.ensures.items) c.in_ok-push_entry.ensures
  | else-i-gt0 w ↦ first_pushed c.args.escape c.args.catalogue.now c.loop-i.i c.entry.result
      c.if-i-gt0.out.items c.push_entry.new.out.items c.entry.ensures (omega arith)
      (ap (λ (v : Vec ℕ Global). v.items) w.out-is ∙ c.loop-i.invariant) c.in_ok-push_entry.ensures
]

pub returns-clause-read : goal.returns-clause-read
returns-clause-read c =
    let m = c.args.catalogue.now in
    let whole : c.loop-i.out.items ≡ po_of c.args.escape m = c.loop-i.invariant
    ∙ ap (λ (xs : List Entry). po_of c.args.escape xs) (take_all c.loop-i.i m
    (omega (arith, c.loop-i-test.false, c.len-i-end.ensures.len))) in
    λ short. subst (λ (t : List ℕ). Tells t m) (sym whole) (tells c.args.escape m c.len-i-end.ensures.lawful
    (subst (λ (t : List ℕ). length t ≤ max_text) whole short))
