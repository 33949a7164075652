use Rattle.kuit_formats.proofs.TagLemmas.{tag_ends, name_again, reads_further, no_part, unknown, is_known}
use Rattle.kuit_formats.proofs.attributes.read_tag.Goals as goal

pub returns-in-End-clause-tag : goal.returns-in-End-clause-tag
returns-in-End-clause-tag c = tag_ends c.args.text.now c.parts.rest.now c.parts.before c.in-End.empty
    c.in-End.after.now c.parts.invariant (rw c.in-End.is at c.in-Some.ensures.part)

pub returns-then-not-branch-clause-tag : goal.returns-then-not-branch-clause-tag
returns-then-not-branch-clause-tag c =
    name_again c.args.text.now c.parts.rest.now c.in-Attribute.name.now c.in-Attribute.after.now c.parts.before
    c.parts.invariant (rw c.in-Attribute.is at c.in-Some.ensures.part)
    (is_known _ _ c.in_ok-add-in-Attribute.ensures.is_new c.if-not-branch.true)

pub parts-preserved : goal.parts-preserved
parts-preserved c =
    reads_further c.args.text.now c.parts.rest.now c.in-Attribute.name.now c.in-Attribute.after.now c.parts.before
    c.add.new.self c.parts.invariant (rw c.in-Attribute.is at c.in-Some.ensures.part)
    (rw c.in-Attribute.is at c.in-Some.ensures.within)
    (unknown _ _ c.in_ok-add-in-Attribute.ensures.is_new c.if-not-branch.false)
    c.in_ok-add-in-Attribute.ensures.added

pub returns-clause-tag : goal.returns-clause-tag
returns-clause-tag c =
    no_part c.args.text.now c.parts.rest.now c.parts.before c.parts.invariant c.in_default.ensures.part
