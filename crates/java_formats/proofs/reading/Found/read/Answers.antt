use Rattle.std.proofs.Common.{Bor, List, ℕ, Option, sym, subst}
use Rattle.std.specs.Prelude.{option_map}
use Rattle.java_formats.specs.JavaReading.{step_view}
use Rattle.java_formats.proofs.ReadingLemmas.{HasReadTo, read_nothing, reads_further, read_shorter, no_step}
use Rattle.java_formats.proofs.reading.Found.read.Goals as goal

pub steps-init : goal.steps-init
steps-init c = read_nothing c.args.sort c.args.text.now c.args.self.now

pub returns-in_default-read_step-clause-err : goal.returns-in_default-read_step-clause-err
returns-in_default-read_step-clause-err c =
    let so_far = subst (λ (rest : Option (Bor (List ℕ))).
    HasReadTo c.args.sort c.args.text.now (option_map (λ t. t.now) rest) c.args.self.now c.steps.self)
    c.in-Some.is c.steps.invariant in
    no_step c.args.sort c.args.text.now c.in-Some.text.now c.args.self.now c.steps.self so_far
    c.in_default-read_step.ensures

pub steps-smaller : goal.steps-smaller
steps-smaller c = rw c.in-Some.is (read_shorter c.args.sort c.in-Some.text.now
    (step_view c.in-Some-read_step.step) (sym c.in-Some-read_step.ensures))

pub steps-preserved : goal.steps-preserved
steps-preserved c =
    let so_far = subst (λ (rest : Option (Bor (List ℕ))).
    HasReadTo c.args.sort c.args.text.now (option_map (λ t. t.now) rest) c.args.self.now c.steps.self)
    c.in-Some.is c.steps.invariant in
    reads_further c.args.sort c.args.text.now c.in-Some.text.now (step_view c.in-Some-read_step.step)
    c.args.self.now c.steps.self c.add.new.self so_far (sym c.in-Some-read_step.ensures)
    c.in_ok-add.ensures.asked c.in_ok-add.ensures.pending
