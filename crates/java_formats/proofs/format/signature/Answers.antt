use Rattle.std.proofs.Common.{List, ℕ, ap, sym, ◌∙◌, ◌<◌, refl, subst, arith}
use Rattle.std.proofs.lemmas.Result.{err_from_is_err_and}
use Rattle.java_formats.specs.declared.reading.Text as code_text
use Rattle.java_formats.specs.declared.reading.Found.{Found}
use Rattle.java_formats.specs.JavaReading.{waiting_texts, weight, Blocks, Reads}
use Rattle.java_formats.proofs.ReadingLemmas.{begin, waiting_push, read_first, reads_next, fault_is, first_fault}
use Rattle.java_formats.proofs.ReadingLemmas.{none_left, inconsistent}
use Rattle.java_formats.proofs.format.signature.Goals as goal

pub returns-in_err-read-clause-err : goal.returns-in_err-read-clause-err
returns-in_err-read-clause-err c =
    let old : Found = record { asked = c.new.result; pending = c.new-2.result } in
    let p = err_from_is_err_and c.from_residual.result c.from_residual.ensures.1 in
    rw (p.1, p.2) (first_fault c.args.text.now old c.in_err-read.field-0.0 c.new-2.ensures.items
    c.in_err-read.ensures.err)

pub nested-init : goal.nested-init
nested-init c =
    let old : Found = record { asked = c.new.result; pending = c.new-2.result } in
    read_first c.args.text.now old c.read.new.self c.new.ensures.items c.new-2.ensures.items
    c.in_ok-read.ensures.ok

pub returns-in_err-read-2-clause-err : goal.returns-in_err-read-2-clause-err
returns-in_err-read-2-clause-err c =
    let before : Found = record { asked = c.nested.found.asked; pending = c.pop.new.self } in
    let waits = ap (λ (texts : List code_text.Text). waiting_texts texts) c.in-Some.ensures.items
    ∙ waiting_push c.pop.new.self.items c.in-Some.nested in
    let fault = c.in_err-read-2.field-0.0 in
    let p = err_from_is_err_and c.from_residual-in_err-read-2.result c.from_residual-in_err-read-2.ensures.1 in
    let blocked = subst (λ (bytes : List ℕ). Blocks (begin c.in-Some.nested.sort bytes before) fault)
    c.deref.ensures.value c.in_err-read-2.ensures.err in
    rw (p.1, p.2) (fault_is c.args.text.now c.in-Some.nested.bytes.items c.in-Some.nested.sort c.nested.found before
    fault c.nested.invariant waits blocked)

pub nested-smaller : goal.nested-smaller
nested-smaller c =
    let before : Found = record { asked = c.nested.found.asked; pending = c.pop.new.self } in
    let waits = ap (λ (texts : List code_text.Text). waiting_texts texts) c.in-Some.ensures.items
    ∙ waiting_push c.pop.new.self.items c.in-Some.nested in
    let lighter = subst (λ (bytes : List ℕ). weight (waiting_texts c.read-in-Some.new.self.pending.items)
    < weight (begin c.in-Some.nested.sort bytes before)) c.deref.ensures.value c.in_ok-read-2.ensures.lighter in
    omega (arith, lighter, ap weight waits)

pub nested-preserved : goal.nested-preserved
nested-preserved c =
    let before : Found = record { asked = c.nested.found.asked; pending = c.pop.new.self } in
    let waits = ap (λ (texts : List code_text.Text). waiting_texts texts) c.in-Some.ensures.items
    ∙ waiting_push c.pop.new.self.items c.in-Some.nested in
    let reads = subst (λ (bytes : List ℕ). Reads (begin c.in-Some.nested.sort bytes before) before
    c.read-in-Some.new.self) c.deref.ensures.value c.in_ok-read-2.ensures.ok in
    reads_next c.args.text.now c.in-Some.nested.bytes.items c.in-Some.nested.sort c.nested.found before
    c.read-in-Some.new.self c.nested.invariant waits refl reads

pub returns-clause-err : goal.returns-clause-err
returns-clause-err c = inconsistent c.args.text.now c.nested.found c.nested.invariant
    (none_left c.nested.found.pending.items c.pop.new.self.items _ c.in_default.ensures.items
    c.in_default.ensures.rest c.in_default.ensures.cases.0)
    (rw (c.deref-3.ensures.value, c.in_ok-specific.ensures, c.deref-2.ensures.value)
    at (sym c.in_ok-consistent.ensures ∙ c.if-consistent.false))
