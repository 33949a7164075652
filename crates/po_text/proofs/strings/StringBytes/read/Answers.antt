use Rattle.std.proofs.Common.{List, ℕ, ◌≡◌, ◌∷◌, ◌++◌, ap, ◌∙◌, subst, arith}
use Rattle.po_text.proofs.Kit.{err_from_is_err_and}
use Rattle.std.specs.Str.{IsUtf8}
use Rattle.std.proofs.lemmas.Str.{IsUtf8-from_is_utf8}
use Rattle.po_text.proofs.UnitLemmas.{ok_behind, err_behind}
use Rattle.po_text.proofs.CleanLemmas.{clean_lawful, cut_utf8}
use Rattle.po_text.specs.Ends.{EndsText}
use Rattle.po_text.proofs.strings.StringBytes.read.Goals as goal

inner_utf8 : (inner : List ℕ) → EndsText (34 ∷ inner) → IsUtf8 inner
inner_utf8 inner ends = IsUtf8-from_is_utf8 inner (ends.utf8 0 (omega arith) (omega arith))

pub returns-clause-ok : goal.returns-clause-ok
returns-clause-ok c =
    let run = c.clean_run.result.0.now in
    ok_behind c.extend_from_slice.new.self.items run c.read_units.new.out.items c.args.inner.now
    c.clean_run.result.1.now _
    (c.in_ok-extend_from_slice.ensures.items ∙ ap (λ (bytes : List ℕ). bytes ++ run) c.clear.ensures.items)
    c.clean_run.ensures.units c.in_ok-rest.ensures.ok

pub returns-in_err-rest-clause-err : goal.returns-in_err-rest-clause-err
returns-in_err-rest-clause-err c =
    let p = err_from_is_err_and c.from_residual-in_err-rest.result c.from_residual-in_err-rest.ensures.1 in
    rw (p.1, p.2) (err_behind c.in_err-rest.field-0.0 c.clean_run.result.0.now c.args.inner.now
    c.clean_run.result.1.now c.clean_run.ensures.units c.in_err-rest.ensures.err)

pub returns-in-Some-eq34-default-clause-lawful : goal.returns-in-Some-eq34-default-clause-lawful
returns-in-Some-eq34-default-clause-lawful c ends clean =
    let utf8 = subst IsUtf8 c.clean_run.ensures.parts (inner_utf8 c.args.inner.now ends) in
    clean_lawful c.clean_run.result.0.now c.clean_run.ensures.clean
    (cut_utf8 c.clean_run.result.0.now c.clean_run.result.1.now c.clean_run.ensures.stops utf8).0

pub returns-clause-lawful : goal.returns-clause-lawful
returns-clause-lawful c ends clean =
    let run = c.clean_run.result.0.now in
    let utf8 = cut_utf8 run c.clean_run.result.1.now c.clean_run.ensures.stops
    (subst IsUtf8 c.clean_run.ensures.parts (inner_utf8 c.args.inner.now ends)) in
    let first : c.extend_from_slice.new.self.items ≡ run = c.in_ok-extend_from_slice.ensures.items
    ∙ ap (λ (bytes : List ℕ). bytes ++ run) c.clear.ensures.items in
    let keeps = c.in_ok-rest.ensures.clean clean in
    clean_lawful _ (keeps.clean (rw first c.clean_run.ensures.clean)) (keeps.utf8 utf8.1 (rw first utf8.0))
