use Rattle.std.proofs.Common.{[], ◌∷◌, sym, ap, ◌∙◌}
use Rattle.std.proofs.lemmas.Bool.{false≢true}
use Rattle.std.proofs.lemmas.List.{map-append}
use Rattle.std.proofs.lemmas.Result.{err_from_is_err_and}
use Rattle.mo_segments.specs.Descriptors.{texts_of}
use Rattle.mo_segments.specs.MessageStrings.{strings_in, strings_of}
use Rattle.mo_segments.specs.Dependents.{dependent_originals, dependent_translations}
use Rattle.mo_segments.proofs.Reading.{row_word, read_more, all_read, memory_runs_out, original_fails}
use Rattle.mo_segments.proofs.Reading.{translation_fails}
use Rattle.mo_segments.proofs.dependents.add_dependent.Goals as goal
use Rattle.mo_segments.proofs.dependents.add_dependent.Goals.{then-original+then-translation+in_ok-push, else-original}
use Rattle.mo_segments.proofs.dependents.add_dependent.Goals.{else-original-via-then-original+else-translation}
use Rattle.mo_segments.proofs.dependents.add_dependent.Goals.{else-original-via-else-original}

pub returns-in_err-original-clause-err : goal.returns-in_err-original-clause-err
returns-in_err-original-clause-err g c =
    let number = g.T.ByteOrder.number_of in
    let bytes = c.args.bytes.now in
    let values = texts_of c.args.values.now in
    let statics = strings_of c.args.messages.items in
    let p = err_from_is_err_and c.from_residual.result c.from_residual.ensures.1 in
    rw (p.1, p.2) (original_fails number bytes values statics c.messages.i c.word-i-end.result c.messages.room
    (strings_of c.messages.messages.items) c.messages-test.true c.word-i-end.ensures.value c.messages.invariant
    c.word-original.result c.in_err-original.field-0.0
    (row_word number bytes values statics c.word-originals.result (dependent_originals number bytes) c.messages.i
    c.word-original.result c.word-originals.ensures.value c.word-original.ensures.value)
    c.in_err-original.ensures.err)

pub returns-in_err-translation-clause-err : goal.returns-in_err-translation-clause-err
returns-in_err-translation-clause-err g c =
    let number = g.T.ByteOrder.number_of in
    let bytes = c.args.bytes.now in
    let values = texts_of c.args.values.now in
    let statics = strings_of c.args.messages.items in
    let p = err_from_is_err_and c.from_residual-in_err-translation.result
    c.from_residual-in_err-translation.ensures.1 in
    rw (p.1, p.2) (translation_fails number bytes values statics c.messages.i c.word-i-end.result c.messages.room
    (strings_of c.messages.messages.items) c.messages-test.true c.word-i-end.ensures.value c.messages.invariant
    c.word-original.result c.word-translation.result c.in_ok-original.original c.in_err-translation.field-0.0
    (row_word number bytes values statics c.word-originals.result (dependent_originals number bytes) c.messages.i
    c.word-original.result c.word-originals.ensures.value c.word-original.ensures.value)
    (row_word number bytes values statics c.word-translations.result (dependent_translations number bytes)
    c.messages.i c.word-translation.result c.word-translations.ensures.value c.word-translation.ensures.value)
    c.in_ok-original.ensures.ok c.in_err-translation.ensures.err)

pub returns-in_err-push-clause-err : goal.returns-in_err-push-clause-err
returns-in_err-push-clause-err g c =
    let p = err_from_is_err_and c.from_residual-in_err-push.result c.from_residual-in_err-push.ensures.1 in
    rw (p.1, p.2) (memory_runs_out g.T.ByteOrder.number_of c.args.bytes.now (texts_of c.args.values.now)
    (strings_of c.args.messages.items) c.messages.i c.word-i-end.result c.messages.room
    (strings_of c.messages.messages.items) c.messages-test.true c.word-i-end.ensures.value c.messages.invariant)

pub messages-preserved : goal.messages-preserved
messages-preserved g c =
    let number = g.T.ByteOrder.number_of in
    let bytes = c.args.bytes.now in
    let values = texts_of c.args.values.now in
    let statics = strings_of c.args.messages.items in
    let o = c.in_ok-original.original in
    let t = c.in_ok-translation.translation in
    let a = row_word number bytes values statics c.word-originals.result (dependent_originals number bytes)
    c.messages.i c.word-original.result c.word-originals.ensures.value c.word-original.ensures.value in
    let b = row_word number bytes values statics c.word-translations.result (dependent_translations number bytes)
    c.messages.i c.word-translation.result c.word-translations.ensures.value c.word-translation.ensures.value in
    let more = read_more number bytes values statics c.messages.i c.messages.room c.word-original.result
    c.word-translation.result o t (strings_of c.messages.messages.items) (strings_of c.if-original.messages.items) a b
    c.messages.invariant c.in_ok-original.ensures.ok c.in_ok-translation.ensures.ok in
    elim c.if-original.branch [
      | then-original+then-translation+in_ok-push w ↦ more
          (λ ko kt. ap (λ v. strings_of v.items) w.messages-is ∙ ap strings_of w.in_ok-push.ensures.items
          ∙ map-append strings_in c.messages.messages.items (_ ∷ []))
          (λ no. absurd (no (w.if-original.true, w.if-translation.true)))
      | else-original w ↦ more
          (λ ko kt. elim w.else-original.branch [
            | else-original-via-then-original+else-translation w' ↦
                absurd (false≢true (sym w'.if-translation.false ∙ kt))
            | else-original-via-else-original w' ↦ absurd (false≢true (sym w'.if-original.false ∙ ko))
          ])
          (λ no. ap (λ v. strings_of v.items) w.messages-is)
    ]

pub returns-clause-ok : goal.returns-clause-ok
returns-clause-ok g c =
    all_read g.T.ByteOrder.number_of c.args.bytes.now (texts_of c.args.values.now)
    (strings_of c.args.messages.items) c.messages.i c.word-i-end.result c.messages.room
    (strings_of c.messages.messages.items) c.messages.auto.i-end c.messages-test.false c.word-i-end.ensures.value
    c.messages.invariant
