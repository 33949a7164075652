use Rattle.std.proofs.Common.{◌≡◌, refl, arith}
use Rattle.std.proofs.lemmas.Bool.{false≢true, both_ways}
use Rattle.mo_file.specs.MoReading.{PassesBelow, file_by}
use Rattle.mo_file.specs.Tables.{word_at}
use Rattle.mo_file.proofs.Ranking.{past_revision, past_bounds, past_closing, past_texts, past_forms, past_order}
use Rattle.mo_file.proofs.Ranking.{past_charset, past_size}
use Rattle.mo_file.proofs.refusals.check_file.Goals as goal

pub returns-then-not-passes_bounds-clause-err : goal.returns-then-not-passes_bounds-clause-err
returns-then-not-passes_bounds-clause-err g c less =
    let number = g.T.ByteOrder.number_of in
    let file = file_by number c.args.bytes.now in
    let revision : word_at number c.args.bytes.now 4 ≡ 0 = omega arith in (
      λ passes. false≢true (c.if-not-passes_bounds.ensures.1 passes),
      past_revision file c.requires.passed revision,
    )

pub returns-then-is_sound-clause-ok : goal.returns-then-is_sound-clause-ok
returns-then-is_sound-clause-ok g c =
    let number = g.T.ByteOrder.number_of in
    let file = file_by number c.args.bytes.now in
    let revision : word_at number c.args.bytes.now 4 ≡ 0 = omega arith in
    let bounds = c.if-not-passes_bounds.ensures.0 refl in
    let below : PassesBelow file 6 = past_bounds file c.requires.passed revision bounds in
    let sound = c.if-is_sound.ensures refl in
    past_size file below (sound.originals_have_nul, sound.translations_have_nul)
    (sound.original_texts, sound.translation_texts) sound.forms sound.rise sound.headers
    (c.passes_size-overlap.ensures.0 c.if-not-overlap.true)

pub returns-then-not-passes_closing-clause-err : goal.returns-then-not-passes_closing-clause-err
returns-then-not-passes_closing-clause-err g c less =
    let number = g.T.ByteOrder.number_of in
    let file = file_by number c.args.bytes.now in
    let revision : word_at number c.args.bytes.now 4 ≡ 0 = omega arith in
    let bounds = c.if-not-passes_bounds.ensures.0 refl in (
      λ passes. false≢true (c.if-not-passes_closing.ensures.1 passes),
      past_bounds file c.requires.passed revision bounds,
    )

pub returns-then-not-branch-clause-err : goal.returns-then-not-branch-clause-err
returns-then-not-branch-clause-err g c less =
    let number = g.T.ByteOrder.number_of in
    let file = file_by number c.args.bytes.now in
    let revision : word_at number c.args.bytes.now 4 ≡ 0 = omega arith in
    let bounds = c.if-not-passes_bounds.ensures.0 refl in
    let below : PassesBelow file 6 = past_bounds file c.requires.passed revision bounds in
    let with_nul = c.if-not-passes_closing.ensures.0 refl in (
      λ passes. both_ways _ c.if-not-branch.true (c.in_ok-passes_texts.ensures.1 passes),
      past_closing file below with_nul,
    )

pub returns-then-not-branch-2-clause-err : goal.returns-then-not-branch-2-clause-err
returns-then-not-branch-2-clause-err g c less =
    let number = g.T.ByteOrder.number_of in
    let file = file_by number c.args.bytes.now in
    let revision : word_at number c.args.bytes.now 4 ≡ 0 = omega arith in
    let bounds = c.if-not-passes_bounds.ensures.0 refl in
    let below : PassesBelow file 6 = past_bounds file c.requires.passed revision bounds in
    let with_nul = c.if-not-passes_closing.ensures.0 refl in
    let texts = c.in_ok-passes_texts.ensures.0 c.if-not-branch.false in (
      λ passes. both_ways _ c.if-not-branch-2.true (c.in_ok-passes_forms.ensures.1 passes),
      past_texts file below with_nul texts,
    )

pub returns-then-not-branch-3-clause-err : goal.returns-then-not-branch-3-clause-err
returns-then-not-branch-3-clause-err g c less =
    let number = g.T.ByteOrder.number_of in
    let file = file_by number c.args.bytes.now in
    let revision : word_at number c.args.bytes.now 4 ≡ 0 = omega arith in
    let bounds = c.if-not-passes_bounds.ensures.0 refl in
    let below : PassesBelow file 6 = past_bounds file c.requires.passed revision bounds in
    let with_nul = c.if-not-passes_closing.ensures.0 refl in
    let texts = c.in_ok-passes_texts.ensures.0 c.if-not-branch.false in
    let forms = c.in_ok-passes_forms.ensures.0 c.if-not-branch-2.false in (
      λ passes. both_ways _ c.if-not-branch-3.true (c.in_ok-passes_order.ensures.1 passes),
      past_forms file below with_nul texts forms,
    )

pub returns-then-not-passes_charset-clause-err : goal.returns-then-not-passes_charset-clause-err
returns-then-not-passes_charset-clause-err g c less =
    let number = g.T.ByteOrder.number_of in
    let file = file_by number c.args.bytes.now in
    let revision : word_at number c.args.bytes.now 4 ≡ 0 = omega arith in
    let bounds = c.if-not-passes_bounds.ensures.0 refl in
    let below : PassesBelow file 6 = past_bounds file c.requires.passed revision bounds in
    let with_nul = c.if-not-passes_closing.ensures.0 refl in
    let texts = c.in_ok-passes_texts.ensures.0 c.if-not-branch.false in
    let forms = c.in_ok-passes_forms.ensures.0 c.if-not-branch-2.false in
    let rise = c.in_ok-passes_order.ensures.0 c.if-not-branch-3.false in (
      λ passes. false≢true (c.if-not-passes_charset.ensures.1 passes),
      past_order file below with_nul texts forms rise,
    )

pub returns-then-overlap-clause-err : goal.returns-then-overlap-clause-err
returns-then-overlap-clause-err g c less =
    let number = g.T.ByteOrder.number_of in
    let file = file_by number c.args.bytes.now in
    let revision : word_at number c.args.bytes.now 4 ≡ 0 = omega arith in
    let bounds = c.if-not-passes_bounds.ensures.0 refl in
    let below : PassesBelow file 6 = past_bounds file c.requires.passed revision bounds in
    let with_nul = c.if-not-passes_closing.ensures.0 refl in
    let texts = c.in_ok-passes_texts.ensures.0 c.if-not-branch.false in
    let forms = c.in_ok-passes_forms.ensures.0 c.if-not-branch-2.false in
    let rise = c.in_ok-passes_order.ensures.0 c.if-not-branch-3.false in
    let headers = c.if-not-passes_charset.ensures.0 refl in (
      λ passes. both_ways _ c.if-overlap.true (c.passes_size-overlap.ensures.1 passes),
      past_charset file below with_nul texts forms rise headers,
    )

pub returns-clause-ok : goal.returns-clause-ok
returns-clause-ok g c =
    let number = g.T.ByteOrder.number_of in
    let file = file_by number c.args.bytes.now in
    let revision : word_at number c.args.bytes.now 4 ≡ 0 = omega arith in
    let bounds = c.if-not-passes_bounds.ensures.0 refl in
    let below : PassesBelow file 6 = past_bounds file c.requires.passed revision bounds in
    let with_nul = c.if-not-passes_closing.ensures.0 refl in
    let texts = c.in_ok-passes_texts.ensures.0 c.if-not-branch.false in
    let forms = c.in_ok-passes_forms.ensures.0 c.if-not-branch-2.false in
    let rise = c.in_ok-passes_order.ensures.0 c.if-not-branch-3.false in
    let headers = c.if-not-passes_charset.ensures.0 refl in
    past_size file below with_nul texts forms rise headers (c.passes_size-overlap.ensures.0 c.if-overlap.false)
