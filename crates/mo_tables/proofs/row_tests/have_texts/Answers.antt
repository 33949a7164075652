use Rattle.mo_tables.proofs.Kit.{refl, RowLies, HasTexts}
use Rattle.mo_tables.proofs.RowSweeps.{there, back, texts, OriginalUtf8, FewSeparators, TranslationUtf8}
use Rattle.mo_tables.proofs.row_tests.have_texts.Goals as goal

pub first_stretch-stretch-requires : goal.first_stretch-stretch-requires
first_stretch-stretch-requires c = rw c.deref.ensures.value
    (there (RowLies c.args.bytes.now) c.args.rows.items c.by_originals-rows.result.items c.by_originals-rows.ensures
    c.requires)

pub originals_utf8-requires-clause-lie : goal.originals_utf8-requires-clause-lie
originals_utf8-requires-clause-lie c = rw c.deref-2.ensures.value (λ k d lt.
    (there (RowLies c.args.bytes.now) c.args.rows.items c.by_originals-rows.result.items c.by_originals-rows.ensures
    c.requires
    k d lt).0)

pub returns-in_default : goal.returns-in_default
returns-in_default c = (
  λ e. absurd cc,
  λ all.
      let wrong = rw c.deref-2.ensures.value at c.in_default.ensures in
      absurd (wrong (λ k d lt. (there (HasTexts c.args.bytes.now) c.args.rows.items c.by_originals-rows.result.items
      c.by_originals-rows.ensures all k d lt).0.utf8)),
)

pub keys_have_few_separators-requires : goal.keys_have_few_separators-requires
keys_have_few_separators-requires c = rw c.deref-3.ensures.value (λ k d lt.
    (there (RowLies c.args.bytes.now) c.args.rows.items c.by_originals-rows.result.items c.by_originals-rows.ensures
    c.requires
    k d lt).0)

pub returns-then-not-keys_have_few_separators : goal.returns-then-not-keys_have_few_separators
returns-then-not-keys_have_few_separators c = (
  λ e. absurd cc,
  λ all.
      let says = rw c.deref-3.ensures.value at c.if-not-keys_have_few_separators.ensures in
      says.1 (λ k d lt. (there (HasTexts c.args.bytes.now) c.args.rows.items c.by_originals-rows.result.items
      c.by_originals-rows.ensures all k d lt).0.separators),
)

pub translations_utf8-requires-clause-lie : goal.translations_utf8-requires-clause-lie
translations_utf8-requires-clause-lie c =
    let P = RowLies c.args.bytes.now in
    rw c.deref-4.ensures.value (λ k d lt. (there P c.by_originals-rows.result.items c.by_translations-rows.result.items
    c.by_translations-rows.ensures
    (there P c.args.rows.items c.by_originals-rows.result.items c.by_originals-rows.ensures
    c.requires) k d lt).1)

pub returns-in-Some-translations_utf8 : goal.returns-in-Some-translations_utf8
returns-in-Some-translations_utf8 c =
    let bytes = c.args.bytes.now in
    let rows = c.args.rows.items in
    let first = c.by_originals-rows.result.items in
    let second = c.by_translations-rows.result.items in
    let moved = c.by_originals-rows.ensures in
    let originals = rw c.deref-2.ensures.value at c.in-Some.ensures.1 in
    let few = rw c.deref-3.ensures.value at (c.if-not-keys_have_few_separators.ensures.0 refl) in
    let translations = rw c.deref-4.ensures.value at c.in-Some-translations_utf8.ensures.1 in (
      λ e. texts bytes rows (back (OriginalUtf8 bytes) rows first moved originals)
          (back (FewSeparators bytes) rows first moved few)
          (back (TranslationUtf8 bytes) rows first moved
          (back (TranslationUtf8 bytes) first second c.by_translations-rows.ensures translations)),
      λ all. refl,
    )

pub returns : goal.returns
returns c = (
  λ e. absurd cc,
  λ all.
      let P = HasTexts c.args.bytes.now in
      let wrong = rw c.deref-4.ensures.value at c.in-None.ensures in
      absurd (wrong (λ k d lt. (there P c.by_originals-rows.result.items c.by_translations-rows.result.items
      c.by_translations-rows.ensures
      (there P c.args.rows.items c.by_originals-rows.result.items c.by_originals-rows.ensures all)
      k d lt).1.utf8)),
)
