use Rattle.std.proofs.Common.{arith, sym, subst, ◌∙◌}
use Rattle.catalogue.specs.Map.{IsLawful}
use Rattle.mo_file.specs.MoReading.{table_at, TableLies, AreOriginalTexts, AreTranslationTexts}
use Rattle.mo_file.specs.declared.fault.MoFault.TheVariants.{Short, Bounds, BadText}
use Rattle.mo_file.proofs.Named.{at_words, named_words, lawful_map}
use Rattle.mo_file.proofs.read.read_file.Goals as goal

pub word-n-requires : goal.word-n-requires
word-n-requires g c = omega (arith, c.requires Short (omega arith))

pub word-requires : goal.word-requires
word-requires g c = omega (arith, c.requires Short (omega arith))

pub word-requires-2 : goal.word-requires-2
word-requires-2 g c = omega (arith, c.requires Short (omega arith))

pub entries-requires-clause-originals : goal.entries-requires-clause-originals
entries-requires-clause-originals g c =
    at_words (λ a n. TableLies (table_at g.T.ByteOrder.number_of c.args.bytes.now a n)) _ _ _ _ c.word.ensures.value
    c.word-n.ensures.value (c.requires Bounds (omega arith)).0

pub entries-requires-clause-translations : goal.entries-requires-clause-translations
entries-requires-clause-translations g c =
    at_words (λ a n. TableLies (table_at g.T.ByteOrder.number_of c.args.bytes.now a n)) _ _ _ _ c.word-2.ensures.value
    c.word-n.ensures.value (c.requires Bounds (omega arith)).1

pub entries-requires-clause-original_texts : goal.entries-requires-clause-original_texts
entries-requires-clause-original_texts g c =
    at_words (λ a n. AreOriginalTexts (table_at g.T.ByteOrder.number_of c.args.bytes.now a n)) _ _ _ _
    c.word.ensures.value c.word-n.ensures.value (c.requires BadText (omega arith)).0

pub entries-requires-clause-translation_texts : goal.entries-requires-clause-translation_texts
entries-requires-clause-translation_texts g c =
    at_words (λ a n. AreTranslationTexts (table_at g.T.ByteOrder.number_of c.args.bytes.now a n)) _ _ _ _
    c.word-2.ensures.value c.word-n.ensures.value (c.requires BadText (omega arith)).1

pub from_strings-requires : goal.from_strings-requires
from_strings-requires g c =
    let number = g.T.ByteOrder.number_of in
    subst IsLawful (sym (c.in_ok-entries.ensures ∙ named_words number c.args.bytes.now _ _ _ c.word.ensures.value
    c.word-2.ensures.value c.word-n.ensures.value)) (lawful_map number c.args.bytes.now c.requires)
