use Rattle.std.proofs.Common.{rules}
use Rattle.mo_image.proofs.extent.EntryExtents.new.Goals as goal

pub returns-then-translation-lt-LONG_TRANSLATION-clause-short :
    goal.returns-then-translation-lt-LONG_TRANSLATION-clause-short
returns-then-translation-lt-LONG_TRANSLATION-clause-short c = search rules
