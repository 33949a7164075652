use Rattle.po_text.proofs.Kit.{◌≡◌, length, map, flags_over}
use Rattle.std.specs.List.{slice_split}
use Rattle.po_text.specs.Spelling.{flag_mark, is_separator}
use Rattle.po_text.proofs.flags.flag_words.Given as goal

abbrev pub invariant-words : goal.invariant-words
invariant-words l = flags_over l.initial.flags (map flag_mark (slice_split is_separator l.fn.words))
    ≡ flags_over l.flags (map flag_mark (slice_split is_separator l.rest))

abbrev pub decreases-words : goal.decreases-words
decreases-words l = length l.rest
