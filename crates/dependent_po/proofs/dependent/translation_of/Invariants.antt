use Rattle.std.proofs.Common.{take}
use Rattle.dependent_po.specs.FormAdding.{HasTranslation}
use Rattle.dependent_po.proofs.dependent.translation_of.Given as goal

abbrev pub invariant-forms : goal.invariant-forms
invariant-forms l = HasTranslation l.looks (take l.k l.entry.forms) l.translation
