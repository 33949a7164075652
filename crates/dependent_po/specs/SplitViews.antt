-- The messages that the code holds.
use Rattle.std.specs.Prelude.{List, map}
pub use Rattle.mo_dependent.specs.declared.split.Dependent.{Dependent}
use Rattle.dependent_po.specs.SplitMessages.{Message}

abbrev pub message_in : Dependent → Message
message_in d = record {
  strings = (d.original.bytes.items, d.translation.bytes.items);
  original_splits = d.original.splits.items;
  translation_splits = d.translation.splits.items;
}

abbrev pub messages_in : List Dependent → List Message
messages_in dependents = map message_in dependents
