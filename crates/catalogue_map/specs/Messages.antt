-- Which entry a message is (GNU gettext manual, "Contexts"; "Plural forms").
use Rattle.std.specs.Prelude.{List, map, option_map}
use Rattle.std.specs.String.{string_bytes}
use Rattle.mo_image.specs.Entry.{Entry}
use Rattle.catalogue_map.specs.declared.sorted.Message.{Message}

abbrev pub message_entry : Message → Entry
message_entry m = record {
  context = option_map (λ s. string_bytes s) m.context;
  id = string_bytes m.id;
  plural = option_map (λ s. string_bytes s) m.plural;
  forms = map (λ s. string_bytes s) m.forms.items;
}

abbrev pub messages_of : List Message → List Entry
messages_of messages = map message_entry messages
