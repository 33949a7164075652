-- The entry that owned strings make up: the key is split at its EOT, and the translation at each NUL (GNU gettext
-- manual, "MO Files").
use Rattle.std.specs.Prelude.{List, map, option_map}
use Rattle.std.specs.String.{string_bytes}
use Rattle.mo_image.specs.Entry.{Entry}
use Rattle.mo_image.specs.Parts.{entry_from}
use Rattle.mo_image.specs.declared.messages.OwnedStrings.{OwnedStrings}

abbrev pub stored_entry : OwnedStrings → Entry
stored_entry m = entry_from (string_bytes m.key) (option_map (λ s. string_bytes s) m.plural)
    (string_bytes m.translation)

abbrev pub stored_entries : List OwnedStrings → List Entry
stored_entries messages = map stored_entry messages
