-- The struct of the code as a value.
use Rattle.std.specs.Prelude.{map, option_map}
use Rattle.format_checks.specs.declared.entry.Entry as code_entry
use Rattle.format_checks.specs.FlaggedEntries.{Entry}

abbrev pub entry_view : code_entry.Entry → Entry
entry_view e = record {
  line = e.line;
  flags = e.flags;
  id = e.id.now;
  plural = option_map (λ text. text.now) e.plural;
  forms = map (λ form. form.now) e.forms.now;
}
