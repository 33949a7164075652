-- The numbers that C and this library share, as kobdzila.h (enum kob_fault) and the files of c/ have them.
use Rattle.std.specs.Prelude.{ℕ}

-- ---- why an operation failed; the faults of an MO file are its ranks, from 1 on

abbrev pub no_fault : ℕ
no_fault = 0

abbrev pub memory_fault : ℕ
memory_fault = 12

-- the tables of an MO file's system-dependent part don't lie in the file
abbrev pub tables_fault : ℕ
tables_fault = 13

-- a byte of an MO file has no character in the charset that the header names
abbrev pub mo_no_character_fault : ℕ
mo_no_character_fault = 20

-- the ranks of a PO text's faults are counted from here
abbrev pub po_faults : ℕ
po_faults = 100

-- a byte of a PO text has no character in the charset that the header names
abbrev pub no_character_fault : ℕ
no_character_fault = 119

-- the MO file that was written of a PO text doesn't read as its messages
abbrev pub not_read_back_fault : ℕ
not_read_back_fault = 120

abbrev pub name_fault : ℕ
name_fault = 202

-- C's functions return 0 or NULL for it
abbrev pub busy_fault : ℕ
busy_fault = 203

abbrev pub spent_fault : ℕ
spent_fault = 204

-- C's functions read the text once more
abbrev pub wanted_again_fault : ℕ
wanted_again_fault = 205

-- ---- which number of a value is wanted: of a catalogue

abbrev pub the_fault : ℕ
the_fault = 0

abbrev pub the_line : ℕ
the_line = 1

abbrev pub the_count : ℕ
the_count = 2

abbrev pub the_forms : ℕ
the_forms = 3

abbrev pub has_context : ℕ
has_context = 4

abbrev pub has_plural : ℕ
has_plural = 5

-- ---- and of the PO text that it was compiled from

abbrev pub the_translated : ℕ
the_translated = 6

abbrev pub the_fuzzy : ℕ
the_fuzzy = 7

abbrev pub the_untranslated : ℕ
the_untranslated = 8

-- ---- and of a fault of a format

abbrev pub fault_line : ℕ
fault_line = 3

abbrev pub fault_language : ℕ
fault_language = 4

abbrev pub fault_form : ℕ
fault_form = 5

abbrev pub fault_difference : ℕ
fault_difference = 6

-- ---- and of a set, a store or a reader, which also have the_fault

abbrev pub the_version : ℕ
the_version = 1

abbrev pub the_pending : ℕ
the_pending = 2

-- ---- which string of a catalogue is wanted

abbrev pub file_bytes : ℕ
file_bytes = 0

abbrev pub context_part : ℕ
context_part = 1

abbrev pub msgid_part : ℕ
msgid_part = 2

abbrev pub plural_part : ℕ
plural_part = 3

abbrev pub form_part : ℕ
form_part = 4

-- ---- the calls

abbrev pub gettext : ℕ
gettext = 0

abbrev pub pgettext : ℕ
pgettext = 1

abbrev pub ngettext : ℕ
ngettext = 2

abbrev pub npgettext : ℕ
npgettext = 3
