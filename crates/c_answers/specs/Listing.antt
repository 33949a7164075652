-- What C can list of a catalogue that it holds: numbers and strings, of the whole and of each entry.
use Rattle.std.specs.Prelude.{ℕ, ◌==◌, if◌then◌else◌, List, [], length, slice_get, Bool, Option, is_some}
use Rattle.std.specs.Option.{option_map_or}
use Rattle.std.specs.Arc.{arc_value}
use Rattle.mo_image.specs.Entry.{Entry}
use Rattle.mo_image.specs.MoFile.{spelling}
use Rattle.c_answers.specs.declared.opened.Opened.{Opened}
use Rattle.c_answers.specs.Answering.{map_of}
use Rattle.c_answers.specs.Numbers.{the_fault, the_line, the_count, the_forms, has_context, has_plural}
use Rattle.c_answers.specs.Numbers.{the_translated, the_fuzzy, the_untranslated}
use Rattle.c_answers.specs.Numbers.{file_bytes, context_part, msgid_part, plural_part, form_part}

-- 1 for yes, 0 for no
abbrev pub as_number : Bool → ℕ
as_number b = if b then 1 else 0

-- a string that may be missing, which is empty then
abbrev pub or_nothing : Option (List ℕ) → List ℕ
or_nothing text = option_map_or (λ t. t) text []

-- the form with this index
abbrev pub form_at : Entry → ℕ → List ℕ
form_at e k = or_nothing (slice_get e.forms k)

-- a number of an entry; 0 if there is no such number
abbrev pub entry_number : Entry → ℕ → ℕ
entry_number e which =
    if which == the_forms then length e.forms
    else (if which == has_context then as_number (is_some e.context)
    else (if which == has_plural then as_number (is_some e.plural) else 0))

-- a number of what was opened, or of entry i
abbrev pub number : Opened → ℕ → ℕ → ℕ
number c which i =
    if which == the_fault then c.fault
    else (if which == the_line then c.line
    else (if which == the_count then length (map_of c)
    else (if which == the_translated then c.stats.translated
    else (if which == the_fuzzy then c.stats.fuzzy
    else (if which == the_untranslated then c.stats.untranslated
    else option_map_or (λ e. entry_number e which) (slice_get (map_of c) i) 0)))))

-- a string of an entry: for form_part its form k
abbrev pub entry_text : Entry → ℕ → ℕ → List ℕ
entry_text e part k =
    if part == context_part then or_nothing e.context
    else (if part == msgid_part then e.id
    else (if part == plural_part then or_nothing e.plural
    else (if part == form_part then form_at e k else [])))

-- the MO file of the map of what was opened
abbrev pub map_file : Opened → List ℕ
map_file c = option_map_or (λ shared. spelling (arc_value shared)) c.catalogue []

-- the MO file of what was opened: its own, or else that of its map
abbrev pub file_of : Opened → List ℕ
file_of c = option_map_or (λ file. file.items) c.file (map_file c)

-- the MO file of what was opened, or a string of entry i
abbrev pub text : Opened → ℕ → ℕ → ℕ → List ℕ
text c part i k =
    if part == file_bytes then file_of c else option_map_or (λ e. entry_text e part k) (slice_get (map_of c) i) []
