-- Private: what each message is checked for, on the way to a lawful map.
use Rattle.std.specs.Prelude.{Bool, [], IfSome}
use Rattle.std.specs.List.{AllByRecursion}
use Rattle.std.specs.Ordering.{nat_cmp, is_lt}
use Rattle.std.specs.Cmp.Lexicographic.{slice_cmp}
use Rattle.std.specs.Str.{bytes_eq}
use Rattle.mo_image.specs.Entry.{Entry, key, IsText, IsKeyText, HasForms}
use Rattle.catalogue_map.specs.Messages.{message_entry}
use Rattle.catalogue_map.specs.declared.sorted.Message.{Message}

-- the context and the msgid are lawful
pub record HasLawfulKey (e : Entry) : Type 0 where
  pub context : IfSome e.context IsKeyText
  pub id : IsKeyText e.id

-- the forms and their number are lawful
pub record HasLawfulForms (e : Entry) : Type 0 where
  pub texts : AllByRecursion IsText e.forms
  pub counted : HasForms e.plural e.forms

-- the texts other than the key are lawful
pub record HasLawfulTexts (e : Entry) : Type 0 where
  pub plural : IfSome e.plural IsText
  pub forms : HasLawfulForms e

-- the key of the first message is below that of the second
abbrev pub is_below : Message → Message → Bool
is_below first second = is_lt (slice_cmp nat_cmp (key (message_entry first)) (key (message_entry second)))

-- the message is the header: its key is empty
abbrev pub is_header : Message → Bool
is_header message = bytes_eq (key (message_entry message)) []
