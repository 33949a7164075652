-- The strings of the messages so far, and the messages of the rest.
use Rattle.catalogue_map.proofs.Kit.{◌≡◌, ℕ, List, [], ◌∷◌, ◌++◌, map, Some, sym, ap, ◌∙◌, subst, append_assoc}
use Rattle.catalogue_map.proofs.Kit.{AllByRecursion, string_bytes, map-append, append-nil, Entry, key, translation}
use Rattle.catalogue_map.proofs.Kit.{IsLawfulEntry, message_entry}
use Rattle.std.proofs.Common.{option_map, String, Global}
use Rattle.std.specs.Prelude.{slice_get}
use Rattle.std.proofs.lemmas.Option.{slice_get-map}
use Rattle.mo_image.specs.Map.{IsLawful}
use Rattle.catalogue_map.specs.Messages.{messages_of}
use Rattle.mo_image.specs.Stored.{stored_entry, stored_entries}
use Rattle.mo_image.specs.Parts.{entry_from}
use Rattle.mo_image.specs.declared.messages.OwnedStrings.{OwnedStrings}
use Rattle.catalogue_map.specs.declared.sorted.Message.{Message}
use Rattle.mo_image.proofs.EntryParts.{entry_again}

pub form_at : (forms : List (String Global)) (k : ℕ) (form : String Global) (text : List ℕ) → slice_get forms k
    ≡ Some form → text ≡ string_bytes form → slice_get (map (λ s. string_bytes s) forms) k ≡ Some text
form_at forms k form text at is = slice_get-map (λ s. string_bytes s) forms k ∙ ap (option_map (λ s. string_bytes s)) at
    ∙ ap Some (sym is)

-- all messages are in these strings and in what is left
pub record Lists (strings : List OwnedStrings) (left all : List Message) : Type 0 where
  pub split : stored_entries strings ++ messages_of left ≡ messages_of all
  pub lawful : AllByRecursion IsLawfulEntry (messages_of left)

pub lists_none : (strings : List OwnedStrings) (left all : List Message) → strings ≡ [] → left ≡ all
    → IsLawful (messages_of all) → Lists strings left all
lists_none strings left all none same lawful = record {
  split = ap (λ (s : List OwnedStrings). stored_entries s ++ messages_of left) none ∙ ap messages_of same;
  lawful = subst (λ (ms : List Message). AllByRecursion IsLawfulEntry (messages_of ms)) (sym same) lawful.each;
}

pub lists_more : (strings more : List OwnedStrings) (left left' all : List Message) (m : Message) (s : OwnedStrings)
    → Lists strings left all → left ≡ m ∷ left' → more ≡ strings ++ s ∷ []
    → stored_entry s ≡ entry_from (key (message_entry m)) (message_entry m).plural (translation (message_entry m))
    → Lists more left' all
lists_more strings more left left' all m s so_far next pushed is =
    let each : AllByRecursion IsLawfulEntry (messages_of (m ∷ left')) = subst
    (λ (ms : List Message). AllByRecursion IsLawfulEntry (messages_of ms)) next so_far.lawful in
    let same : stored_entry s ≡ message_entry m = is ∙ entry_again (message_entry m) each.0 in
    let grown : stored_entries more ≡ stored_entries strings ++ (message_entry m ∷ []) = ap stored_entries pushed
    ∙ map-append stored_entry strings (s ∷ []) ∙ ap (λ (e : Entry). stored_entries strings ++ (e ∷ [])) same in
    record {
      split = ap (λ (es : List Entry). es ++ messages_of left') grown
          ∙ append_assoc (stored_entries strings) (message_entry m ∷ []) (messages_of left')
          ∙ sym (ap (λ (ms : List Message). stored_entries strings ++ messages_of ms) next) ∙ so_far.split;
      lawful = each.1;
    }

pub lists_all : (strings : List OwnedStrings) (left all : List Message) → Lists strings left all → left ≡ []
    → stored_entries strings ≡ messages_of all
lists_all strings left all so_far none = sym (append-nil (stored_entries strings))
    ∙ sym (ap (λ (ms : List Message). stored_entries strings ++ messages_of ms) none) ∙ so_far.split
