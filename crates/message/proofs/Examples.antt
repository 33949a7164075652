-- Worked examples: what the definitions say of a few texts.
use Rattle.std.proofs.Common.{◌≡◌, [], ◌∷◌, ◌++◌, None, Some, refl, rules}
use Rattle.std.specs.Prelude.{codes}
use Rattle.message.specs.Charset.{up_to_white, IsAcceptedCharset}
use Rattle.message.specs.Message.{first_form, key_bytes, HasForms, IsKeyText}

-- without a context, a message is looked up by its msgid
key_alone : key_bytes None (codes "Open") ≡ codes "Open"
key_alone = refl

-- in a context, by the context, byte 4 and the msgid
key_in_context : key_bytes (Some (codes "menu")) (codes "Open") ≡ codes "menu" ++ 4 ∷ codes "Open"
key_in_context = refl

-- the first of two forms
first_of_two : first_form (codes "Datei" ∷ codes "Dateien" ∷ []) ≡ codes "Datei"
first_of_two = refl

-- a message without a plural has one form
one_form : HasForms None (codes "Datei" ∷ [])
one_form = search rules

-- and not two
two_forms : ¬ HasForms None (codes "Datei" ∷ codes "Dateien" ∷ [])
two_forms = search rules

-- a msgid has no byte 4
byte_4_in_a_msgid : ¬ IsKeyText (97 ∷ 4 ∷ [])
byte_4_in_a_msgid = search rules

-- the name of a charset ends with its line
charset_of_a_line : up_to_white (codes "UTF-8\nX-Generator: Kobdzila") ≡ codes "UTF-8"
charset_of_a_line = refl

-- a charset is accepted in capital letters
capital_letters : IsAcceptedCharset (codes "UTF-8")
capital_letters = search rules

-- Latin 1 isn't accepted
latin_1 : ¬ IsAcceptedCharset (codes "ISO-8859-1")
latin_1 = search rules
