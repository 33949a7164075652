-- One call after another appends the next part of the text.
use Rattle.std.proofs.Common.{◌≡◌, ℕ, ◌+◌, ◌<◌, Bool, List, [], ◌∷◌, ◌++◌, length, take, Some, slice_get}
use Rattle.std.proofs.Common.{sym, ap, ◌∙◌, arith, append_assoc}
use Rattle.std.specs.List.{flat_map}
use Rattle.std.proofs.lemmas.List.{take_more, length-take, append-nil}
use Rattle.std.proofs.lemmas.List.Concat.{flat_map-append}
use Rattle.std.proofs.lemmas.Option.{get_or_from_slice_get, slice_get_within}
use Rattle.message.specs.Message.{Entry}
use Rattle.po_writing.specs.Written.{literal, parts_of, written_entry, po_of}
use Rattle.po_writing.specs.Steps.{is_several, behind_quote, empty_part}
use Rattle.po_writing.proofs.Lines.{string_written}

pub text_pushed : (escape : Bool) (text old a b new : List ℕ) → a ≡ old ++ 32 ∷ []
    → b ≡ a ++ empty_part (is_several text) → new ≡ b ++ 34 ∷ behind_quote escape text
    → new ≡ old ++ (32 ∷ flat_map (literal escape) (parts_of text))
text_pushed escape text old a b new x y z =
    let front = empty_part (is_several text) in
    let back = 34 ∷ behind_quote escape text in
    z ∙ ap (λ (t : List ℕ). t ++ back) y ∙ append_assoc a front back ∙ ap (λ (t : List ℕ). t ++ (front ++ back)) x
    ∙ append_assoc old (32 ∷ []) (front ++ back)
    ∙ ap (λ (t : List ℕ). old ++ 32 ∷ t) (sym (string_written escape text))

pub two_pushed : (old a new xs ys : List ℕ) → a ≡ old ++ xs → new ≡ a ++ ys → new ≡ old ++ (xs ++ ys)
two_pushed old a new xs ys x y = y ∙ ap (λ (t : List ℕ). t ++ ys) x ∙ append_assoc old xs ys

-- ---- the entries of a catalogue

taken : (m : List Entry) (i : ℕ) (e : Entry) → slice_get m i ≡ Some e → take (i + 1) m ≡ take i m ++ e ∷ []
taken m i e found = take_more m i e (slice_get_within m i e found)
    ∙ ap (λ (x : Entry). take i m ++ x ∷ []) (get_or_from_slice_get m i e e found)

po_push : (escape : Bool) (m : List Entry) (e : Entry) → 0 < length m
    → po_of escape (m ++ e ∷ []) ≡ (po_of escape m ++ 10 ∷ []) ++ written_entry escape e
po_push escape [] e some = absurd (omega arith)
po_push escape (x ∷ m) e some =
    let f : Entry → List ℕ = λ y. 10 ∷ written_entry escape y in
    let first = written_entry escape x in
    let later = flat_map f m in
    let last = written_entry escape e in
    ap (λ (t : List ℕ). first ++ t) (flat_map-append f m (e ∷ [])
    ∙ ap (λ (t : List ℕ). later ++ 10 ∷ t) (append-nil last))
    ∙ sym (append_assoc first later (10 ∷ last)) ∙ sym (append_assoc (first ++ later) (10 ∷ []) last)

pub first_pushed : (escape : Bool) (m : List Entry) (i : ℕ) (e : Entry) (old new : List ℕ) → slice_get m i ≡ Some e
    → i ≡ 0 → old ≡ po_of escape (take i m) → new ≡ old ++ written_entry escape e → new ≡ po_of escape (take (i + 1) m)
first_pushed escape m i e old new found first was is =
    let none : take i m ≡ [] = ap (λ (k : ℕ). take k m) first in
    let nothing : old ≡ [] = was ∙ ap (λ (xs : List Entry). po_of escape xs) none in
    is ∙ ap (λ (t : List ℕ). t ++ written_entry escape e) nothing ∙ sym (append-nil (written_entry escape e))
    ∙ sym (ap (λ (xs : List Entry). po_of escape xs) (taken m i e found
    ∙ ap (λ (xs : List Entry). xs ++ e ∷ []) none))

pub next_pushed : (escape : Bool) (m : List Entry) (i : ℕ) (e : Entry) (old gap new : List ℕ) → slice_get m i ≡ Some e
    → 0 < i → old ≡ po_of escape (take i m) → gap ≡ old ++ 10 ∷ [] → new ≡ gap ++ written_entry escape e
    → new ≡ po_of escape (take (i + 1) m)
next_pushed escape m i e old gap new found later was over is =
    let within = slice_get_within m i e found in
    is ∙ ap (λ (t : List ℕ). t ++ written_entry escape e) (over ∙ ap (λ (t : List ℕ). t ++ 10 ∷ []) was)
    ∙ sym (ap (λ (xs : List Entry). po_of escape xs) (taken m i e found)
    ∙ po_push escape (take i m) e (omega (arith, length-take i m, within)))
