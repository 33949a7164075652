-- Flags, mark by mark, and the words of a flag line.
use Rattle.po_text.proofs.Kit.{◌≡◌, ℕ, Bool, true, false, List, [], ◌∷◌, ◌++◌, take, drop, refl, sym, ap, ◌∙◌, inl, inr}
use Rattle.po_text.proofs.Kit.{one-add, map, prefix_len, take_while, Flags, Mark, flags_over, no_flags, cases_Bool}
use Rattle.std.proofs.Common.{not, reverse}
use Rattle.std.specs.List.{list_any, slice_split}
use Rattle.std.proofs.lemmas.List.{reverse-append, reverse-reverse}
use Rattle.std.proofs.lemmas.List.Sums.{fold-append, take_while-cons}
use Rattle.po_text.specs.Spelling.{Fuzzy, CFormat, Flag, Clear, flag_mark, is_separator}
use Rattle.po_text.specs.Entries.{mark_eq, is_flagged, formats_after, formats_of}
use Rattle.po_text.specs.Building.{fuzzy_of, c_format_of}
use Rattle.po_text.specs.Lexing.{is_no_separator}

-- a mark that cancels no flags
abbrev is_no_clear : Mark → Bool
is_no_clear mark = not (mark_eq Clear mark)

fuzzy_of-append : (b : Bool) (xs ys : List Mark) → fuzzy_of b (xs ++ ys) ≡ fuzzy_of (fuzzy_of b xs) ys
fuzzy_of-append b [] ys = refl
fuzzy_of-append b (Fuzzy ∷ xs) ys = fuzzy_of-append true xs ys
fuzzy_of-append b (Clear ∷ xs) ys = fuzzy_of-append false xs ys
fuzzy_of-append b (_ ∷ xs) ys = fuzzy_of-append b xs ys

c_format_of-append : (b : Bool) (xs ys : List Mark) → c_format_of b (xs ++ ys) ≡ c_format_of (c_format_of b xs) ys
c_format_of-append b [] ys = refl
c_format_of-append b (CFormat ∷ xs) ys = c_format_of-append true xs ys
c_format_of-append b (Clear ∷ xs) ys = c_format_of-append false xs ys
c_format_of-append b (_ ∷ xs) ys = c_format_of-append b xs ys

pub flags_over-append : (f : Flags) (xs ys : List Mark) → flags_over f (xs ++ ys) ≡ flags_over (flags_over f xs) ys
flags_over-append f xs ys = rw (
  fuzzy_of-append f.fuzzy xs ys,
  c_format_of-append f.c_format xs ys,
  fold-append formats_after f.formats xs ys,
) refl

-- ---- a flag comes after the last Clear

fuzzy_next : (mark : Mark) (marks : List Mark) → fuzzy_of false (reverse marks)
    ≡ list_any (mark_eq Fuzzy) (take_while is_no_clear marks) → fuzzy_of false (reverse (mark ∷ marks))
    ≡ list_any (mark_eq Fuzzy) (take_while is_no_clear (mark ∷ marks))
fuzzy_next mark marks before =
    ap (λ (m : List Mark). fuzzy_of false m) (reverse-append (mark ∷ []) marks)
    ∙ fuzzy_of-append false (reverse marks) (mark ∷ []) ∙ last mark
  where
    last : (m : Mark) → fuzzy_of (fuzzy_of false (reverse marks)) (m ∷ [])
        ≡ list_any (mark_eq Fuzzy) (take_while is_no_clear (m ∷ marks))
    last Fuzzy = sym (ap (λ (m : List Mark). list_any (mark_eq Fuzzy) m) (take_while-cons is_no_clear Fuzzy marks))
    last CFormat = before ∙ sym (ap (λ (m : List Mark). list_any (mark_eq Fuzzy) m)
        (take_while-cons is_no_clear CFormat marks))
    last (Flag word) = before ∙ sym (ap (λ (m : List Mark). list_any (mark_eq Fuzzy) m)
        (take_while-cons is_no_clear (Flag word) marks))
    last Clear = sym (ap (λ (m : List Mark). list_any (mark_eq Fuzzy) m) (take_while-cons is_no_clear Clear marks))

fuzzy_from_last : (marks : List Mark) → fuzzy_of false (reverse marks)
    ≡ list_any (mark_eq Fuzzy) (take_while is_no_clear marks)
fuzzy_from_last [] = refl
fuzzy_from_last (Fuzzy ∷ marks) = fuzzy_next Fuzzy marks (fuzzy_from_last marks)
fuzzy_from_last (CFormat ∷ marks) = fuzzy_next CFormat marks (fuzzy_from_last marks)
fuzzy_from_last (Flag word ∷ marks) = fuzzy_next (Flag word) marks (fuzzy_from_last marks)
fuzzy_from_last (Clear ∷ marks) = fuzzy_next Clear marks (fuzzy_from_last marks)

c_format_next : (mark : Mark) (marks : List Mark) → c_format_of false (reverse marks)
    ≡ list_any (mark_eq CFormat) (take_while is_no_clear marks) → c_format_of false (reverse (mark ∷ marks))
    ≡ list_any (mark_eq CFormat) (take_while is_no_clear (mark ∷ marks))
c_format_next mark marks before =
    ap (λ (m : List Mark). c_format_of false m) (reverse-append (mark ∷ []) marks)
    ∙ c_format_of-append false (reverse marks) (mark ∷ []) ∙ last mark
  where
    last : (m : Mark) → c_format_of (c_format_of false (reverse marks)) (m ∷ [])
        ≡ list_any (mark_eq CFormat) (take_while is_no_clear (m ∷ marks))
    last CFormat = sym (ap (λ (m : List Mark). list_any (mark_eq CFormat) m)
        (take_while-cons is_no_clear CFormat marks))
    last Fuzzy = before ∙ sym (ap (λ (m : List Mark). list_any (mark_eq CFormat) m)
        (take_while-cons is_no_clear Fuzzy marks))
    last (Flag word) = before ∙ sym (ap (λ (m : List Mark). list_any (mark_eq CFormat) m)
        (take_while-cons is_no_clear (Flag word) marks))
    last Clear = sym (ap (λ (m : List Mark). list_any (mark_eq CFormat) m) (take_while-cons is_no_clear Clear marks))

c_format_from_last : (marks : List Mark) → c_format_of false (reverse marks)
    ≡ list_any (mark_eq CFormat) (take_while is_no_clear marks)
c_format_from_last [] = refl
c_format_from_last (Fuzzy ∷ marks) = c_format_next Fuzzy marks (c_format_from_last marks)
c_format_from_last (CFormat ∷ marks) = c_format_next CFormat marks (c_format_from_last marks)
c_format_from_last (Flag word ∷ marks) = c_format_next (Flag word) marks (c_format_from_last marks)
c_format_from_last (Clear ∷ marks) = c_format_next Clear marks (c_format_from_last marks)

fuzzy_is : (marks : List Mark) → fuzzy_of false marks ≡ is_flagged Fuzzy marks
fuzzy_is marks = ap (λ (m : List Mark). fuzzy_of false m) (sym (reverse-reverse marks))
    ∙ fuzzy_from_last (reverse marks)

c_format_is : (marks : List Mark) → c_format_of false marks ≡ is_flagged CFormat marks
c_format_is marks = ap (λ (m : List Mark). c_format_of false m) (sym (reverse-reverse marks))
    ∙ c_format_from_last (reverse marks)

pub flags_are : (marks : List Mark) → flags_over no_flags marks
    ≡ record { fuzzy = is_flagged Fuzzy marks; c_format = is_flagged CFormat marks; formats = formats_of marks }
flags_are marks = rw (fuzzy_is marks, c_format_is marks) refl

-- ---- the words of a flag line

-- what follows the first word of a flag line
abbrev more_words : List ℕ → List (List ℕ)
more_words [] = []
more_words (b ∷ later) = slice_split is_separator later

split_first : (words : List ℕ) → slice_split is_separator words ≡ take (prefix_len is_no_separator words) words
    ∷ more_words (drop (prefix_len is_no_separator words) words)
split_first [] = refl
split_first (b ∷ xs) = elim (cases_Bool (is_separator b)) [
  | inl here ↦ rw here refl
  | inr not_here ↦ rw (not_here, one-add, split_first xs) refl
]

pub words_step : (words word rest later : List ℕ) (n b : ℕ) (f g : Flags) → n ≡ prefix_len is_no_separator words → word
    ≡ take n words → rest ≡ drop n words → rest ≡ b ∷ later → g ≡ flags_over f (flag_mark word ∷ [])
    → flags_over f (map flag_mark (slice_split is_separator words))
    ≡ flags_over g (map flag_mark (slice_split is_separator later))
words_step words word rest later n b f g len front back split flags =
    let cut : slice_split is_separator words ≡ word ∷ slice_split is_separator later = split_first words
    ∙ rw (← len, ← back, split, ← front) refl in
    ap (λ (x : List (List ℕ)). flags_over f (map flag_mark x)) cut
    ∙ flags_over-append f (flag_mark word ∷ []) (map flag_mark (slice_split is_separator later))
    ∙ ap (λ (x : Flags). flags_over x (map flag_mark (slice_split is_separator later))) (sym flags)

pub words_end : (words word rest : List ℕ) (n : ℕ) (f g : Flags) → n ≡ prefix_len is_no_separator words → word
    ≡ take n words → rest ≡ drop n words → rest ≡ [] → g ≡ flags_over f (flag_mark word ∷ [])
    → flags_over f (map flag_mark (slice_split is_separator words)) ≡ g
words_end words word rest n f g len front back split flags =
    let cut : slice_split is_separator words ≡ word ∷ [] = split_first words
    ∙ rw (← len, ← back, split, ← front) refl in
    ap (λ (x : List (List ℕ)). flags_over f (map flag_mark x)) cut ∙ sym flags
