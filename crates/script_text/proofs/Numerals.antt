-- What `parse` reads of a text of digits.
use Rattle.std.proofs.Common.{◌≡◌, refl, sym, ap, ℕ, ◌<◌, ◌^◌, true, false, List, length, Some, None, Result, Ok, Err}
use Rattle.std.proofs.Common.{arith, rules}
use Rattle.std.specs.List.{list_all}
use Rattle.std.specs.Char.{is_ascii_digit}
use Rattle.std.specs.Str.Parse.{digits_value, digits_value_after, ParsesUnsigned}
use Rattle.std.proofs.lemmas.Bool.{lt-ltb}
use Rattle.std.proofs.lemmas.Bool.Decides.{nat_tests}
use Rattle.std.proofs.lemmas.Str.Parse.{IsNumeralModel, numerals_by_fold, parse_digits}
use Rattle.script_text.specs.ScriptFields.{number}

own : IsNumeralModel (λ ds. list_all is_ascii_digit ds ≡ true) (digits_value 10)
own = numerals_by_fold (λ ds. list_all is_ascii_digit ds ≡ true) (search rules) (digits_value_after 10) (search rules)

-- a text with another byte is no number
pub no_digits : (text : List ℕ) → list_all is_ascii_digit text ≡ false → number text ≡ None
no_digits text other = rw other refl

-- digits that `parse` accepts are the number that it returns
pub some_number : {E : Type 0} (text : List ℕ) (r : Result ℕ E) (n : ℕ) → list_all is_ascii_digit text ≡ true
    → ParsesUnsigned 64 10 text r → r ≡ Ok n → number text ≡ Some n
some_number text r n digits parsed e =
    let h : ((0 < length text) × (digits_value 10 text < 2 ^ 64))
    × (n ≡ digits_value 10 text) = rw e at (parse_digits own 64 text r parsed digits) in
    rw (digits, lt-ltb 0 (length text) h.0.0, lt-ltb (digits_value 10 text) (2 ^ 64) h.0.1) (ap (λ m. Some m) (sym h.1))

-- and digits that it refuses are no number
pub no_number : {E : Type 0} (text : List ℕ) (r : Result ℕ E) (fault : E) → list_all is_ascii_digit text ≡ true
    → ParsesUnsigned 64 10 text r → r ≡ Err fault → number text ≡ None
no_number text r fault digits parsed e =
    let h : ¬ ((0 < length text) × (digits_value 10 text < 2 ^ 64)) = rw e at
    (parse_digits own 64 text r parsed digits) in
    rw digits (grind (arith, nat_tests, h))
