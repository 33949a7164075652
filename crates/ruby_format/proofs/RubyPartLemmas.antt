-- What follows a part or an end of a directive is shorter than the text; and digits.
use Rattle.std.proofs.Common.{◌≡◌, ℕ, suc, ◌<◌, ◌≤◌, Bool, true, false, List, [], ◌∷◌, length, Option, None, Some}
use Rattle.std.proofs.Common.{refl, subst, ◌==◌, ◌-◌, get_or, arith, rules, tests, inl, inr, option_map}
use Rattle.std.specs.Prelude.{◌||◌, if◌then◌else◌}
use Rattle.std.specs.List.{list_all, prefix_len}
use Rattle.std.specs.Char.{is_ascii_digit}
use Rattle.std.proofs.lemmas.List.{length-drop}
use Rattle.std.proofs.lemmas.List.Folds.{list_all_at}
use Rattle.std.proofs.lemmas.Bool.{cases_Bool}
use Rattle.format_arguments.specs.Bytes.{run, behind}
use Rattle.format_arguments.specs.Text.{is_plain}
use Rattle.format_arguments.specs.declared.Kind.{Kind}
use Rattle.ruby_format.specs.declared.parts.Amount.{Amount}
use Rattle.ruby_format.specs.RubyPieces.{percent, newline, star, dot, less, greater, open_brace, close_brace, number_of}
use Rattle.ruby_format.specs.RubyPieces.{Name, Part, Flag, To, Width, Precision, Ending, Asks, Braces, before_dollar}
use Rattle.ruby_format.specs.RubyPieces.{numeral_at, closed_name, name_at, asked_by, star_at, precision_at, is_flag}
use Rattle.ruby_format.specs.RubyPieces.{digits_as, digits_at, marked_at, part_at, kind_of, ending_at}

-- ---- numbers

pub digit_small : (digits : List ℕ) (i : ℕ) → i < length digits → list_all is_ascii_digit digits ≡ true
    → get_or digits i 0 - 48 ≤ 9
digit_small digits i lt all = elim (cases_Bool (is_ascii_digit (get_or digits i 0))) [
  | inl e ↦ search (rules, tests)
  | inr e ↦ absurd (cc (list_all_at is_ascii_digit digits i 0 lt e, all))
]

-- ---- what was read leaves at most n bytes

abbrev Within : {X : Type 0} → ℕ → Option (X × List ℕ) → Type 0
Within n None = Unit {0}
Within n (Some found) = length found.1 ≤ n

within_more : {X : Type 0} (n m : ℕ) (found : Option (X × List ℕ)) → n ≤ m → Within n found → Within m found
within_more n m None le w = tt
within_more n m (Some found) le w = omega (arith, w)

mapped_within : {X Y : Type 0} (h : X → Y) (n : ℕ) (found : Option (X × List ℕ)) → Within n found
    → Within n (option_map (λ (f : X × List ℕ). (h f.0, f.1)) found)
mapped_within h n None w = tt
mapped_within h n (Some found) w = w

choice_within : {X : Type 0} (n : ℕ) (test : Bool) (one other : Option (X × List ℕ)) → (test ≡ true → Within n one)
    → Within n other → Within n (if test then one else other)
choice_within n true one other w v = w refl
choice_within n false one other w v = v

behind_within : (test : ℕ → Bool) (text : List ℕ) → length (behind test text) ≤ length text
behind_within test text = omega (arith, length-drop (prefix_len test text) text)

behind_shorter : (test : ℕ → Bool) (b : ℕ) (more : List ℕ) → test b ≡ true
    → length (behind test (b ∷ more)) ≤ length more
behind_shorter test b more e =
    let long : prefix_len test (b ∷ more) ≡ suc (prefix_len test more) = rw e (omega arith) in
    omega (arith, long, length-drop (prefix_len test (b ∷ more)) (b ∷ more))

dollar_within : (number : ℕ) (text : List ℕ) → Within (length text) (before_dollar number text)
dollar_within number [] = tt
dollar_within number (b ∷ rest) = elim (cases_Bool (b == 36)) [
  | inl e ↦ rw e (omega arith)
  | inr e ↦ rw e tt
]

numeral_within : (text : List ℕ) → Within (length text) (numeral_at text)
numeral_within text = within_more (length (behind is_ascii_digit text)) (length text) (numeral_at text)
    (behind_within is_ascii_digit text)
    (dollar_within (number_of (run is_ascii_digit text)) (behind is_ascii_digit text))

asked_within : (found : Option (ℕ × List ℕ)) (text : List ℕ) → Within (length text) found
    → Within (length text) (asked_by found text)
asked_within None text w = omega arith
asked_within (Some (number, rest)) text w = elim (cases_Bool (number == 0)) [
  | inl e ↦ rw e tt
  | inr e ↦ rw e w
]

star_within : (text : List ℕ) → Within (length text) (star_at text)
star_within text = asked_within (numeral_at text) text (numeral_within text)

precision_within : (text : List ℕ) → Within (length text) (precision_at text)
precision_within [] = omega arith
precision_within (b ∷ more) = elim (cases_Bool (b == star)) [
  | inl e ↦ rw e (within_more (length more) (length (b ∷ more)) (star_at more) (omega arith) (star_within more))
  | inr e ↦ rw e (behind_within is_ascii_digit (b ∷ more))
]

closed_within : (name text : List ℕ) → Within (length text) (closed_name name text)
closed_within name [] = tt
closed_within name (b ∷ rest) = omega arith

name_within : (close : ℕ) (text : List ℕ) → Within (length text) (name_at close text)
name_within close text = within_more (length (behind (is_plain close) text)) (length text) (name_at close text)
    (behind_within (is_plain close) text)
    (closed_within (run (is_plain close) text) (behind (is_plain close) text))

-- ---- parts

numbered_within : (n : ℕ) (found : Option (ℕ × List ℕ)) (other : List ℕ) → Within n found → length other ≤ n
    → length (digits_as found other).1 ≤ n
numbered_within n None other w le = le
numbered_within n (Some (number, rest)) other w le = w

digits_within : (b : ℕ) (more : List ℕ) → is_ascii_digit b ≡ true → length (digits_at (b ∷ more)).1 ≤ length more
digits_within b more e =
    let digits = run is_ascii_digit (b ∷ more) in
    let rest = behind is_ascii_digit (b ∷ more) in
    let le = behind_shorter is_ascii_digit b more e in
    numbered_within (length more) (numeral_at (b ∷ more)) rest
    (within_more (length rest) (length more) (numeral_at (b ∷ more)) le (dollar_within (number_of digits) rest)) le

marked_within : (b : ℕ) (more : List ℕ) → Within (length more) (marked_at b more)
marked_within b more = elim (cases_Bool (b == star)) [
  | inl e ↦ rw e (mapped_within (λ (a : Amount). Width a) (length more) (star_at more) (star_within more))
  | inr e ↦ elim (cases_Bool (b == dot)) [
    | inl f ↦ rw (e, f)
        (mapped_within (λ (a : Amount). Precision a) (length more) (precision_at more) (precision_within more))
    | inr f ↦ elim (cases_Bool (b == less)) [
      | inl g ↦ rw (e, f, g) (mapped_within (λ (name : List ℕ). To (Name name)) (length more) (name_at greater more)
          (name_within greater more))
      | inr g ↦ rw (e, f, g) tt
    ]
  ]
]

part_within : (b : ℕ) (more : List ℕ) → Within (length more) (part_at (b ∷ more))
part_within b more = choice_within (length more) (is_flag b) (Some (Flag, more))
    (if is_ascii_digit b then Some (digits_at (b ∷ more)) else marked_at b more) (λ e. omega arith)
    (choice_within (length more) (is_ascii_digit b) (Some (digits_at (b ∷ more))) (marked_at b more)
    (digits_within b more) (marked_within b more))

pub part_shorter : (text : List ℕ) (part : Part) (rest : List ℕ) → part_at text ≡ Some (part, rest)
    → length rest < length text
part_shorter [] part rest e = absurd (cc e)
part_shorter (b ∷ more) part rest e =
    let w = subst (λ (found : Option (Part × List ℕ)). Within (length more) found) e (part_within b more) in
    omega (arith, w)

-- ---- ends

asks_within : (more : List ℕ) (found : Option Kind)
    → Within (length more) (option_map (λ (kind : Kind). (Asks kind, more)) found)
asks_within more None = tt
asks_within more (Some kind) = omega arith

ending_within : (b : ℕ) (more : List ℕ) → Within (length more) (ending_at (b ∷ more))
ending_within b more = elim (cases_Bool (b == percent || b == newline)) [
  | inl e ↦ rw e (omega arith)
  | inr e ↦ elim (cases_Bool (b == open_brace)) [
    | inl f ↦ rw (e, f) (mapped_within (λ (name : List ℕ). Braces name) (length more) (name_at close_brace more)
        (name_within close_brace more))
    | inr f ↦ rw (e, f) (asks_within more (kind_of b))
  ]
]

pub ending_shorter : (text : List ℕ) (ending : Ending) (rest : List ℕ) → ending_at text ≡ Some (ending, rest)
    → length rest < length text
ending_shorter [] ending rest e = absurd (cc e)
ending_shorter (b ∷ more) ending rest e =
    let w = subst (λ (found : Option (Ending × List ℕ)). Within (length more) found) e (ending_within b more) in
    omega (arith, w)
