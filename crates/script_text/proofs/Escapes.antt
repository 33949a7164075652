-- Texts with escapes.
use Rattle.std.proofs.Common.{◌≡◌, ◌≢◌, ◌∙◌, refl, sym, ap, ℕ, suc, ◌<◌, false, eqb, List, [], ◌∷◌, ◌++◌, length}
use Rattle.std.proofs.Common.{get_or, Option, Some, None, arith, append_assoc}
use Rattle.std.specs.Option.{option_map, option_and_then}
use Rattle.std.proofs.lemmas.Bool.{ne_eqb}
use Rattle.std.proofs.lemmas.List.{append-nil}
use Rattle.std.proofs.lemmas.Iterator.Adapters.{option_map_id}
use Rattle.script_text.specs.ScriptFields.{unescaped_text, escaped_byte}
use Rattle.script_text.specs.Scanning.{SplitsEscape}

-- a text that begins with none of the letters
pub no_escape : (text : List ℕ) → ((rest : List ℕ) → text ≢ 110 ∷ rest) → ((rest : List ℕ) → text ≢ 116 ∷ rest)
    → ((rest : List ℕ) → text ≢ 92 ∷ rest) → SplitsEscape None text
no_escape text n t b letter rest e =
    let no_n : letter ≢ 110 = λ is. n rest (e ∙ ap (λ l. l ∷ rest) is) in
    let no_t : letter ≢ 116 = λ is. t rest (e ∙ ap (λ l. l ∷ rest) is) in
    let no_b : letter ≢ 92 = λ is. b rest (e ∙ ap (λ l. l ∷ rest) is) in
    rw (ne_eqb letter 110 no_n, ne_eqb letter 116 no_t, ne_eqb letter 92 no_b) refl

bind-map : (b : ℕ) (o : Option (List ℕ)) → option_and_then (λ rest. Some (b ∷ rest)) o ≡ option_map (λ more. b ∷ more) o
bind-map b None = refl
bind-map b (Some x) = refl

map-map : (xs ys : List ℕ) (o : Option (List ℕ)) → option_map (λ more. xs ++ more) (option_map (λ more. ys ++ more) o)
    ≡ option_map (λ more. (xs ++ ys) ++ more) o
map-map xs ys None = refl
map-map xs ys (Some x) = ap (λ zs. Some zs) (sym (append_assoc xs ys x))

pub reads_nothing : (field : List ℕ) → unescaped_text field ≡ option_map (λ more. [] ++ more) (unescaped_text field)
reads_nothing field = sym (option_map_id (unescaped_text field))

-- bytes without a backslash mean themselves
pub unescaped-plain : (plain rest : List ℕ) → ((k : ℕ) → k < length plain → get_or plain k 0 ≢ 92)
    → unescaped_text (plain ++ rest) ≡ option_map (λ more. plain ++ more) (unescaped_text rest)
unescaped-plain [] rest none = reads_nothing rest
unescaped-plain (b ∷ plain) rest none =
    let other : eqb b 92 ≡ false = ne_eqb b 92 (none 0 (omega arith)) in
    unescaped-cons (plain ++ rest) other ∙ ap (λ o. option_map (λ more. b ∷ more) o)
    (unescaped-plain plain rest (λ k lt. none (suc k) (omega arith))) ∙ map-map (b ∷ []) plain (unescaped_text rest)
  where
    unescaped-cons : (text : List ℕ) → eqb b 92 ≡ false → unescaped_text (b ∷ text)
        ≡ option_map (λ more. b ∷ more) (unescaped_text text)
    unescaped-cons [] other = rw other refl
    unescaped-cons (c ∷ text) other = rw other (bind-map b (unescaped_text (c ∷ text)))

-- ---- one step of reading a text

-- a backslash, a letter, and what follows
unescaped-escape : (letter byte : ℕ) (after : List ℕ) → escaped_byte letter ≡ Some byte
    → unescaped_text (92 ∷ letter ∷ after) ≡ option_map (λ more. (byte ∷ []) ++ more) (unescaped_text after)
unescaped-escape letter byte after e = rw e (bind-map byte (unescaped_text after))

-- one more part without a backslash, followed by an escape
pub reads_more : (field bytes rest plain behind after : List ℕ) (letter byte : ℕ) → unescaped_text field
    ≡ option_map (λ more. bytes ++ more) (unescaped_text rest) → rest ≡ plain ++ 92 ∷ behind
    → ((k : ℕ) → k < length plain → get_or plain k 0 ≢ 92) → behind ≡ letter ∷ after → escaped_byte letter ≡ Some byte
    → unescaped_text field ≡ option_map (λ more. ((bytes ++ plain) ++ (byte ∷ [])) ++ more) (unescaped_text after)
reads_more field bytes rest plain behind after letter byte h cut none e is =
    rw (h, cut, e, unescaped-plain plain (92 ∷ letter ∷ after) none, unescaped-escape letter byte after is)
    (simp (map-map plain (byte ∷ []), map-map bytes (plain ++ byte ∷ [])) (simp append_assoc))

-- a backslash that no letter follows
pub reads_none : (field bytes rest plain behind : List ℕ) → unescaped_text field
    ≡ option_map (λ more. bytes ++ more) (unescaped_text rest) → rest ≡ plain ++ 92 ∷ behind
    → ((k : ℕ) → k < length plain → get_or plain k 0 ≢ 92) → SplitsEscape None behind → unescaped_text field ≡ None
reads_none field bytes rest plain behind h cut none bad =
    rw (h, cut, unescaped-plain plain (92 ∷ behind) none, is_none behind bad) refl
  where
    is_none : (behind : List ℕ) → SplitsEscape None behind → unescaped_text (92 ∷ behind) ≡ None
    is_none [] bad = refl
    is_none (letter ∷ after) bad = rw (bad letter after refl) refl

-- the last part has no backslash
pub reads_all : (field bytes rest : List ℕ) → unescaped_text field
    ≡ option_map (λ more. bytes ++ more) (unescaped_text rest)
    → ((k : ℕ) → k < length rest → get_or rest k 0 ≢ 92) → unescaped_text field ≡ Some (bytes ++ rest)
reads_all field bytes rest h none =
    let last : unescaped_text rest ≡ Some rest = rw (← append-nil rest) (unescaped-plain rest [] none) in
    h ∙ ap (λ o. option_map (λ more. bytes ++ more) o) last
