-- A directive that is only a conversion: no conversion begins another part of a directive.
use Rattle.std.proofs.Common.{◌≡◌, ℕ, ◌≤◌, Bool, true, false, List, [], ◌∷◌, ◌++◌, length, None}
use Rattle.std.proofs.Common.{refl, ◌∙◌, arith, inl, inr}
use Rattle.std.specs.List.{list_all, list_any}
use Rattle.std.specs.Char.{is_ascii_digit}
use Rattle.std.specs.Prelude.{codes, not, ◌==◌}
use Rattle.std.proofs.lemmas.Bool.{cases_Bool, and_parts, eqb-true}
use Rattle.c_signature.specs.declared.Size.TheVariants.{Byte, Short, Plain, Long, LongLong, Max, SizeT, PtrDiff}
use Rattle.c_signature.specs.Pieces.{Modifier, Fixed, Of, LongDouble, Longest, NumberForm, FlagsForm, WidthForm}
use Rattle.c_signature.specs.Pieces.{PrecisionForm, ModifierForm, percent, dollar, star, dot, is_flag, is_first_digit}
use Rattle.c_signature.specs.Conversions.{Argument, Undefined, argument_of, find_in, table}
use Rattle.c_signature.specs.Directives.{Directive, DirectiveAt, IsAllowed}
use Rattle.c_signature.specs.Signature.{requests, argument_requests}
use Rattle.c_signature.proofs.PartLemmas.{no_dollar, longest_flags, width_none, precision_none, not_at}
use Rattle.c_signature.proofs.DirectiveLemmas.{head_from, directive_from}

-- ---- tests that all conversions pass

letter_passes : (test : ℕ → Bool) (c : ℕ) (letters : List ℕ) → list_any (λ letter. c == letter) letters ≡ true
    → list_all test letters ≡ true → test c ≡ true
letter_passes test c [] e pass = absurd (cc e)
letter_passes test c (l ∷ letters) e pass =
    let both = and_parts (test l) (list_all test letters) pass in
    elim (cases_Bool (c == l)) [
      | inl same ↦ rw (eqb-true c l same) both.0
      | inr other ↦ letter_passes test c letters (rw other at e) both.1
    ]

row_passes : (test : ℕ → Bool) (c : ℕ) (m : Modifier) (rows : List (List ℕ × (Modifier → Argument)))
    → (find_in rows c m ≡ Undefined → ⊥) → list_all (λ row. list_all test row.0) rows ≡ true → test c ≡ true
row_passes test c m [] defined pass = absurd (defined refl)
row_passes test c m (row ∷ rows) defined pass =
    let both = and_parts (list_all test row.0) (list_all (λ other. list_all test other.0) rows) pass in
    elim (cases_Bool (list_any (λ letter. c == letter) row.0)) [
      | inl here ↦ letter_passes test c row.0 here both.0
      | inr other ↦ row_passes test c m rows (λ none. defined (rw other none)) both.1
    ]

-- a byte is a conversion
IsConversion : ℕ → Type 0
IsConversion c = argument_of c (Of Plain) ≡ Undefined → ⊥

-- a test that no conversion passes
fails : (test : ℕ → Bool) (c : ℕ) → IsConversion c → list_all (λ row. list_all (λ b. not (test b)) row.0) table ≡ true
    → test c ≡ false
unfolding IsConversion
fails test c defined none = go (test c) (row_passes (λ b. not (test b)) c (Of Plain) table defined none)
  where
    go : (b : Bool) → not b ≡ true → b ≡ false
    go true e = absurd (cc e)
    go false e = refl

apart : (c k : ℕ) → IsConversion c → argument_of k (Of Plain) ≡ Undefined → c ≡ k → ⊥
unfolding IsConversion
apart c k defined none e = defined (rw e none)

-- ---- the parts are empty

modifier_none : (c : ℕ) (rest : List ℕ) → IsConversion c → Longest ModifierForm (Of Plain) (c ∷ rest) (c ∷ rest)
modifier_none c rest defined = record { front = []; text_is = refl; form = refl; longest = longest_there }
  where
    differs : (word longer more : List ℕ) (k : ℕ) → c ∷ rest ≡ longer ++ more → longer ≡ k ∷ word
        → argument_of k (Of Plain) ≡ Undefined → ⊥
    differs word longer more k f e none = not_at c rest longer more (k ∷ word) f e (apart c k defined none)

    longest_there : (other : Modifier) (longer more : List ℕ) → c ∷ rest ≡ longer ++ more → ModifierForm other longer
        → length longer ≤ 0
    longest_there (Of Plain) longer more f e = rw e (omega arith)
    longest_there (Of Byte) longer more f e = absurd (differs (codes "h") longer more 104 f e refl)
    longest_there (Of Short) longer more f e = absurd (differs [] longer more 104 f e refl)
    longest_there (Of Long) longer more f e = absurd (differs [] longer more 108 f e refl)
    longest_there (Of LongLong) longer more f (inl e) = absurd (differs (codes "l") longer more 108 f e refl)
    longest_there (Of LongLong) longer more f (inr e) = absurd (differs [] longer more 113 f e refl)
    longest_there (Of Max) longer more f e = absurd (differs [] longer more 106 f e refl)
    longest_there (Of SizeT) longer more f e = absurd (differs [] longer more 122 f e refl)
    longest_there (Of PtrDiff) longer more f e = absurd (differs [] longer more 116 f e refl)
    longest_there LongDouble longer more f e = absurd (differs [] longer more 76 f e refl)

-- ---- the directive

-- what is read of a conversion alone
abbrev plain : ℕ → Directive
plain conversion = record {
  head = record { number = None; flags = []; width = Fixed; precision = Fixed };
  modifier = Of Plain;
  conversion = conversion;
}

plain_there : (c : ℕ) (rest : List ℕ) → IsConversion c → IsAllowed (argument_of c (Of Plain)) None
    → DirectiveAt (plain c) (percent ∷ c ∷ rest) rest
plain_there c rest defined allowed =
    let number : Longest NumberForm None (c ∷ rest) (c ∷ rest) =
    no_dollar (c ∷ rest) [] (c ∷ rest)
    (record { text_is = refl; passes = refl; stops = fails is_ascii_digit c defined refl })
    (λ more e. apart c dollar defined refl (cc e)) in
    let flags : Longest FlagsForm [] (c ∷ rest) (c ∷ rest) =
    longest_flags (c ∷ rest) [] (c ∷ rest)
    (record { text_is = refl; passes = refl; stops = fails is_flag c defined refl }) in
    let width : Longest WidthForm Fixed (c ∷ rest) (c ∷ rest) =
    width_none (c ∷ rest) (λ more e. apart c star defined refl (cc e))
    (λ e. cc (e, fails is_first_digit c defined refl)) in
    let precision : Longest PrecisionForm Fixed (c ∷ rest) (c ∷ rest) =
    precision_none (c ∷ rest) (λ more e. apart c dot defined refl (cc e)) in
    directive_from (plain c) (percent ∷ c ∷ rest) (c ∷ rest) (c ∷ rest) rest
    (head_from (plain c).head (c ∷ rest) (c ∷ rest) (c ∷ rest) (c ∷ rest) (c ∷ rest) number flags width precision)
    (modifier_none c rest defined) refl allowed

pub reads_plain : (text rest : List ℕ) (c : ℕ) (argument : Argument) → text ≡ c ∷ rest → argument
    ≡ argument_of c (Of Plain) → IsAllowed argument None
    → (d : Directive) × DirectiveAt d (percent ∷ text) rest × (requests d ≡ argument_requests None argument)
unfolding IsConversion
reads_plain text rest c argument begins is allowed = rw (begins, is) (
  plain c,
  plain_there c rest (λ none. rw (is ∙ none) at allowed) (rw is at allowed),
  refl,
)
