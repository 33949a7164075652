-- Directives: a text begins with at most one, and which can't be read.
use Rattle.std.proofs.Common.{◌≡◌, ℕ, ◌<◌, true, List, [], ◌∷◌, ◌++◌, length, take, drop, get_or}
use Rattle.std.proofs.Common.{Option, None, Some, refl, sym, ap, ◌∙◌, arith, inl, inr, append_assoc}
use Rattle.std.proofs.lemmas.List.{take-append-drop, append_cancel_left}
use Rattle.std.specs.Prelude.{codes, is_some, MatchOption}
use Rattle.std.specs.Str.{bytes_eq}
use Rattle.std.proofs.lemmas.Slice.Eq.{bytes_eq-Decides}
use Rattle.c_signature.specs.declared.Size.TheVariants.{Byte, Short, Plain, Long, LongLong, Max, SizeT, PtrDiff}
use Rattle.c_signature.specs.declared.FormatFault.TheVariants.{Invalid, SystemDependent}
use Rattle.c_signature.specs.Pieces.{Modifier, Of, LongDouble, Longest, NumberForm}
use Rattle.c_signature.specs.Pieces.{FlagsForm, WidthForm, PrecisionForm, ModifierForm, percent}
use Rattle.c_signature.specs.Conversions.{Undefined, argument_of}
use Rattle.c_signature.specs.Directives.{Head, Directive, own_argument, HeadAt, TailAt}
use Rattle.c_signature.specs.Directives.{DirectiveAt, IsAllowed, BeginsMacro, is_name_byte, is_macro_conversion}
use Rattle.c_signature.specs.FormatScanning.{Refuses}
use Rattle.c_signature.specs.Readers.{IsRun}
use Rattle.c_signature.proofs.Runs.{one_run}
use Rattle.c_signature.proofs.PartLemmas.{longest_one, number_value, flags_value, width_value}
use Rattle.c_signature.proofs.PartLemmas.{precision_value, modifier_value, not_at}

-- two heads of one text are equal
pub head_one : (h k : Head) (text rest more : List ℕ) → HeadAt h text rest → HeadAt k text more → (h ≡ k)
    × (rest ≡ more)
head_one h k text rest more x y =
    let behind : x.behind_percent ≡ y.behind_percent = cc (x.begins, y.begins) in
    let numbers = longest_one NumberForm number_value h.number k.number y.behind_percent x.behind_number y.behind_number
    (rw behind at x.number_at) y.number_at in
    let flags = longest_one FlagsForm flags_value h.flags k.flags y.behind_number x.behind_flags y.behind_flags
    (rw numbers.1 at x.flags_at) y.flags_at in
    let widths = longest_one WidthForm width_value h.width k.width y.behind_flags x.behind_width y.behind_width
    (rw flags.1 at x.width_at) y.width_at in
    let precisions = longest_one PrecisionForm precision_value h.precision k.precision y.behind_width rest more
    (rw widths.1 at x.precision_at) y.precision_at in
    (same_head h k numbers.0 flags.0 widths.0 precisions.0, precisions.1)
  where
    same_head : (h k : Head) → h.number ≡ k.number → h.flags ≡ k.flags → h.width ≡ k.width → h.precision ≡ k.precision
        → h ≡ k
    same_head h k e f g i = rw (e, f, g, i) refl

-- two tails of one text are equal
pub tail_one : (d e : Directive) (text rest more : List ℕ) → TailAt d text rest → TailAt e text more
    → (d.modifier ≡ e.modifier) × (d.conversion ≡ e.conversion) × (rest ≡ more)
tail_one d e text rest more x y =
    let modifiers = longest_one ModifierForm modifier_value d.modifier e.modifier text x.behind_modifier
    y.behind_modifier x.modifier_at y.modifier_at in
    let whole : d.conversion ∷ rest ≡ e.conversion ∷ more = sym x.conversion_at ∙ modifiers.1 ∙ y.conversion_at in
    (modifiers.0, cc whole, cc whole)

-- a text begins with at most one directive
pub directive_one : (d e : Directive) (text rest more : List ℕ) → DirectiveAt d text rest → DirectiveAt e text more
    → (d ≡ e) × (rest ≡ more)
directive_one d e text rest more x y =
    let heads = head_one d.head e.head text x.behind_head y.behind_head x.head y.head in
    let tails = tail_one d e y.behind_head rest more (rw heads.1 at x.tail) y.tail in
    (rw (heads.0, tails.0, tails.1) refl, tails.2)

-- ---- macros

-- the parts of a macro, by the run of the bytes of its name
pub macro_parts : (text behind name over : List ℕ) (conversion : ℕ) → text ≡ codes "<PRI" ++ conversion ∷ behind
    → IsRun is_name_byte behind name over → BeginsMacro text → (is_macro_conversion conversion ≡ true)
    × (0 < length name) × ((rest : List ℕ) × (over ≡ 62 ∷ rest))
macro_parts text behind name over conversion e run m =
    let whole : codes "<PRI" ++ conversion ∷ behind ≡ codes "<PRI" ++ m.conversion
    ∷ ((m.name ++ codes ">") ++ m.rest) = sym e ∙ m.text_is in
    let parts : conversion ∷ behind ≡ m.conversion ∷ ((m.name ++ codes ">") ++ m.rest) = append_cancel_left
    (codes "<PRI") _ _ whole in
    let behinds : behind ≡ (m.name ++ codes ">") ++ m.rest = cc parts in
    let conversions : conversion ≡ m.conversion = cc parts in
    let names = one_run is_name_byte name over m.name (62 ∷ m.rest) run.passes run.stops m.name_is refl
    (sym run.text_is ∙ behinds ∙ append_assoc m.name (codes ">") m.rest) in
    (rw conversions m.conversion_is, rw names.0 m.some, (m.rest, names.1))

pub macro_prefix : (text prefix behind : List ℕ) → prefix ≡ codes "<PRI" → bytes_eq (take (length prefix) text) prefix
    ≡ true → behind ≡ drop (length prefix) text → text ≡ codes "<PRI" ++ behind
macro_prefix text prefix behind e same f =
    let front : take (length prefix) text ≡ prefix = (bytes_eq-Decides (take (length prefix) text) prefix).0 same in
    sym (take-append-drop (length prefix) text) ∙ rw (front, ← f) (ap (λ (t : List ℕ). t ++ behind) e)

pub macro_from : (text behind name over rest : List ℕ) (conversion : ℕ) → text ≡ codes "<PRI" ++ conversion ∷ behind
    → IsRun is_name_byte behind name over → is_macro_conversion conversion ≡ true → 0 < length name → over ≡ 62 ∷ rest
    → BeginsMacro text
macro_from text behind name over rest conversion e run converts some close = record {
  conversion = conversion;
  name = name;
  rest = rest;
  text_is = e ∙ ap (λ (t : List ℕ). codes "<PRI" ++ conversion ∷ t)
      (run.text_is ∙ ap (λ (t : List ℕ). name ++ t) close ∙ sym (append_assoc name (codes ">") rest));
  conversion_is = converts;
  name_is = run.passes;
  some = some;
}

-- what a test for `Some` says
pub some_there : {A : Type 0} (o : Option A) (P : Type 0) (Q : A → Type 0) → MatchOption o P Q → is_some o ≡ true
    → (x : A) × Q x
some_there None P Q h e = absurd (cc e)
some_there (Some x) P Q h e = (x, h)

modifier_at_angle : (m : Modifier) (front t rest : List ℕ) → 60 ∷ t ≡ front ++ rest → ModifierForm m front → front ≡ []
modifier_at_angle (Of Plain) front t rest f e = e
modifier_at_angle (Of Byte) front t rest f e = absurd (not_at 60 t front rest (codes "hh") f e (λ g. omega arith))
modifier_at_angle (Of Short) front t rest f e = absurd (not_at 60 t front rest (codes "h") f e (λ g. omega arith))
modifier_at_angle (Of Long) front t rest f e = absurd (not_at 60 t front rest (codes "l") f e (λ g. omega arith))
modifier_at_angle (Of LongLong) front t rest f (inl e) = absurd
    (not_at 60 t front rest (codes "ll") f e (λ g. omega arith))
modifier_at_angle (Of LongLong) front t rest f (inr e) = absurd
    (not_at 60 t front rest (codes "q") f e (λ g. omega arith))
modifier_at_angle (Of Max) front t rest f e = absurd (not_at 60 t front rest (codes "j") f e (λ g. omega arith))
modifier_at_angle (Of SizeT) front t rest f e = absurd (not_at 60 t front rest (codes "z") f e (λ g. omega arith))
modifier_at_angle (Of PtrDiff) front t rest f e = absurd (not_at 60 t front rest (codes "t") f e (λ g. omega arith))
modifier_at_angle LongDouble front t rest f e = absurd (not_at 60 t front rest (codes "L") f e (λ g. omega arith))

-- where a macro is, no directive ends
no_tail : (d : Directive) (text rest : List ℕ) → BeginsMacro text → TailAt d text rest → ⊥
no_tail d text rest m x =
    let t : List ℕ = 80 ∷ 82 ∷ 73 ∷ m.conversion ∷ ((m.name ++ codes ">") ++ m.rest) in
    let angle : text ≡ 60 ∷ t = m.text_is in
    let empty = modifier_at_angle d.modifier x.modifier_at.front t x.behind_modifier (sym angle ∙ x.modifier_at.text_is)
    x.modifier_at.form in
    let whole : 60 ∷ t ≡ d.conversion ∷ rest = sym angle ∙ x.modifier_at.text_is
    ∙ ap (λ (s : List ℕ). s ++ x.behind_modifier) empty ∙ x.conversion_at in
    let conversion : 60 ≡ d.conversion = ap (λ (s : List ℕ). get_or s 0 0) whole in
    let undefined : own_argument d ≡ Undefined = rw (← conversion) refl in
    rw undefined at x.allowed

-- ---- what can't be read

pub refuses_macro : (h : Head) (text rest : List ℕ) → HeadAt h (percent ∷ text) rest → BeginsMacro rest
    → Refuses SystemDependent (percent ∷ text)
refuses_macro h text rest head begins = (
  record {
    behind = text;
    begins = refl;
    none = λ d more at. let heads = head_one h d.head (percent ∷ text) rest at.behind_head head at.head in no_tail d
        rest more begins (rw (← heads.1) at at.tail);
  },
  record { head = h; rest = rest; head_at = head; begins = begins },
)

pub refuses_invalid : (h : Head) (text rest : List ℕ) → HeadAt h (percent ∷ text) rest → (BeginsMacro rest → ⊥)
    → ((d : Directive) (more : List ℕ) → d.head ≡ h → TailAt d rest more → ⊥) → Refuses Invalid (percent ∷ text)
refuses_invalid h text rest head no_macro none = (
  record {
    behind = text;
    begins = refl;
    none = λ d more at. let heads = head_one h d.head (percent ∷ text) rest at.behind_head head at.head in none d more
        (sym heads.0) (rw (← heads.1) at at.tail);
  },
  λ names. let heads = head_one h names.head (percent ∷ text) rest names.rest head names.head_at in no_macro
      (rw heads.1 names.begins),
)

-- a tail needs a conversion
pub tail_needs : (d : Directive) (m : Modifier) (text more : List ℕ) → Longest ModifierForm m text []
    → TailAt d text more → ⊥
tail_needs d m text more at x =
    let modifiers = longest_one ModifierForm modifier_value m d.modifier text [] x.behind_modifier at x.modifier_at in
    cc (modifiers.1, x.conversion_at)

-- a tail needs a conversion that is allowed
pub tail_allows : (d : Directive) (h : Head) (m : Modifier) (conversion : ℕ) (text rest more : List ℕ)
    → Longest ModifierForm m text (conversion ∷ rest) → (IsAllowed (argument_of conversion m) h.number → ⊥) → d.head ≡ h
    → TailAt d text more → ⊥
tail_allows d h m conversion text rest more at refused same x =
    let modifiers = longest_one ModifierForm modifier_value m d.modifier text (conversion ∷ rest) x.behind_modifier at
    x.modifier_at in
    let whole : conversion ∷ rest ≡ d.conversion ∷ more = modifiers.1 ∙ x.conversion_at in
    let conversions : conversion ≡ d.conversion = cc whole in
    refused (rw (modifiers.0, conversions, ← same) x.allowed)

-- the head that was read
pub head_from : (h : Head) (text behind_number behind_flags behind_width rest : List ℕ)
    → Longest NumberForm h.number text behind_number → Longest FlagsForm h.flags behind_number behind_flags
    → Longest WidthForm h.width behind_flags behind_width → Longest PrecisionForm h.precision behind_width rest
    → HeadAt h (percent ∷ text) rest
head_from h text behind_number behind_flags behind_width rest number flags width precision = record {
  behind_percent = text;
  behind_number = behind_number;
  behind_flags = behind_flags;
  behind_width = behind_width;
  begins = refl;
  number_at = number;
  flags_at = flags;
  width_at = width;
  precision_at = precision;
}

-- the directive that was read
pub directive_from : (d : Directive) (text behind_head behind_modifier rest : List ℕ) → HeadAt d.head text behind_head
    → Longest ModifierForm d.modifier behind_head behind_modifier → behind_modifier ≡ d.conversion ∷ rest
    → IsAllowed (own_argument d) d.head.number → DirectiveAt d text rest
directive_from d text behind_head behind_modifier rest head modifier conversion allowed = record {
  behind_head = behind_head;
  head = head;
  tail = record {
    behind_modifier = behind_modifier;
    modifier_at = modifier;
    conversion_at = conversion;
    allowed =
        allowed;
  };
}
