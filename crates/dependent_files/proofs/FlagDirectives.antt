-- Where no `%` leads to the flag `I`, no directive has it.
use Rattle.std.proofs.Common.{◌≡◌, ℕ, ◌+◌, ◌-◌, ◌<◌, Bool, true, false, List, [], ◌∷◌, ◌++◌, length, Option, Some, None}
use Rattle.std.proofs.Common.{refl, sym, ap, subst, ◌∙◌, arith, inl, inr}
use Rattle.std.specs.Prelude.{◌==◌, not, codes}
use Rattle.std.specs.List.{flat_map, list_all, list_any}
use Rattle.std.specs.Char.{is_ascii_digit}
use Rattle.std.proofs.lemmas.Bool.{and_from, and_parts, cases_Bool, eqb-true, or_left, or_parts, or_right}
use Rattle.std.proofs.lemmas.List.{length-append}
use Rattle.std.proofs.lemmas.List.Folds.{list_all-append}
use Rattle.format_arguments.specs.Text.{IsFormat}
use Rattle.c_signature.specs.Pieces.{dollar, percent, is_flag, Longest, NumberForm}
use Rattle.c_signature.specs.Directives as c
use Rattle.c_signature.specs.Directives.{Head, HeadAt}
use Rattle.c_signature.proofs.PartLemmas.{numeral_digits}
use Rattle.c_macros.specs.Macros.{MacroAt}
use Rattle.c_macros.specs.MacroDirectives.{Directive, Spelled, Named}
use Rattle.c_macros.specs.declared.Kind.{Kind}
use Rattle.c_macros.specs.declared.Split.{Split}
use Rattle.c_macros.specs.MacroSplits.{flag_splits, head_splits, is_macro, macro_split, HasPartsAt, Parted, PartedAt}
use Rattle.c_macros.specs.MacroSplits.{other_digits}
use Rattle.dependent_files.specs.DigitsFlag.{HasFlag}
use Rattle.dependent_files.specs.FlagScanning.{is_in_front, leads_to_flag, may_have_flag}
use Rattle.dependent_files.proofs.FlagBytes.{is_digits_flag, later, leads_not, run_front}

-- ---- a head

all_weaker : (p q : ℕ → Bool) (bytes : List ℕ) → ((b : ℕ) → p b ≡ true → q b ≡ true) → list_all p bytes ≡ true
    → list_all q bytes ≡ true
all_weaker p q [] so h = refl
all_weaker p q (b ∷ more) so h =
    let each = and_parts (p b) (list_all p more) h in
    and_from (q b) (list_all q more) (so b each.0) (all_weaker p q more so each.1)

flag_in_front : (b : ℕ) → is_flag b ≡ true → is_in_front b ≡ true
flag_in_front b h = or_left (is_flag b) _ h

digit_in_front : (b : ℕ) → is_ascii_digit b ≡ true → is_in_front b ≡ true
digit_in_front b h = or_right (is_flag b) _ (or_left (is_ascii_digit b) _ h)

number_in_front : (number : Option ℕ) (front : List ℕ) → NumberForm number front → list_all is_in_front front ≡ true
number_in_front None front e = rw e refl
number_in_front (Some m) front (digits, e, numeral, short, value) =
    ap (list_all is_in_front) e ∙ list_all-append is_in_front digits (dollar ∷ [])
    ∙ and_from (list_all is_in_front digits) true
    (all_weaker is_ascii_digit is_in_front digits digit_in_front (numeral_digits digits numeral)) refl

no_parts : (start : ℕ) (flags : List ℕ) → list_any is_digits_flag flags ≡ false
    → list_all is_macro (flag_splits start flags) ≡ true
no_parts start [] h = refl
no_parts start (flag ∷ more) h =
    let none = or_parts (flag == other_digits) (list_any is_digits_flag more) h in
    rw none.0 (no_parts (start + 1) more none.1)

past : {V : Type 0} (Form : V → List ℕ → Type 0) (value : V) (text rest : List ℕ) → Longest Form value text rest
    → may_have_flag text ≡ false → may_have_flag rest ≡ false
past Form value text rest x none = later x.front rest (subst (λ (t : List ℕ). may_have_flag t ≡ false) x.text_is none)

-- the parts are macros alone, and the rest has no flag either
abbrev Lacks : List Split → List ℕ → Type 0
Lacks parts rest = (list_all is_macro parts ≡ true) × (may_have_flag rest ≡ false)

head_lacks : (total : ℕ) (h : Head) (text rest : List ℕ) (x : HeadAt h text rest) → may_have_flag text ≡ false
    → Lacks (head_splits total h text rest x) rest
head_lacks total h text rest x none =
    let whole = subst (λ (t : List ℕ). may_have_flag t ≡ false) x.begins none in
    let leads : leads_to_flag (x.number_at.front ++ x.behind_number) ≡ false =
    subst (λ (t : List ℕ). leads_to_flag t ≡ false) x.number_at.text_is (leads_not x.behind_percent whole) in
    let number = run_front is_in_front is_digits_flag x.number_at.front x.behind_number
    (number_in_front h.number x.number_at.front x.number_at.form) leads in
    let flags_lead : leads_to_flag (x.flags_at.front ++ x.behind_flags) ≡ false =
    subst (λ (t : List ℕ). leads_to_flag t ≡ false) x.flags_at.text_is number.1 in
    let all : list_all is_in_front x.flags_at.front ≡ true =
    subst (λ (t : List ℕ). list_all is_in_front t ≡ true) (sym x.flags_at.form.0)
    (all_weaker is_flag is_in_front h.flags flag_in_front x.flags_at.form.1) in
    let flags = run_front is_in_front is_digits_flag x.flags_at.front x.behind_flags all flags_lead in (
      no_parts (total - length x.behind_number) h.flags
          (subst (λ (t : List ℕ). list_any is_digits_flag t ≡ false) x.flags_at.form.0 flags.0),
      past _ _ _ _ x.precision_at (past _ _ _ _ x.width_at (past _ _ _ _ x.flags_at
          (past _ _ _ _ x.number_at (later (percent ∷ []) x.behind_percent whole)))),
    )

-- ---- a directive

tail_lacks : (d : c.Directive) (text rest : List ℕ) → c.TailAt d text rest → may_have_flag text ≡ false
    → may_have_flag rest ≡ false
tail_lacks d text rest x none =
    later (d.conversion ∷ []) rest (subst (λ (t : List ℕ). may_have_flag t ≡ false) x.conversion_at
    (past _ _ _ _ x.modifier_at none))

macro_lacks : (kind : Kind) (text rest : List ℕ) → MacroAt kind text rest → may_have_flag text ≡ false
    → may_have_flag rest ≡ false
macro_lacks kind text rest x none =
    let m = x.begins in
    let whole = subst (λ (t : List ℕ). may_have_flag t ≡ false) m.text_is none in
    let behind = later (m.conversion ∷ []) ((m.name ++ codes ">") ++ m.rest)
    (later (codes "<PRI") (m.conversion ∷ ((m.name ++ codes ">") ++ m.rest)) whole) in
    subst (λ (t : List ℕ). may_have_flag t ≡ false) x.rest_is (later (m.name ++ codes ">") m.rest behind)

longer : (n : ℕ) → 1 < n → not (n == 1) ≡ true
longer n lt = elim (cases_Bool (n == 1)) [
  | inl e ↦ let one = eqb-true n 1 e in absurd (omega (arith, one, lt))
  | inr e ↦ rw e refl
]

macro_is : (total : ℕ) (kind : Kind) (text rest : List ℕ) → MacroAt kind text rest
    → is_macro (macro_split total text rest) ≡ true
macro_is total kind text rest x =
    let m = x.begins in
    longer (length text - length rest) (omega (
      arith,
      ap length m.text_is,
      length-append (m.name ++ codes ">") m.rest,
      length-append m.name (codes ">"),
      ap length x.rest_is,
    ))

all_both : (parts more : List Split) → list_all is_macro parts ≡ true → list_all is_macro more ≡ true
    → list_all is_macro (parts ++ more) ≡ true
all_both parts more h also =
    list_all-append is_macro parts more ∙ and_from (list_all is_macro parts) (list_all is_macro more) h also

directive_lacks : (total : ℕ) (d : Directive) (parts : List Split) (text rest : List ℕ)
    → HasPartsAt total d parts text rest → may_have_flag text ≡ false → Lacks parts rest
directive_lacks total (Spelled d) parts text rest (x, e) none =
    let head = head_lacks total d.head text x.behind_head x.head none in
    (ap (list_all is_macro) e ∙ head.0, tail_lacks d x.behind_head rest x.tail head.1)
directive_lacks total (Named h kind) parts text rest (x, e) none =
    let head = head_lacks total h text x.behind_head x.head_at none in
    let flags = head_splits total h text x.behind_head x.head_at in
    let part = macro_split total x.behind_head rest in
    let one = and_from (is_macro part) true (macro_is total kind x.behind_head rest x.macro_at) refl in (
      ap (list_all is_macro) e ∙ all_both flags (part ∷ []) head.0 one,
      macro_lacks kind x.behind_head rest x.macro_at head.1,
    )

-- ---- a text

format_lacks : (total : ℕ) (ds : List Parted) (text : List ℕ) → IsFormat percent (PartedAt total) ds text
    → may_have_flag text ≡ false → list_all is_macro (flat_map (λ d. d.parts) ds) ≡ true
format_lacks total [] text end none = refl
format_lacks total (d ∷ more) text (at, after, skips, x, others) none =
    let here = later skips.plain at (subst (λ (t : List ℕ). may_have_flag t ≡ false) skips.text_is none) in
    let one = directive_lacks total d.directive d.parts at after x here in
    all_both d.parts (flat_map (λ d. d.parts) more) one.0 (format_lacks total more after others one.1)

pub lacks_flag : (text : List ℕ) → may_have_flag text ≡ false → HasFlag text → ⊥
lacks_flag text none has =
    let parts = has.splits.has in
    let all = ap (list_all is_macro) parts.2 ∙ format_lacks (length text) parts.0 text parts.1 none in
    absurd (cc (sym has.some ∙ all))
