-- Each step leads to texts that are shorter together.
use Rattle.std.proofs.Common.{◌≡◌, ℕ, ◌+◌, ◌≤◌, ◌<◌, Bool, true, false, List, [], ◌∷◌, ◌++◌, length, Option, None, Some}
use Rattle.std.proofs.Common.{refl, sym, ap, ◌∙◌, arith, inl, inr, ◌==◌}
use Rattle.std.specs.Prelude.{◌&&◌, not, take, drop, nat_eq, codes}
use Rattle.std.specs.List.{prefix_len, starts_with}
use Rattle.std.specs.Char.{is_ascii_digit}
use Rattle.std.proofs.lemmas.Bool.{cases_Bool, eqb-false}
use Rattle.std.proofs.lemmas.List.{length-drop, length-append, take-append-drop}
use Rattle.format_arguments.specs.Bytes.{run, behind}
use Rattle.numbered_arguments.specs.declared.Numbered.{Numbered}
use Rattle.numbered_arguments.specs.declared.Kind.{Kind}
use Rattle.numbered_arguments.specs.declared.Kind.TheVariants as kinds
use Rattle.numbered_arguments.specs.NumberedArguments.{number_of}
use Rattle.java_formats.specs.declared.Sort.{Sort}
use Rattle.java_formats.specs.declared.Sort.TheVariants.{Pattern, Choices}
use Rattle.java_formats.specs.declared.elements.FormatType.{FormatType}
use Rattle.java_formats.specs.declared.elements.FormatType.TheVariants.{Date, Number, Choice}
use Rattle.java_formats.specs.JavaQuotes.{quote, open_brace, bar, at_most, len_before, inner_len, number_len}
use Rattle.java_formats.specs.JavaQuotes.{unquoted_from}
use Rattle.java_formats.specs.JavaElements.{behind_word, with_type, type_at, with_style, behind_type, styled_at}
use Rattle.java_formats.specs.JavaElements.{format_at, kind_of, with_number, element_by, element, is_number_style}
use Rattle.java_formats.specs.JavaSteps.{Step, end, element_step, closed_step, braces_step, brace_step, pattern_step}
use Rattle.java_formats.specs.JavaSteps.{behind_separator, behind_bar, part_step, number_step, choice_step, step}
use Rattle.java_formats.specs.JavaSteps.{texts_behind, Leads}
use Rattle.java_formats.specs.JavaReading.{weight}
use Rattle.java_formats.proofs.QuoteLemmas.{number_within}

pub weight_both : (xs ys : List (Sort × List ℕ)) → weight (xs ++ ys) ≡ weight xs + weight ys
weight_both [] ys = omega arith
weight_both (x ∷ xs) ys = omega (arith, weight_both xs ys)

pub cut : (n : ℕ) (text : List ℕ) → length (take n text) + length (drop n text) ≡ length text
cut n text = sym (length-append (take n text) (drop n text)) ∙ ap length (take-append-drop n text)

unquoted_within : (kept : Bool) (text : List ℕ) → length (unquoted_from kept text) ≤ length text
unquoted_within kept [] = omega arith
unquoted_within kept (b ∷ more) = elim (cases_Bool (b == quote && not kept)) [
  | inl e ↦ rw e (omega (arith, unquoted_within true more))
  | inr e ↦ rw e (omega (arith, unquoted_within false more))
]

-- ---- what is found in a text is no longer than it

abbrev RestWithin : List ℕ → Option (List ℕ) → Type 0
RestWithin text found = (rest : List ℕ) → found ≡ Some rest → length rest ≤ length text

word_within : (word text : List ℕ) → RestWithin text (behind_word word text)
word_within word text rest e = elim (cases_Bool (starts_with nat_eq text word)) [
  | inl is ↦
      let same : drop (length word) text ≡ rest = cc (rw is at e) in
      omega (arith, length-drop (length word) text, ap length same)
  | inr other ↦ absurd (cc (rw other at e))
]

abbrev TypeWithin : List ℕ → Option (FormatType × List ℕ) → Type 0
TypeWithin text found = (p : FormatType × List ℕ) → found ≡ Some p → length p.1 ≤ length text

typed_within : (text : List ℕ) (type : FormatType) (found : Option (List ℕ)) (others : Option (FormatType × List ℕ))
    → RestWithin text found → TypeWithin text others → TypeWithin text (with_type type found others)
typed_within text type None others f g = g
typed_within text type (Some rest) others f g = λ p e.
    let same : (type, rest) ≡ p = cc e in
    omega (arith, f rest refl, ap (λ (q : FormatType × List ℕ). length q.1) same)

none_within : (text : List ℕ) → TypeWithin text None
none_within text p e = absurd (cc e)

type_within : (text : List ℕ) → TypeWithin text (type_at text)
type_within text =
    let choice = typed_within text Choice (behind_word (codes ",choice") text) None
    (word_within (codes ",choice") text) (none_within text) in
    let number = typed_within text Number (behind_word (codes ",number") text) _
    (word_within (codes ",number") text) choice in
    let date = typed_within text Date (behind_word (codes ",date") text) _
    (word_within (codes ",date") text) number in
    typed_within text Date (behind_word (codes ",time") text) _ (word_within (codes ",time") text) date

abbrev StyleWithin : List ℕ → Option (Kind × Option (List ℕ)) → Type 0
StyleWithin text found =
    (kind : Kind) (style : List ℕ) → found ≡ Some (kind, Some style) → length style ≤ length text

no_style : (kind other : Kind) (style : List ℕ)
    → ◌≡◌ {A = Option (Kind × Option (List ℕ))} (Some (kind, None)) (Some (other, Some style)) → ⊥
no_style kind other style e =
    let p : Kind × Option (List ℕ) = (kind, None) in
    let q : Kind × Option (List ℕ) = (other, Some style) in
    let same : p ≡ q = cc e in
    absurd (cc (ap (λ (p : Kind × Option (List ℕ)). p.1) same))

with_style_within : (type : FormatType) (text : List ℕ) → StyleWithin text (with_style type text)
with_style_within Date text kind style e = absurd (no_style kinds.Date kind style e)
with_style_within Number text kind style e = elim (cases_Bool (is_number_style text)) [
  | inl is ↦ absurd (no_style kinds.Number kind style (rw is at e))
  | inr other ↦ absurd (cc (rw other at e))
]
with_style_within Choice text kind style e =
    let p : Kind × Option (List ℕ) = (kinds.Number, Some text) in
    let q : Kind × Option (List ℕ) = (kind, Some style) in
    let same : p ≡ q = cc e in
    let styles : Some text ≡ Some style = ap (λ (p : Kind × Option (List ℕ)). p.1) same in
    let texts : text ≡ style = cc styles in
    omega (arith, ap length texts)

styled_within : (type : FormatType) (text : List ℕ) → StyleWithin text (behind_type type text)
styled_within type [] kind style e = absurd (no_style (kind_of type) kind style e)
styled_within type (b ∷ more) kind style e = elim (cases_Bool (b == 44)) [
  | inl is ↦ omega (arith, with_style_within type more kind style (rw is at e))
  | inr other ↦ absurd (cc (rw other at e))
]

styled_at_within : (text : List ℕ) (found : Option (FormatType × List ℕ)) → TypeWithin text found
    → StyleWithin text (styled_at found)
styled_at_within text None f kind style e = absurd (cc e)
styled_at_within text (Some p) f kind style e = omega (arith, f p refl, styled_within p.0 p.1 kind style e)

format_within : (text : List ℕ) → StyleWithin text (format_at text)
format_within [] kind style e = absurd (no_style kinds.Object kind style e)
format_within (b ∷ more) kind style e =
    styled_at_within (b ∷ more) (type_at (b ∷ more)) (type_within (b ∷ more)) kind style e

abbrev ChoicesWithin : List ℕ → Option (Numbered × Option (List ℕ)) → Type 0
ChoicesWithin text found =
    (a : Numbered) (choices : List ℕ) → found ≡ Some (a, Some choices) → length choices ≤ length text

numbered_within : (text : List ℕ) (number : ℕ) (found : Option (Kind × Option (List ℕ))) → StyleWithin text found
    → ChoicesWithin text (with_number number found)
numbered_within text number None f a choices e = absurd (cc e)
numbered_within text number (Some (kind, style)) f a choices e =
    let p : Numbered × Option (List ℕ) = (record { number = number; kind = kind }, style) in
    let q : Numbered × Option (List ℕ) = (a, Some choices) in
    let same : p ≡ q = cc e in
    let styles : style ≡ Some choices = ap (λ (p : Numbered × Option (List ℕ)). p.1) same in
    f kind choices (ap (λ (s : Option (List ℕ)). Some (kind, s)) styles)

element_by_within : (digits text : List ℕ) → ChoicesWithin text (element_by digits text)
element_by_within [] text a choices e = absurd (cc e)
element_by_within (digit ∷ digits) text a choices e =
    numbered_within text (number_of (digit ∷ digits)) (format_at text) (format_within text) a choices e

element_within : (inner : List ℕ) → ChoicesWithin inner (element inner)
element_within inner a choices e = omega (
  arith,
  element_by_within (run is_ascii_digit inner) (behind is_ascii_digit inner) a choices e,
  length-drop (prefix_len is_ascii_digit inner) inner,
)

-- ---- each step is lighter

abbrev Lighter : Sort → ℕ → Option Step → Type 0
Lighter sort most found = (s : Step) → found ≡ Some s → weight (texts_behind sort s) ≤ most

same_weight : (sort : Sort) (s t : Step) (most : ℕ) → Some s ≡ Some t → weight (texts_behind sort s) ≤ most
    → weight (texts_behind sort t) ≤ most
same_weight sort s t most e le =
    let same : s ≡ t = cc e in
    omega (arith, le, ap (λ (u : Step). weight (texts_behind sort u)) same)

element_lighter : (inner rest : List ℕ) (found : Option (Numbered × Option (List ℕ))) → ChoicesWithin inner found
    → Lighter Pattern (length inner + length rest + 2) (element_step rest found)
element_lighter inner rest None f s e = absurd (cc e)
element_lighter inner rest (Some (a, None)) f s e =
    same_weight Pattern (record { asked = Some a; nested = None; rest = Some rest }) s _ e (omega arith)
element_lighter inner rest (Some (a, Some choices)) f s e =
    same_weight Pattern (record { asked = Some a; nested = Some choices; rest = Some rest }) s _ e
    (omega (arith, f a choices refl))

closed_lighter : (inner text : List ℕ) → Lighter Pattern (length inner + length text + 1) (closed_step inner text)
closed_lighter inner [] s e = absurd (cc e)
closed_lighter inner (b ∷ rest) s e =
    omega (arith, element_lighter inner rest (element inner) (element_within inner) s e)

braces_lighter : (text : List ℕ) → Lighter Pattern (length text + 1) (braces_step text)
braces_lighter text s e = omega (
  arith,
  closed_lighter (take (inner_len 0 text) text) (drop (inner_len 0 text) text) s e,
  cut (inner_len 0 text) text,
)

brace_lighter : (text : List ℕ) → Lighter Pattern (length text) (brace_step text)
brace_lighter [] s e = same_weight Pattern end s _ e (omega arith)
brace_lighter (b ∷ more) s e = elim (cases_Bool (b == open_brace)) [
  | inl is ↦ omega (arith, braces_lighter more s (rw is at e))
  | inr other ↦ absurd (cc (rw other at e))
]

pattern_lighter : (text : List ℕ) → Lighter Pattern (length text) (pattern_step text)
pattern_lighter text s e = omega (
  arith,
  brace_lighter (drop (len_before Pattern false text) text) s e,
  length-drop (len_before Pattern false text) text,
)

bar_within : (text : List ℕ) → length (behind_bar text) ≤ length text
bar_within [] = omega arith
bar_within (b ∷ more) = omega arith

part_lighter : (text : List ℕ) → Lighter Choices (length text + 2) (part_step (Some text))
part_lighter text s e =
    let n = len_before Choices false text in
    same_weight Choices (record {
      asked = None;
      nested = Some (take n text);
      rest = Some (behind_bar (drop n text));
    }) s _ e (omega (arith, unquoted_within false (take n text), bar_within (drop n text), cut n text))

-- a separator takes a byte at least
separator_within : (text rest : List ℕ) → behind_separator text ≡ Some rest → length rest < length text
separator_within [] rest e = absurd (cc e)
separator_within (b ∷ more) rest e = elim (cases_Bool (b == bar)) [
  | inl is ↦ absurd (cc (rw is at e))
  | inr f ↦ elim (cases_Bool (b == 60)) [
    | inl less ↦
        let same : more ≡ rest = cc (rw (f, less) at e) in
        omega (arith, ap length same)
    | inr g ↦ elim (cases_Bool (b == 35)) [
      | inl equal ↦
          let same : more ≡ rest = cc (rw (f, g, equal) at e) in
          omega (arith, ap length same)
      | inr h ↦ elim (cases_Bool (starts_with nat_eq (b ∷ more) at_most)) [
        | inl is ↦
            let same : drop 6 (b ∷ more) ≡ rest = cc (rw (f, g, h, is) at e) in
            omega (arith, length-drop 6 (b ∷ more), ap length same)
        | inr other ↦ absurd (cc (rw (f, g, h, other) at e))
      ]
    ]
  ]
]

from_separator : (text : List ℕ) (found : Option (List ℕ))
    → ((rest : List ℕ) → found ≡ Some rest → length rest < length text)
    → Lighter Choices (length text + 1) (part_step found)
from_separator text None f s e = absurd (cc e)
from_separator text (Some rest) f s e = omega (arith, part_lighter rest s e, f rest refl)

number_lighter : (len : ℕ) (text : List ℕ) → Lighter Choices (length text + len) (number_step len text)
number_lighter len [] s e = same_weight Choices end s _ e (omega arith)
number_lighter len (b ∷ more) s e = elim (cases_Bool (len == 0)) [
  | inl none ↦ absurd (cc (rw none at e))
  | inr some ↦
      let long : 1 ≤ len = omega (arith, eqb-false len 0 some) in
      omega (
        arith,
        long,
        from_separator (b ∷ more) (behind_separator (b ∷ more)) (separator_within (b ∷ more)) s (rw some at e),
      )
]

choice_lighter : (text : List ℕ) → Lighter Choices (length text) (choice_step text)
choice_lighter text s e = omega (
  arith,
  number_lighter (number_len false false text) (drop (number_len false false text) text) s e,
  length-drop (number_len false false text) text,
  number_within false false text,
)

pub step_lighter : (sort : Sort) (text : List ℕ) → Lighter sort (length text) (step sort text)
step_lighter Pattern text = pattern_lighter text
step_lighter Choices text = choice_lighter text

pub leads_lighter : (old new : List (Sort × List ℕ)) (steps : List Step) → Leads old steps new
    → weight new ≤ weight old
leads_lighter old new [] e = omega (arith, ap weight e)
leads_lighter [] new (s ∷ steps) e = absurd e
leads_lighter (text ∷ others) new (s ∷ steps) (e, f) = omega (
  arith,
  leads_lighter (texts_behind text.0 s ++ others) new steps f,
  weight_both (texts_behind text.0 s) others,
  step_lighter text.0 text.1 s e,
)
