-- A text, read directive by directive.
use Rattle.std.proofs.Common.{◌≡◌, ℕ, true, false, List, [], ◌∷◌, ◌++◌, Option, None, Some, refl, sym, ap, ◌∙◌}
use Rattle.std.specs.List.{fold, flat_map}
use Rattle.format_arguments.specs.declared.FormatFault.{FormatFault}
use Rattle.format_arguments.specs.declared.FormatFault.TheVariants.{Invalid, Memory}
use Rattle.format_arguments.specs.Text.{IsFormat, SkipsPlain}
use Rattle.format_arguments.proofs.TextLemmas as texts
use Rattle.format_arguments.proofs.TextLemmas.{HasRead, read_nothing, reads_on, asked_by_all, one_asked}
use Rattle.numbered_arguments.specs.declared.Numbered.{Numbered}
use Rattle.numbered_arguments.specs.NumberedArguments.{is_consistent}
use Rattle.java_printf_format.specs.declared.collecting.Collected.{Collected}
use Rattle.java_printf_format.specs.declared.directive.Directive.{Directive}
use Rattle.java_printf_format.specs.PrintfDirectives.{percent, DirectiveAt}
use Rattle.java_printf_format.specs.PrintfPlaces.{Taken, nothing, with_one, with_one_if, taken_by, taken_view, Blocks}
use Rattle.java_printf_format.specs.PrintfFormat.{HasSignature, HasFault}
use Rattle.java_printf_format.proofs.PrintfDirectiveLemmas.{are_directives}

abbrev pub itself : Directive → List Directive
itself d = d ∷ []

abbrev ReadTo : List ℕ → List ℕ → List Directive → Type 0
ReadTo text rest directives = HasRead percent DirectiveAt are_directives itself text rest directives

-- up to rest these directives were read, and their arguments were taken
pub record HasCounted (text rest : List ℕ) (collected : Collected) : Type 0 where
  pub directives : List Directive
  pub read : ReadTo text rest directives
  pub taken : taken_by directives ≡ Some (taken_view collected)

pub counted_nothing : (text : List ℕ) (collected : Collected) → taken_view collected ≡ nothing
    → HasCounted text text collected
counted_nothing text collected e = record {
  directives = [];
  read = read_nothing percent DirectiveAt are_directives itself text;
  taken = ap (λ (taken : Taken). Some taken) (sym e);
}

-- ---- what lists of directives take

fold_more : (start : Option Taken) (ds es : List Directive)
    → fold with_one_if start (ds ++ es) ≡ fold with_one_if (fold with_one_if start ds) es
fold_more start [] es = refl
fold_more start (d ∷ ds) es = fold_more (with_one_if start d) ds es

fold_none : (ds : List Directive) → fold with_one_if None ds ≡ None
fold_none [] = refl
fold_none (d ∷ ds) = fold_none ds

one_more : (ds : List Directive) (d : Directive) (old : Taken) → taken_by ds ≡ Some old
    → taken_by (ds ++ d ∷ []) ≡ with_one old d
one_more ds d old e =
    fold_more (Some nothing) ds (d ∷ []) ∙ ap (λ (taken : Option Taken). with_one_if taken d) e

each_itself : (ds : List Directive) → flat_map itself ds ≡ ds
each_itself [] = refl
each_itself (d ∷ ds) = ap (λ (more : List Directive). d ∷ more) (each_itself ds)

pub counts_on : (text rest behind after : List ℕ) (d : Directive) (old new : Collected) → HasCounted text rest old
    → SkipsPlain percent rest (percent ∷ behind) → DirectiveAt d (percent ∷ behind) after
    → with_one (taken_view old) d ≡ Some (taken_view new) → HasCounted text after new
counts_on text rest behind after d old new so_far plain x e = record {
  directives = so_far.directives ++ d ∷ [];
  read = reads_on percent DirectiveAt are_directives itself text rest behind after d so_far.directives
      (so_far.directives ++ d ∷ []) so_far.read plain x refl;
  taken = one_more so_far.directives d (taken_view old) so_far.taken ∙ e;
}

-- ---- the outcome

pub unreadable : (text rest behind : List ℕ) (old : Collected) → HasCounted text rest old
    → SkipsPlain percent rest (percent ∷ behind)
    → ((d : Directive) (after : List ℕ) → DirectiveAt d (percent ∷ behind) after → ⊥)
    → (asked : List Numbered) → HasSignature text asked → ⊥
unreadable text rest behind old so_far plain none asked h =
    texts.no_format percent DirectiveAt are_directives itself text rest behind so_far.directives so_far.read plain
    none h.directives h.reads

-- once a directive refers to an argument that isn't there, nothing is taken
nothing_taken : (text after : List ℕ) (ds : List Directive) → ReadTo text after ds → taken_by ds ≡ None
    → (all : List Directive) → IsFormat percent DirectiveAt all text → taken_by all ≡ None
nothing_taken text after ds read none all format =
    let back = read.back all format in
    let same : read.directives ≡ ds = sym (each_itself read.directives) ∙ sym read.asked_is in
    ap taken_by (back.1 ∙ ap (λ (front : List Directive). front ++ back.0) same)
    ∙ fold_more (Some nothing) ds back.0
    ∙ ap (λ (taken : Option Taken). fold with_one_if taken back.0) none ∙ fold_none back.0

unplaced : (text rest behind after : List ℕ) (d : Directive) (old : Collected) → HasCounted text rest old
    → SkipsPlain percent rest (percent ∷ behind) → DirectiveAt d (percent ∷ behind) after
    → with_one (taken_view old) d ≡ None → (asked : List Numbered) → HasSignature text asked → ⊥
unplaced text rest behind after d old so_far plain x none asked h =
    let read = reads_on percent DirectiveAt are_directives itself text rest behind after d so_far.directives
    (so_far.directives ++ d ∷ []) so_far.read plain x refl in
    let stuck = one_more so_far.directives d (taken_view old) so_far.taken ∙ none in
    let all = nothing_taken text after (so_far.directives ++ d ∷ []) read stuck h.directives h.reads in
    absurd (cc (all, h.takes))

pub fault_is : (text rest behind after : List ℕ) (d : Directive) (old : Collected) (fault : FormatFault)
    → HasCounted text rest old → SkipsPlain percent rest (percent ∷ behind) → DirectiveAt d (percent ∷ behind) after
    → Blocks (taken_view old) d fault → HasFault text fault
fault_is text rest behind after d old Invalid so_far plain x none =
    unplaced text rest behind after d old so_far plain x none
fault_is text rest behind after d old Memory so_far plain x none = tt

pub is_format : (text rest : List ℕ) (collected : Collected) → HasCounted text rest collected
    → SkipsPlain percent rest [] → is_consistent collected.asked.items ≡ true
    → HasSignature text collected.asked.items
is_format text rest collected so_far end consistent =
    let same : so_far.directives ≡ so_far.read.directives =
    so_far.read.asked_is ∙ each_itself so_far.read.directives in
    record {
      directives = so_far.read.directives;
      taken = taken_view collected;
      reads = texts.read_all percent DirectiveAt are_directives itself text rest so_far.directives so_far.read end;
      takes = ap taken_by (sym same) ∙ so_far.taken;
      asked_is = refl;
      consistent = consistent;
    }

pub inconsistent : (text rest : List ℕ) (collected : Collected) → HasCounted text rest collected
    → SkipsPlain percent rest [] → is_consistent collected.asked.items ≡ false
    → (asked : List Numbered) → HasSignature text asked → ⊥
inconsistent text rest collected so_far end bad asked h =
    let all : h.directives ≡ so_far.directives = sym (each_itself h.directives)
    ∙ asked_by_all percent DirectiveAt are_directives itself text rest so_far.directives so_far.read end h.directives
    h.reads in
    let both : Some h.taken ≡ Some (taken_view collected) = sym h.takes ∙ ap taken_by all ∙ so_far.taken in
    let same : h.taken ≡ taken_view collected = cc both in
    let here : asked ≡ collected.asked.items = h.asked_is ∙ ap (λ (t : Taken). t.asked) same in
    absurd (cc (ap is_consistent (sym here) ∙ h.consistent, bad))

pub one_list : (text : List ℕ) (asked others : List Numbered) → HasSignature text asked → HasSignature text others
    → asked ≡ others
one_list text asked others h k =
    let same : h.directives ≡ k.directives = sym (each_itself h.directives)
    ∙ one_asked percent DirectiveAt are_directives itself h.directives k.directives text h.reads k.reads
    ∙ each_itself k.directives in
    let both : Some h.taken ≡ Some k.taken = sym h.takes ∙ ap taken_by same ∙ k.takes in
    let one : h.taken ≡ k.taken = cc both in
    h.asked_is ∙ ap (λ (t : Taken). t.asked) one ∙ sym k.asked_is
