-- A text, read directive by directive.
use Rattle.std.proofs.Common.{◌≡◌, ℕ, true, false, List, [], ◌∷◌, ◌++◌, refl, sym, ap, subst, ◌∙◌, inl, inr}
use Rattle.std.specs.List.{flat_map, fold, list_all}
use Rattle.std.proofs.lemmas.Bool.{cases_Bool}
use Rattle.std.proofs.lemmas.List.Sums.{fold-append}
use Rattle.std.proofs.lemmas.List.Folds.{list_all-append}
use Rattle.format_arguments.specs.Text.{SkipsPlain, IsFormat}
use Rattle.format_arguments.proofs.TextLemmas.{HasRead, read_nothing, reads_on, no_format, read_all, one_asked}
use Rattle.lisp_formats.specs.declared.Notation.{Notation}
use Rattle.lisp_formats.specs.declared.Kind.{Kind}
use Rattle.lisp_formats.specs.declared.conversions.Target.{Target}
use Rattle.lisp_formats.specs.declared.conversions.Target.TheVariants.{Nothing, Next, Previous, Unread}
use Rattle.lisp_formats.specs.LispDirectives.{Directive, tilde, DirectiveAt}
use Rattle.lisp_formats.specs.LispFormat.{with_directive, asked_by, is_read_target, is_read, HasSignature, IsUnread}
use Rattle.lisp_formats.proofs.LispDirectiveLemmas.{are_directives, unread_ends}

abbrev pub itself : Directive → List Directive
itself d = d ∷ []

all_itself : (ds : List Directive) → flat_map itself ds ≡ ds
all_itself [] = refl
all_itself (d ∷ ds) = ap (λ (more : List Directive). d ∷ more) (all_itself ds)

one_read : (d : Directive) → list_all is_read (d ∷ []) ≡ is_read d
one_read d = elim (cases_Bool (is_read d)) [
  | inl e ↦ rw e refl
  | inr e ↦ rw e refl
]

read_more : (ds : List Directive) (d : Directive) → list_all is_read ds ≡ true
    → list_all is_read (ds ++ d ∷ []) ≡ is_read d
read_more ds d e = list_all-append is_read ds (d ∷ []) ∙ rw e (one_read d)

target_unread : (target : Target) → is_read_target target ≡ false → target ≡ Unread
target_unread Unread e = refl
target_unread Nothing e = absurd (cc e)
target_unread (Next kind) e = absurd (cc e)
target_unread Previous e = absurd (cc e)

-- up to rest these directives were read, and what they ask for was collected
pub record HasReadTo (notation : Notation) (text rest : List ℕ) (asked : List Kind) : Type 0 where
  pub directives : List Directive
  pub read : HasRead tilde (DirectiveAt notation) (are_directives notation) itself text rest directives
  pub all : list_all is_read directives ≡ true
  pub counts : asked ≡ asked_by directives

pub read_to_begin : (notation : Notation) (text : List ℕ) (asked : List Kind) → asked ≡ []
    → HasReadTo notation text text asked
read_to_begin notation text asked none = record {
  directives = [];
  read = read_nothing tilde (DirectiveAt notation) (are_directives notation) itself text;
  all = refl;
  counts = none;
}

pub reads_further : (notation : Notation) (text rest behind after : List ℕ) (d : Directive) (old new : List Kind)
    → HasReadTo notation text rest old → SkipsPlain tilde rest (tilde ∷ behind)
    → DirectiveAt notation d (tilde ∷ behind) after → is_read d ≡ true → new ≡ with_directive old d
    → HasReadTo notation text after new
reads_further notation text rest behind after d old new so_far plain x is e = record {
  directives = so_far.directives ++ d ∷ [];
  read = reads_on tilde (DirectiveAt notation) (are_directives notation) itself text rest behind after d
      so_far.directives (so_far.directives ++ d ∷ []) so_far.read plain x refl;
  all = read_more so_far.directives d so_far.all ∙ is;
  counts = e ∙ ap (λ (asked : List Kind). with_directive asked d) so_far.counts
      ∙ sym (fold-append with_directive [] so_far.directives (d ∷ []));
}

-- the directives up to rest, as the text has them
directives_are : (notation : Notation) (text rest : List ℕ) (asked : List Kind)
    (so_far : HasReadTo notation text rest asked) → so_far.directives ≡ so_far.read.directives
directives_are notation text rest asked so_far = so_far.read.asked_is ∙ all_itself so_far.read.directives

pub is_format : (notation : Notation) (text rest : List ℕ) (asked : List Kind) → HasReadTo notation text rest asked
    → SkipsPlain tilde rest [] → HasSignature notation text asked
is_format notation text rest asked so_far end =
    let same = directives_are notation text rest asked so_far in (
      so_far.read.directives,
      read_all tilde (DirectiveAt notation) (are_directives notation) itself text rest so_far.directives so_far.read
          end,
      subst (λ (ds : List Directive). list_all is_read ds ≡ true) same so_far.all,
      so_far.counts ∙ ap asked_by same,
    )

pub is_unread : (notation : Notation) (text rest behind after : List ℕ) (d : Directive) (asked : List Kind)
    → HasReadTo notation text rest asked → SkipsPlain tilde rest (tilde ∷ behind)
    → DirectiveAt notation d (tilde ∷ behind) after → is_read d ≡ false → IsUnread notation text
is_unread notation text rest behind after d asked so_far plain x is =
    let ds = so_far.read.directives in
    let same = directives_are notation text rest asked so_far in
    let nothing : SkipsPlain tilde after [] = record {
      plain = [];
      text_is = unread_ends notation d (tilde ∷ behind) after x (target_unread d.target is);
      no_mark = refl;
    } in (
      ds ++ d ∷ [],
      so_far.read.on (d ∷ []) (tilde ∷ behind, after, plain, x, nothing),
      read_more ds d (subst (λ (es : List Directive). list_all is_read es ≡ true) same so_far.all) ∙ is,
    )

none_read : (notation : Notation) (text rest behind : List ℕ) (asked : List Kind) → HasReadTo notation text rest asked
    → SkipsPlain tilde rest (tilde ∷ behind)
    → ((d : Directive) (after : List ℕ) → DirectiveAt notation d (tilde ∷ behind) after → ⊥) → (ds : List Directive)
    → IsFormat tilde (DirectiveAt notation) ds text → ⊥
none_read notation text rest behind asked so_far plain none ds format =
    no_format tilde (DirectiveAt notation) (are_directives notation) itself text rest behind so_far.directives
    so_far.read plain none ds format

pub unreadable : (notation : Notation) (text rest behind : List ℕ) (asked : List Kind)
    → HasReadTo notation text rest asked → SkipsPlain tilde rest (tilde ∷ behind)
    → ((d : Directive) (after : List ℕ) → DirectiveAt notation d (tilde ∷ behind) after → ⊥)
    → ((others : List Kind) → ¬ HasSignature notation text others) × ¬ IsUnread notation text
unreadable notation text rest behind asked so_far plain none = (
  λ others (ds, format, all, same). none_read notation text rest behind asked so_far plain none ds format,
  λ (ds, format, all). none_read notation text rest behind asked so_far plain none ds format,
)

same_directives : (notation : Notation) (text : List ℕ) (ds es : List Directive)
    → IsFormat tilde (DirectiveAt notation) ds text → IsFormat tilde (DirectiveAt notation) es text → ds ≡ es
same_directives notation text ds es f g = sym (all_itself ds)
    ∙ one_asked tilde (DirectiveAt notation) (are_directives notation) itself ds es text f g ∙ all_itself es

pub one_list : (notation : Notation) (text : List ℕ) (asked others : List Kind) → HasSignature notation text asked
    → HasSignature notation text others → asked ≡ others
one_list notation text asked others (ds, f, all, e) (es, g, also, h) =
    e ∙ ap asked_by (same_directives notation text ds es f g) ∙ sym h

pub read_or_unread : (notation : Notation) (text : List ℕ) (asked : List Kind) → HasSignature notation text asked
    → ¬ IsUnread notation text
read_or_unread notation text asked (ds, f, all, e) (es, g, unread) =
    let here : list_all is_read es ≡ true = subst (λ (cs : List Directive). list_all is_read cs ≡ true)
    (same_directives notation text ds es f g) all in
    absurd (cc (here, unread))
