-- A text, read directive by directive.
use Rattle.std.proofs.Common.{◌≡◌, ℕ, true, false, List, [], ◌∷◌, ◌++◌, refl, sym, ap, subst, ◌∙◌, inl, inr}
use Rattle.std.specs.List.{flat_map, list_all}
use Rattle.std.proofs.lemmas.Bool.{cases_Bool}
use Rattle.std.proofs.lemmas.List.{flat_map_more}
use Rattle.std.proofs.lemmas.List.Folds.{list_all-append}
use Rattle.format_arguments.specs.Text.{SkipsPlain, IsFormat}
use Rattle.format_arguments.proofs.TextLemmas.{HasRead, read_nothing, reads_on, no_format, read_all, one_asked}
use Rattle.numbered_arguments.specs.declared.Numbered.{Numbered}
use Rattle.numbered_arguments.specs.declared.Request.{Request}
use Rattle.numbered_arguments.specs.NumberedArguments.{numbered_requests}
use Rattle.objc_format.specs.declared.directive.Directive.{Directive}
use Rattle.objc_format.specs.ObjcDirectives.{percent, asks, DirectiveAt}
use Rattle.objc_format.specs.ObjcFormat.{is_read, fits, HasSignature, IsUnread}
use Rattle.objc_format.proofs.ObjcDirectiveLemmas.{are_directives, unread_is_last}

abbrev pub itself : Directive → List Directive
itself d = d ∷ []

all_itself : (ds : List Directive) → flat_map itself ds ≡ ds
all_itself [] = refl
all_itself (d ∷ ds) = ap (λ (more : List Directive). d ∷ more) (all_itself ds)

one_read : (d : Directive) → list_all is_read (d ∷ []) ≡ is_read d
one_read d = elim (cases_Bool (is_read d)) [
  | inl e ↦ rw e refl
  | inr e ↦ rw e refl
]

read_more : (ds : List Directive) (d : Directive) → list_all is_read ds ≡ true
    → list_all is_read (ds ++ d ∷ []) ≡ is_read d
read_more ds d e = list_all-append is_read ds (d ∷ []) ∙ rw e (one_read d)

-- up to rest these directives were read, and what they ask for was collected
pub record HasReadTo (text rest : List ℕ) (requests : List Request) : Type 0 where
  pub directives : List Directive
  pub read : HasRead percent DirectiveAt are_directives itself text rest directives
  pub all : list_all is_read directives ≡ true
  pub collects : requests ≡ flat_map asks directives

pub read_to_begin : (text : List ℕ) (requests : List Request) → requests ≡ [] → HasReadTo text text requests
read_to_begin text requests none = record {
  directives = [];
  read = read_nothing percent DirectiveAt are_directives itself text;
  all = refl;
  collects = none;
}

pub reads_further : (text rest behind after : List ℕ) (d : Directive) (old new : List Request)
    → HasReadTo text rest old → SkipsPlain percent rest (percent ∷ behind)
    → DirectiveAt d (percent ∷ behind) after → is_read d ≡ true → new ≡ old ++ asks d → HasReadTo text after new
reads_further text rest behind after d old new so_far plain x is e = record {
  directives = so_far.directives ++ d ∷ [];
  read = reads_on percent DirectiveAt are_directives itself text rest behind after d so_far.directives
      (so_far.directives ++ d ∷ []) so_far.read plain x refl;
  all = read_more so_far.directives d so_far.all ∙ is;
  collects = e ∙ ap (λ (rs : List Request). rs ++ asks d) so_far.collects
      ∙ flat_map_more asks [] so_far.directives d;
}

-- the directives up to rest, as the text has them
directives_are : (text rest : List ℕ) (requests : List Request) (so_far : HasReadTo text rest requests)
    → so_far.directives ≡ so_far.read.directives
directives_are text rest requests so_far = so_far.read.asked_is ∙ all_itself so_far.read.directives

same_directives : (text : List ℕ) (ds es : List Directive) → IsFormat percent DirectiveAt ds text
    → IsFormat percent DirectiveAt es text → ds ≡ es
same_directives text ds es f g = sym (all_itself ds)
    ∙ one_asked percent DirectiveAt are_directives itself ds es text f g ∙ all_itself es

-- ---- where the text ends

module _ (text rest : List ℕ) (requests : List Request) (so_far : HasReadTo text rest requests)
    (end : SkipsPlain percent rest []) where
  whole : IsFormat percent DirectiveAt so_far.directives text
  whole = subst (λ (ds : List Directive). IsFormat percent DirectiveAt ds text)
      (sym (directives_are text rest requests so_far))
      (read_all percent DirectiveAt are_directives itself text rest so_far.directives so_far.read end)

  pub is_format : (asked : List Numbered) → asked ≡ numbered_requests requests → fits requests ≡ true
      → HasSignature text asked
  is_format asked e fitting = (
    so_far.directives,
    whole,
    so_far.all,
    e ∙ ap numbered_requests so_far.collects,
    subst (λ (rs : List Request). fits rs ≡ true) so_far.collects fitting,
  )

  pub misfits : fits requests ≡ false → ((asked : List Numbered) → ¬ HasSignature text asked) × ¬ IsUnread text
  misfits bad = (
    λ asked (ds, format, all, e, fitting).
        let same : ds ≡ so_far.directives = same_directives text ds so_far.directives format whole in
        let here : fits (flat_map asks ds) ≡ false = subst (λ (rs : List Request). fits rs ≡ false)
        (so_far.collects ∙ sym (ap (flat_map asks) same)) bad in
        absurd (cc (here, fitting)),
    λ (ds, format, unread).
        let same : ds ≡ so_far.directives = same_directives text ds so_far.directives format whole in
        let here : list_all is_read so_far.directives ≡ false = subst (λ (es : List Directive).
        list_all is_read es ≡ false) same unread in
        absurd (cc (here, so_far.all)),
  )

-- ---- where it can't be read on

pub is_unread : (text rest behind after : List ℕ) (d : Directive) (requests : List Request)
    → HasReadTo text rest requests → SkipsPlain percent rest (percent ∷ behind)
    → DirectiveAt d (percent ∷ behind) after → is_read d ≡ false → IsUnread text
is_unread text rest behind after d requests so_far plain x is =
    let ds = so_far.read.directives in
    let same = directives_are text rest requests so_far in
    let nothing : SkipsPlain percent after [] = record {
      plain = [];
      text_is = unread_is_last d (percent ∷ behind) after x is;
      no_mark = refl;
    } in (
      ds ++ d ∷ [],
      so_far.read.on (d ∷ []) (percent ∷ behind, after, plain, x, nothing),
      read_more ds d (subst (λ (es : List Directive). list_all is_read es ≡ true) same so_far.all) ∙ is,
    )

none_read : (text rest behind : List ℕ) (requests : List Request) → HasReadTo text rest requests
    → SkipsPlain percent rest (percent ∷ behind)
    → ((d : Directive) (after : List ℕ) → DirectiveAt d (percent ∷ behind) after → ⊥) → (ds : List Directive)
    → IsFormat percent DirectiveAt ds text → ⊥
none_read text rest behind requests so_far plain none ds format =
    no_format percent DirectiveAt are_directives itself text rest behind so_far.directives so_far.read plain none ds
    format

pub unreadable : (text rest behind : List ℕ) (requests : List Request) → HasReadTo text rest requests
    → SkipsPlain percent rest (percent ∷ behind)
    → ((d : Directive) (after : List ℕ) → DirectiveAt d (percent ∷ behind) after → ⊥)
    → ((asked : List Numbered) → ¬ HasSignature text asked) × ¬ IsUnread text
unreadable text rest behind requests so_far plain none = (
  λ asked (ds, format, all, same, fitting). none_read text rest behind requests so_far plain none ds format,
  λ (ds, format, unread). none_read text rest behind requests so_far plain none ds format,
)

-- ---- one outcome

pub one_list : (text : List ℕ) (asked others : List Numbered) → HasSignature text asked → HasSignature text others
    → asked ≡ others
one_list text asked others (ds, f, all, e, fitting) (es, g, also, h, too) =
    e ∙ ap (λ (cs : List Directive). numbered_requests (flat_map asks cs)) (same_directives text ds es f g) ∙ sym h

pub read_or_unread : (text : List ℕ) (asked : List Numbered) → HasSignature text asked → ¬ IsUnread text
read_or_unread text asked (ds, f, all, e, fitting) (es, g, unread) =
    let here : list_all is_read es ≡ true = subst (λ (cs : List Directive). list_all is_read cs ≡ true)
    (same_directives text ds es f g) all in
    absurd (cc (here, unread))
