-- A text, read directive by directive.
use Rattle.std.proofs.Common.{◌≡◌, ℕ, true, false, List, [], ◌∷◌, ◌++◌, refl, sym, ap, subst, ◌∙◌}
use Rattle.std.specs.List.{flat_map}
use Rattle.format_arguments.specs.Text.{SkipsPlain, IsFormat}
use Rattle.format_arguments.proofs.TextLemmas.{HasRead, read_nothing, reads_on, no_format, read_all, asked_by_all}
use Rattle.format_arguments.proofs.TextLemmas.{one_asked}
use Rattle.numbered_arguments.specs.declared.Numbered.{Numbered}
use Rattle.numbered_arguments.specs.NumberedArguments.{is_consistent}
use Rattle.librep_format.specs.declared.parts.Directive.{Directive}
use Rattle.librep_format.specs.declared.counting.Counted.{Counted}
use Rattle.librep_format.specs.LibrepDirectives.{percent, DirectiveAt}
use Rattle.librep_format.specs.LibrepCounting.{numbered_arguments, HasCounted, Adds}
use Rattle.librep_format.specs.LibrepFormat.{HasSignature}
use Rattle.librep_format.proofs.LibrepDirectiveLemmas.{are_directives}

abbrev pub itself : Directive → List Directive
itself d = d ∷ []

all_itself : (ds : List Directive) → flat_map itself ds ≡ ds
all_itself [] = refl
all_itself (d ∷ ds) = ap (λ (more : List Directive). d ∷ more) (all_itself ds)

-- up to rest these directives were read, and what they ask for was collected
pub record HasReadTo (text rest : List ℕ) (counted : Counted) : Type 0 where
  pub directives : List Directive
  pub read : HasRead percent DirectiveAt are_directives itself text rest directives
  pub counts : HasCounted directives counted

pub read_to_begin : (text : List ℕ) (counted : Counted) → HasCounted [] counted → HasReadTo text text counted
read_to_begin text counted none = record {
  directives = [];
  read = read_nothing percent DirectiveAt are_directives itself text;
  counts = none;
}

pub reads_further : (text rest behind after : List ℕ) (d : Directive) (old new : Counted) → HasReadTo text rest old
    → SkipsPlain percent rest (percent ∷ behind) → DirectiveAt d (percent ∷ behind) after → Adds old new d
    → HasReadTo text after new
reads_further text rest behind after d old new so_far plain x adds = record {
  directives = so_far.directives ++ d ∷ [];
  read = reads_on percent DirectiveAt are_directives itself text rest behind after d so_far.directives
      (so_far.directives ++ d ∷ []) so_far.read plain x refl;
  counts = adds so_far.directives so_far.counts;
}

pub unreadable : (text rest behind : List ℕ) (counted : Counted) → HasReadTo text rest counted
    → SkipsPlain percent rest (percent ∷ behind)
    → ((d : Directive) (after : List ℕ) → DirectiveAt d (percent ∷ behind) after → ⊥)
    → (asked : List Numbered) → HasSignature text asked → ⊥
unreadable text rest behind counted so_far plain none asked (ds, format, same, consistent) =
    no_format percent DirectiveAt are_directives itself text rest behind so_far.directives so_far.read plain none ds
    format

-- the directives of a text that was read to its end
all_read : (text rest : List ℕ) (counted : Counted) (so_far : HasReadTo text rest counted) → SkipsPlain percent rest []
    → (ds : List Directive) → IsFormat percent DirectiveAt ds text → ds ≡ so_far.directives
all_read text rest counted so_far end ds format = sym (all_itself ds)
    ∙ asked_by_all percent DirectiveAt are_directives itself text rest so_far.directives so_far.read end ds format

pub is_format : (text rest : List ℕ) (counted : Counted) → HasReadTo text rest counted → SkipsPlain percent rest []
    → is_consistent counted.asked.items ≡ true → HasSignature text counted.asked.items
is_format text rest counted so_far end consistent =
    let directives = so_far.read.directives in
    let same : so_far.directives ≡ directives = so_far.read.asked_is ∙ all_itself directives in (
      directives,
      read_all percent DirectiveAt are_directives itself text rest so_far.directives so_far.read end,
      so_far.counts.asked ∙ ap numbered_arguments same,
      consistent,
    )

pub inconsistent : (text rest : List ℕ) (counted : Counted) → HasReadTo text rest counted
    → SkipsPlain percent rest [] → is_consistent counted.asked.items ≡ false → (asked : List Numbered)
    → HasSignature text asked → ⊥
inconsistent text rest counted so_far end bad asked (ds, format, same, consistent) =
    let equal : asked ≡ counted.asked.items = same ∙ ap numbered_arguments
    (all_read text rest counted so_far end ds format)
    ∙ sym so_far.counts.asked in
    let here : is_consistent counted.asked.items ≡ true =
    subst (λ (a : List Numbered). is_consistent a ≡ true) equal consistent in
    absurd (cc (here, bad))

pub one_list : (text : List ℕ) (asked others : List Numbered) → HasSignature text asked → HasSignature text others
    → asked ≡ others
one_list text asked others (ds, f, e, consistent) (es, g, h, also) =
    let equal : ds ≡ es = sym (all_itself ds) ∙ one_asked percent DirectiveAt are_directives itself ds es text f g
    ∙ all_itself es in
    e ∙ ap numbered_arguments equal ∙ sym h
