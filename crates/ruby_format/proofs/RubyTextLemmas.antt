-- Whole texts, and the arguments by their numbers.
use Rattle.std.proofs.Common.{◌≡◌, ℕ, Bool, true, false, List, [], ◌∷◌, ◌++◌, map, None, refl, ap, sym, subst, ◌∙◌}
use Rattle.std.specs.Prelude.{◌&&◌}
use Rattle.std.specs.Map.{values_of}
use Rattle.format_arguments.specs.declared.Kind.{Kind}
use Rattle.format_arguments.specs.Arguments.{Argument, is_consistent}
use Rattle.format_arguments.specs.Text.{SkipsPlain}
use Rattle.format_arguments.proofs.TextLemmas.{HasRead, no_format, read_all, asked_by_all, one_asked}
use Rattle.ruby_format.specs.RubyPieces.{percent}
use Rattle.ruby_format.specs.RubyDirectives.{Directive, DirectiveAt, Reference, references}
use Rattle.ruby_format.specs.RubyFormat.{HasSignature, argument, others, arguments, by_number, are_one_way, kinds_fit}
use Rattle.ruby_format.specs.RubyFormat.{fits}
use Rattle.ruby_format.proofs.RubyDirectiveLemmas.{are_directives}

pub by_rank : (kinds : List (ℕ × Kind))
    → map (argument None) (values_of kinds) ≡ map (λ (entry : ℕ × Kind). argument None entry.1) kinds
by_rank [] = refl
by_rank (entry ∷ more) = ap (λ (asked : List Argument). argument None entry.1 ∷ asked) (by_rank more)

pub unreadable : (text rest behind : List ℕ) (rs : List Reference)
    → HasRead percent DirectiveAt are_directives references text rest rs → SkipsPlain percent rest (percent ∷ behind)
    → ((d : Directive) (after : List ℕ) → DirectiveAt d (percent ∷ behind) after → ⊥) → (asked : List Argument)
    → HasSignature text asked → ⊥
unreadable text rest behind rs so_far plain none asked (ds, format, same, fitting) =
    no_format percent DirectiveAt are_directives references text rest behind rs so_far plain none ds format

pub has_signature : (text rest : List ℕ) (rs : List Reference) (asked : List Argument)
    → HasRead percent DirectiveAt are_directives references text rest rs → SkipsPlain percent rest []
    → asked ≡ arguments rs → fits rs ≡ true → HasSignature text asked
has_signature text rest rs asked so_far end e fitting = (
  so_far.directives,
  read_all percent DirectiveAt are_directives references text rest rs so_far end,
  e ∙ ap arguments so_far.asked_is,
  subst (λ (all : List Reference). fits all ≡ true) so_far.asked_is fitting,
)

pub unfit : (text rest : List ℕ) (rs : List Reference)
    → HasRead percent DirectiveAt are_directives references text rest rs → SkipsPlain percent rest []
    → fits rs ≡ false → (asked : List Argument) → HasSignature text asked → ⊥
unfit text rest rs so_far end bad asked (ds, format, same, fitting) =
    let all = asked_by_all percent DirectiveAt are_directives references text rest rs so_far end ds format in
    let here : fits rs ≡ true = subst (λ (found : List Reference). fits found ≡ true) all fitting in
    absurd (cc (here, bad))

pub one_list : (text : List ℕ) (asked found : List Argument) → HasSignature text asked → HasSignature text found
    → asked ≡ found
one_list text asked found (ds, f, e, fitting) (es, g, h, also) =
    e ∙ ap arguments (one_asked percent DirectiveAt are_directives references ds es text f g) ∙ sym h

-- ---- what was gathered

pub asked_are : (rs one other : List Reference) (kinds : List (ℕ × Kind)) (asked : List Argument) → one ≡ rs
    → other ≡ rs → kinds ≡ by_number one
    → asked ≡ map (λ (entry : ℕ × Kind). argument None entry.1) kinds ++ others other → asked ≡ arguments rs
asked_are rs one other kinds asked e f g h =
    h ∙ ap (λ (es : List (ℕ × Kind)). map (λ (entry : ℕ × Kind). argument None entry.1) es ++ others other)
    (g ∙ ap by_number e)
    ∙ ap (λ (x : List Reference). map (λ (entry : ℕ × Kind). argument None entry.1) (by_number rs) ++ others x) f

pub fit_is : (rs one other : List Reference) (kinds : List (ℕ × Kind)) (asked : List Argument) (fit : Bool)
    → one ≡ rs → other ≡ rs → kinds ≡ by_number one → asked ≡ arguments rs
    → fit ≡ (are_one_way None other && kinds_fit kinds other && is_consistent asked) → fits rs ≡ fit
fit_is rs one other kinds asked fit e f g h is = sym (
    is ∙ ap (λ (x : List Reference). are_one_way None x && kinds_fit kinds x && is_consistent asked) f
    ∙ ap (λ (es : List (ℕ × Kind)). are_one_way None rs && kinds_fit es rs && is_consistent asked)
    (g ∙ ap by_number e)
    ∙ ap (λ (a : List Argument). are_one_way None rs && kinds_fit (by_number rs) rs && is_consistent a) h
    )
