-- A text, read directive by directive.
use Rattle.std.proofs.Common.{◌≡◌, ℕ, Bool, true, false, List, [], ◌∷◌, ◌++◌, refl, sym, ap, ◌∙◌, subst, append_assoc}
use Rattle.std.specs.Prelude.{◌&&◌, not}
use Rattle.std.specs.List.{list_any}
use Rattle.format_arguments.specs.Text.{SkipsPlain}
use Rattle.format_arguments.proofs.TextLemmas.{HasRead, read_nothing, reads_on}
use Rattle.numbered_arguments.specs.declared.Numbered.{Numbered}
use Rattle.numbered_arguments.specs.declared.Request.{Request}
use Rattle.numbered_arguments.specs.NumberedArguments.{is_consistent}
use Rattle.numbered_arguments.proofs.NumberedTextLemmas.{HasCounted, unreadable, asks_for, unfit, one_list}
use Rattle.gcc_internal_format.specs.declared.directive.Directive.{Directive}
use Rattle.gcc_internal_format.specs.declared.collecting.Collected.{Collected}
use Rattle.gcc_internal_format.specs.GccDirectives.{percent, DirectiveAt}
use Rattle.gcc_internal_format.specs.GccCollecting.{asks, is_own, is_next, HasCollected, Adds}
use Rattle.gcc_internal_format.specs.GccFormat.{fits, HasSignature}
use Rattle.gcc_internal_format.proofs.GccDirectiveLemmas.{are_directives}

pub adds_both : (a b c : Collected) (xs ys : List Request) → Adds a b xs → Adds b c ys → Adds a c (xs ++ ys)
adds_both a b c xs ys f g = λ requests h. subst (λ (rs : List Request). HasCollected rs c)
    (append_assoc requests xs ys) (g (requests ++ xs) (f requests h))

-- up to rest the directives were read, and what they ask for was collected
pub record HasReadTo (text rest : List ℕ) (collected : Collected) : Type 0 where
  pub asked : List Request
  pub read : HasRead percent DirectiveAt are_directives asks text rest asked
  pub collects : HasCollected asked collected

counted : (text rest : List ℕ) (collected : Collected) → HasReadTo text rest collected
    → HasCounted percent DirectiveAt are_directives asks text rest collected.numbering
counted text rest collected h = record {
  asked = h.asked;
  read = h.read;
  numbered = h.collects.numbered;
}

pub read_to_begin : (text : List ℕ) (collected : Collected) → HasCollected [] collected
    → HasReadTo text text collected
read_to_begin text collected none = record {
  asked = [];
  read = read_nothing percent DirectiveAt are_directives asks text;
  collects = none;
}

pub reads_further : (text rest behind after : List ℕ) (d : Directive) (old new : Collected)
    → HasReadTo text rest old → SkipsPlain percent rest (percent ∷ behind)
    → DirectiveAt d (percent ∷ behind) after → Adds old new (asks d) → HasReadTo text after new
reads_further text rest behind after d old new so_far plain x adds = record {
  asked = so_far.asked ++ asks d;
  read = reads_on percent DirectiveAt are_directives asks text rest behind after d so_far.asked
      (so_far.asked ++ asks d) so_far.read plain x refl;
  collects = adds so_far.asked so_far.collects;
}

abbrev pub verdict : Collected → Bool
verdict c = is_consistent c.numbering.asked.items && not (c.own && c.next)

fits_is : (requests : List Request) (c : Collected) (is : Bool) → HasCollected requests c → verdict c ≡ is
    → fits requests ≡ is
fits_is requests c is h e = ap (λ (asked : List Numbered). is_consistent asked
    && not (list_any is_own requests && list_any is_next requests)) (sym h.numbered.asked)
    ∙ ap (λ (own : Bool). is_consistent c.numbering.asked.items
    && not (own && list_any is_next requests)) (sym h.own)
    ∙ ap (λ (next : Bool). is_consistent c.numbering.asked.items && not (c.own && next)) (sym h.next)
    ∙ e

pub no_format : (text rest behind : List ℕ) (c : Collected) → HasReadTo text rest c
    → SkipsPlain percent rest (percent ∷ behind)
    → ((d : Directive) (after : List ℕ) → DirectiveAt d (percent ∷ behind) after → ⊥)
    → (asked : List Numbered) → HasSignature text asked → ⊥
no_format text rest behind c so_far = unreadable percent DirectiveAt are_directives asks fits text rest behind
    c.numbering (counted text rest c so_far)

pub is_format : (text rest : List ℕ) (c : Collected) → HasReadTo text rest c → SkipsPlain percent rest []
    → verdict c ≡ true → HasSignature text c.numbering.asked.items
is_format text rest c so_far end e = asks_for percent DirectiveAt are_directives asks fits text rest c.numbering
    c.numbering.asked.items (record { asked = so_far.asked; read = so_far.read; numbered = so_far.collects.numbered })
    end refl (fits_is so_far.asked c true so_far.collects e)

pub misfits : (text rest : List ℕ) (c : Collected) → HasReadTo text rest c → SkipsPlain percent rest []
    → verdict c ≡ false → (asked : List Numbered) → HasSignature text asked → ⊥
misfits text rest c so_far end e = unfit percent DirectiveAt are_directives asks fits text rest c.numbering
    (record { asked = so_far.asked; read = so_far.read; numbered = so_far.collects.numbered }) end
    (fits_is so_far.asked c false so_far.collects e)

pub one_of_gcc : (text : List ℕ) (asked others : List Numbered) → HasSignature text asked → HasSignature text others
    → asked ≡ others
one_of_gcc = one_list percent DirectiveAt are_directives asks fits
