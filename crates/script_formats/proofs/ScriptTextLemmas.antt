-- A text, read directive by directive.
use Rattle.std.proofs.Common.{◌≡◌, ℕ, Bool, true, false, List, [], ◌∷◌, ◌++◌, refl, sym, ap, ◌∙◌}
use Rattle.std.specs.Prelude.{◌&&◌}
use Rattle.std.specs.List.{list_any}
use Rattle.format_arguments.specs.Text.{SkipsPlain}
use Rattle.format_arguments.proofs.TextLemmas.{HasRead, read_nothing, reads_on}
use Rattle.numbered_arguments.specs.declared.Numbered.{Numbered}
use Rattle.numbered_arguments.specs.declared.Request.{Request}
use Rattle.numbered_arguments.specs.NumberedText.{AsksFor}
use Rattle.numbered_arguments.proofs.NumberedTextLemmas.{HasCounted, unreadable, asks_for, unfit}
use Rattle.script_formats.specs.declared.Notation.{Notation}
use Rattle.script_formats.specs.declared.directive.Directive.{Directive}
use Rattle.script_formats.specs.declared.adding.Collected.{Collected}
use Rattle.script_formats.specs.ScriptDirectives.{percent, DirectiveAt}
use Rattle.script_formats.specs.Collecting.{asks, is_own, is_next, allows, HasCollected, Adds}
use Rattle.script_formats.specs.ScriptFormat.{fits}
use Rattle.script_formats.specs.ScriptKinds.{is_consistent_in}
use Rattle.script_formats.proofs.ScriptDirectiveLemmas.{are_directives}

-- up to rest the directives were read, and what they ask for was collected
pub record HasReadTo (notation : Notation) (text rest : List ℕ) (collected : Collected) : Type 0 where
  pub asked : List Request
  pub read : HasRead percent (DirectiveAt notation) (are_directives notation) asks text rest asked
  pub collects : HasCollected asked collected

counted : (notation : Notation) (text rest : List ℕ) (collected : Collected) → HasReadTo notation text rest collected
    → HasCounted percent (DirectiveAt notation) (are_directives notation) asks text rest collected.numbering
counted notation text rest collected h = record {
  asked = h.asked;
  read = h.read;
  numbered = h.collects.numbered;
}

pub read_to_begin : (notation : Notation) (text : List ℕ) (collected : Collected) → HasCollected [] collected
    → HasReadTo notation text text collected
read_to_begin notation text collected none = record {
  asked = [];
  read = read_nothing percent (DirectiveAt notation) (are_directives notation) asks text;
  collects = none;
}

pub reads_further : (notation : Notation) (text rest behind after : List ℕ) (d : Directive) (old new : Collected)
    → HasReadTo notation text rest old → SkipsPlain percent rest (percent ∷ behind)
    → DirectiveAt notation d (percent ∷ behind) after → Adds old new (asks d) → HasReadTo notation text after new
reads_further notation text rest behind after d old new so_far plain x adds = record {
  asked = so_far.asked ++ asks d;
  read = reads_on percent (DirectiveAt notation) (are_directives notation) asks text rest behind after d
      so_far.asked (so_far.asked ++ asks d) so_far.read plain x refl;
  collects = adds so_far.asked so_far.collects;
}

fits_is : (notation : Notation) (requests : List Request) (collected : Collected) (verdict : Bool)
    → HasCollected requests collected
    → (is_consistent_in notation collected.numbering.asked.items
    && allows notation collected.used.own collected.used.next) ≡ verdict → fits notation requests ≡ verdict
fits_is notation requests collected verdict h e = ap (λ (asked : List Numbered). is_consistent_in notation asked
    && allows notation (list_any is_own requests) (list_any is_next requests)) (sym h.numbered.asked)
    ∙ ap (λ (own : Bool). is_consistent_in notation collected.numbering.asked.items
    && allows notation own (list_any is_next requests)) (sym h.used.own)
    ∙ ap (λ (next : Bool). is_consistent_in notation collected.numbering.asked.items
    && allows notation collected.used.own next) (sym h.used.next)
    ∙ e

pub no_format : (notation : Notation) (text rest behind : List ℕ) (collected : Collected)
    → HasReadTo notation text rest collected → SkipsPlain percent rest (percent ∷ behind)
    → ((d : Directive) (after : List ℕ) → DirectiveAt notation d (percent ∷ behind) after → ⊥)
    → (asked : List Numbered) → AsksFor percent (DirectiveAt notation) asks (fits notation) text asked → ⊥
no_format notation text rest behind collected so_far = unreadable percent (DirectiveAt notation)
    (are_directives notation) asks (fits notation) text rest behind collected.numbering
    (counted notation text rest collected so_far)

pub is_format : (notation : Notation) (text rest : List ℕ) (collected : Collected)
    → HasReadTo notation text rest collected → SkipsPlain percent rest []
    → (is_consistent_in notation collected.numbering.asked.items
    && allows notation collected.used.own collected.used.next) ≡ true
    → AsksFor percent (DirectiveAt notation) asks (fits notation) text collected.numbering.asked.items
is_format notation text rest collected so_far end e = asks_for percent (DirectiveAt notation)
    (are_directives notation) asks (fits notation) text rest collected.numbering collected.numbering.asked.items
    (record { asked = so_far.asked; read = so_far.read; numbered = so_far.collects.numbered }) end refl
    (fits_is notation so_far.asked collected true so_far.collects e)

pub misfits : (notation : Notation) (text rest : List ℕ) (collected : Collected)
    → HasReadTo notation text rest collected → SkipsPlain percent rest []
    → (is_consistent_in notation collected.numbering.asked.items
    && allows notation collected.used.own collected.used.next) ≡ false
    → (asked : List Numbered) → AsksFor percent (DirectiveAt notation) asks (fits notation) text asked → ⊥
misfits notation text rest collected so_far end e = unfit percent (DirectiveAt notation)
    (are_directives notation) asks (fits notation) text rest collected.numbering
    (record { asked = so_far.asked; read = so_far.read; numbered = so_far.collects.numbered }) end
    (fits_is notation so_far.asked collected false so_far.collects e)
