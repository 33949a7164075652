-- A text, read directive by directive.
use Rattle.std.proofs.Common.{◌≡◌, ℕ, true, false, List, [], ◌∷◌, ◌++◌, Option, refl, sym, ap, subst, ◌∙◌}
use Rattle.format_arguments.specs.Text.{SkipsPlain}
use Rattle.format_arguments.proofs.TextLemmas.{HasRead, read_nothing, reads_on, no_format, read_all, asked_by_all}
use Rattle.format_arguments.proofs.TextLemmas.{one_asked}
use Rattle.numbered_arguments.specs.declared.Numbered.{Numbered}
use Rattle.numbered_arguments.specs.declared.Request.{Request}
use Rattle.numbered_arguments.specs.NumberedArguments.{list_of}
use Rattle.gfc_internal_format.specs.declared.counting.Counted.{Counted}
use Rattle.gfc_internal_format.specs.GfcDirectives.{percent, DirectiveAt}
use Rattle.gfc_internal_format.specs.GfcNumbers.{with_numbers, HasCounted, Adds}
use Rattle.gfc_internal_format.specs.GfcArguments.{is_list, arguments}
use Rattle.gfc_internal_format.specs.GfcFormat.{asked_by, HasSignature}
use Rattle.gfc_internal_format.proofs.GfcDirectiveLemmas.{are_directives}

-- up to rest the directives were read, and what they ask for was counted
pub record HasReadTo (text rest : List ℕ) (counted : Counted) : Type 0 where
  pub asked : List Request
  pub read : HasRead percent DirectiveAt are_directives list_of text rest asked
  pub counts : HasCounted asked counted

pub read_to_begin : (text : List ℕ) (counted : Counted) → HasCounted [] counted → HasReadTo text text counted
read_to_begin text counted none = record {
  asked = [];
  read = read_nothing percent DirectiveAt are_directives list_of text;
  counts = none;
}

pub reads_further : (text rest behind after : List ℕ) (d : Option Request) (old new : Counted)
    → HasReadTo text rest old → SkipsPlain percent rest (percent ∷ behind)
    → DirectiveAt d (percent ∷ behind) after → Adds old new (list_of d) → HasReadTo text after new
reads_further text rest behind after d old new so_far plain x adds = record {
  asked = so_far.asked ++ list_of d;
  read = reads_on percent DirectiveAt are_directives list_of text rest behind after d so_far.asked
      (so_far.asked ++ list_of d) so_far.read plain x refl;
  counts = adds so_far.asked so_far.counts;
}

pub unreadable : (text rest behind : List ℕ) (counted : Counted) → HasReadTo text rest counted
    → SkipsPlain percent rest (percent ∷ behind)
    → ((d : Option Request) (after : List ℕ) → DirectiveAt d (percent ∷ behind) after → ⊥)
    → (asked : List Numbered) → HasSignature text asked → ⊥
unreadable text rest behind counted so_far plain none asked (ds, format, same, listed) =
    no_format percent DirectiveAt are_directives list_of text rest behind so_far.asked so_far.read plain none ds format

module _ (text rest : List ℕ) (counted : Counted) (so_far : HasReadTo text rest counted)
    (end : SkipsPlain percent rest []) where
  pub is_format : (asked : List Numbered) → asked ≡ arguments counted.asked.items → is_list counted.asked.items ≡ true
      → HasSignature text asked
  is_format asked e listed =
      let same : counted.asked.items ≡ asked_by so_far.read.directives = so_far.counts.asked
      ∙ ap with_numbers so_far.read.asked_is in (
        so_far.read.directives,
        read_all percent DirectiveAt are_directives list_of text rest so_far.asked so_far.read end,
        e ∙ ap arguments same,
        subst (λ (xs : List Numbered). is_list xs ≡ true) same listed,
      )

  pub no_list : is_list counted.asked.items ≡ false → (asked : List Numbered) → HasSignature text asked → ⊥
  no_list bad asked (ds, format, e, listed) =
      let all = asked_by_all percent DirectiveAt are_directives list_of text rest so_far.asked so_far.read end ds
      format in
      let here : is_list counted.asked.items ≡ true = subst (λ (xs : List Numbered). is_list xs ≡ true)
      (ap with_numbers all ∙ sym so_far.counts.asked) listed in
      absurd (cc (here, bad))

pub one_list : (text : List ℕ) (asked others : List Numbered) → HasSignature text asked → HasSignature text others
    → asked ≡ others
one_list text asked others (ds, f, e, listed) (es, g, h, also) =
    e ∙ ap (λ (rs : List Request). arguments (with_numbers rs))
    (one_asked percent DirectiveAt are_directives list_of ds es text f g) ∙ sym h
