-- Texts whose directives ask for arguments by number.
use Rattle.std.proofs.Common.{◌≡◌, ℕ, Bool, true, false, List, [], ◌∷◌, ◌++◌, refl, sym, subst, ap, ◌∙◌}
use Rattle.format_arguments.specs.Text.{SkipsPlain, AreDirectives}
use Rattle.format_arguments.proofs.TextLemmas.{HasRead, read_nothing, reads_on, no_format, read_all, asked_by_all}
use Rattle.format_arguments.proofs.TextLemmas.{one_asked}
use Rattle.numbered_arguments.specs.declared.Numbered.{Numbered}
use Rattle.numbered_arguments.specs.declared.Request.{Request}
use Rattle.numbered_arguments.specs.declared.numbering.Numbering.{Numbering}
use Rattle.numbered_arguments.specs.NumberedArguments.{numbered_requests}
use Rattle.numbered_arguments.specs.NumberedText.{AsksFor}
use Rattle.numbered_arguments.specs.NumberingStates.{AddsRequests, HasNumbered}

module _ {D : Type 0} (mark : ℕ) (At : D → List ℕ → List ℕ → Type 0) (laws : AreDirectives mark At)
    (requests : D → List Request) where
  -- up to rest the directives were read, and what they ask for has its numbers
  pub record HasCounted (text rest : List ℕ) (numbering : Numbering) : Type 0 where
    pub asked : List Request
    pub read : HasRead mark At laws requests text rest asked
    pub numbered : HasNumbered asked numbering

  pub counted_nothing : (text : List ℕ) (numbering : Numbering) → HasNumbered [] numbering
      → HasCounted text text numbering
  counted_nothing text numbering none = record {
    asked = [];
    read = read_nothing mark At laws requests text;
    numbered = none;
  }

  pub counts_on : (text rest behind after : List ℕ) (d : D) (old new : Numbering) → HasCounted text rest old
      → SkipsPlain mark rest (mark ∷ behind) → At d (mark ∷ behind) after → AddsRequests old new (requests d)
      → HasCounted text after new
  counts_on text rest behind after d old new so_far plain x adds = record {
    asked = so_far.asked ++ requests d;
    read = reads_on mark At laws requests text rest behind after d so_far.asked (so_far.asked ++ requests d)
        so_far.read plain x refl;
    numbered = adds so_far.asked so_far.numbered;
  }

  module _ (fits : List Request → Bool) where
    pub unreadable : (text rest behind : List ℕ) (old : Numbering) → HasCounted text rest old
        → SkipsPlain mark rest (mark ∷ behind) → ((d : D) (after : List ℕ) → At d (mark ∷ behind) after → ⊥)
        → (asked : List Numbered) → AsksFor mark At requests fits text asked → ⊥
    unreadable text rest behind old so_far plain none asked (ds, format, same, fitting) =
        no_format mark At laws requests text rest behind so_far.asked so_far.read plain none ds format

    pub asks_for : (text rest : List ℕ) (numbering : Numbering) (asked : List Numbered)
        → (so_far : HasCounted text rest numbering) → SkipsPlain mark rest [] → asked ≡ numbering.asked.items
        → fits so_far.asked ≡ true → AsksFor mark At requests fits text asked
    asks_for text rest numbering asked so_far end e fitting = (
      so_far.read.directives,
      read_all mark At laws requests text rest so_far.asked so_far.read end,
      e ∙ so_far.numbered.asked ∙ ap numbered_requests so_far.read.asked_is,
      subst (λ (rs : List Request). fits rs ≡ true) so_far.read.asked_is fitting,
    )

    pub unfit : (text rest : List ℕ) (numbering : Numbering) (so_far : HasCounted text rest numbering)
        → SkipsPlain mark rest [] → fits so_far.asked ≡ false → (asked : List Numbered)
        → AsksFor mark At requests fits text asked → ⊥
    unfit text rest numbering so_far end bad asked (ds, format, same, fitting) =
        let all = asked_by_all mark At laws requests text rest so_far.asked so_far.read end ds format in
        let here : fits so_far.asked ≡ true = subst (λ (rs : List Request). fits rs ≡ true) all fitting in
        absurd (cc (here, bad))

    pub one_list : (text : List ℕ) (asked others : List Numbered) → AsksFor mark At requests fits text asked
        → AsksFor mark At requests fits text others → asked ≡ others
    one_list text asked others (ds, f, e, fitting) (es, g, h, also) =
        e ∙ ap numbered_requests (one_asked mark At laws requests ds es text f g) ∙ sym h
