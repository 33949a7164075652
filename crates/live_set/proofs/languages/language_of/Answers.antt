use Rattle.std.proofs.Common.{◌≡◌, ◌∙◌, arith, true, false, MatchOption, List, ℕ, sym, Bor, subst, Option}
use Rattle.live_set.specs.LanguageList.{is_underscore, has_only_territory}
use Rattle.std.specs.List.{before_first}
use Rattle.std.proofs.lemmas.Str.Pattern.{contains_char}
use Rattle.std.proofs.lemmas.Bool.{true≢false}
use Rattle.live_set.proofs.Listing.{no_territory, with_territory, no_detail}
use Rattle.live_set.proofs.languages.language_of.Goals.{then-contains, else-contains}
use Rattle.live_set.proofs.languages.language_of.Goals as goal

pub returns-in_err-language : goal.returns-in_err-language
returns-in_err-language c =
    let text = c.args.member.now in
    let P : Option (Bor (List ℕ)) → Type 0 = λ o. MatchOption o (has_only_territory text ≡ false)
    (λ language. (has_only_territory text ≡ true) × (language.now ≡ before_first is_underscore text)) in
    let none = c.in_err-language.ensures.byte (omega arith) (λ w o h. h) in
    subst P (sym c.from_residual.ensures) (no_territory text none)

pub returns-else-contains-2 : goal.returns-else-contains-2
returns-else-contains-2 c =
    let text = c.args.member.now in
    let cut = c.in_ok-language.ensures.byte (omega arith) (λ w o h. h) in
    elim c.if-contains.branch [
      | then-contains w ↦ absurd (true≢false (sym w.if-contains.true ∙ sym w.value-is
          ∙ c.if-contains-2.false))
      | else-contains w ↦
          let no_dot = (contains_char 46 text c.contains.result c.contains.ensures.cases (omega arith)).1 in
          let no_at = (contains_char 64 text w.contains-else-contains.result w.contains-else-contains.ensures.cases
          (omega arith)).1 in
          let none = no_detail text (λ k lt e. true≢false (sym (no_dot k lt e) ∙ w.if-contains.false))
          (λ k lt e. true≢false (sym (no_at k lt e) ∙ sym w.value-is ∙ c.if-contains-2.false)) in
          (with_territory text cut.2 false none, cut.0)
    ]
