use Rattle.entry_search.proofs.Kit.{◌≡◌, ◌∷◌, ◌++◌, length, refl, sym, ap, ◌∙◌, false≢true, bytes_eq-Decides, bytes_eq}
use Rattle.std.proofs.Common.{take}
use Rattle.std.proofs.lemmas.Bool.Decides.{same_from_decides}
use Rattle.std.proofs.lemmas.List.{append_cancel_left, take-append-drop, take_at}
use Rattle.entry_search.proofs.Found.{differs_unless}
use Rattle.entry_search.proofs.keys.is_in_context.Goals as goal

pub returns-then-eq : goal.returns-then-eq
returns-then-eq c =
    let text = c.args.text.now in
    let context = c.args.context.now in
    let asked = 4 ∷ c.args.id.now in
    let rest = c.in-Some.rest.now in
    let front_is : c.in-Some.front.now ≡ context = (bytes_eq-Decides c.in-Some.front.now context).0
    (sym c.eq.ensures ∙ c.if-eq.true) in
    let whole : text ≡ context ++ rest = sym (take-append-drop (length context) text)
    ∙ ap (λ l. take (length context) text ++ l) (sym c.in-Some.ensures.cases.2)
    ∙ ap (λ l. l ++ rest) (sym c.in-Some.ensures.cases.1 ∙ front_is) in
    let decides = bytes_eq-Decides rest asked in
    c.is_behind_separator.ensures
    ∙ same_from_decides (bytes_eq rest asked) (bytes_eq text (context ++ asked)) (
      λ e. whole ∙ ap (λ l. context ++ l) (decides.0 e),
      λ e. decides.1 (append_cancel_left context rest asked (sym whole ∙ e)),
    ) (bytes_eq-Decides text (context ++ asked))

pub returns-else-eq : goal.returns-else-eq
returns-else-eq c =
    let text = c.args.text.now in
    let context = c.args.context.now in
    let asked = 4 ∷ c.args.id.now in
    let front = c.in-Some.front.now in
    c.if-eq.false ∙ sym (differs_unless text (context ++ asked) (λ same. false≢true (sym c.if-eq.false ∙ c.eq.ensures
    ∙ (bytes_eq-Decides front context).1 (c.in-Some.ensures.cases.1
    ∙ ap (take (length context)) ((bytes_eq-Decides text (context ++ asked)).0 same)
    ∙ take_at context asked (length context) refl))))
