use Rattle.std.proofs.Common.{rules, ◌≡◌, ℕ, List, Some, sym, ap, ◌∙◌, subst}
use Rattle.message.specs.Charset.{up_to_white, NamesCharset, IsAcceptedCharset}
use Rattle.po_header.proofs.TextLemmas.{Follows-one}
use Rattle.po_header.proofs.charset.has_accepted_charset.Goals as goal

-- a text names at most one charset
charset_one : (text a b : List ℕ) → NamesCharset text (Some a) → NamesCharset text (Some b) → a ≡ b
charset_one text a b n m = n.2 ∙ ap up_to_white (Follows-one _ text n.0 m.0 n.1 m.1) ∙ sym m.2

pub returns-in-Some : goal.returns-in-Some
returns-in-Some c =
    let text = c.args.text.now in
    let name = c.in-Some.name.now in
    let names : NamesCharset text (Some name) = rw c.in-Some.is at c.charset_of.ensures in (
      (λ so. record {
        accepted = λ other n. subst IsAcceptedCharset (charset_one text name other names n)
            (c.charset_accepted.ensures.0 so);
      }),
      (λ h. c.charset_accepted.ensures.1 (h.accepted name names)),
    )

pub returns-in-None : goal.returns-in-None
returns-in-None c = search rules
