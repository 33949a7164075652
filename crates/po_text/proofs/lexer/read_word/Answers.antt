use Rattle.po_text.proofs.Kit.{[], ◌∷◌, refl, Id, Str}
use Rattle.std.proofs.Common.{rules}
use Rattle.std.proofs.lemmas.Slice.Eq.{HasBytesAt}
use Rattle.po_text.proofs.WordLemmas.{id_ahead, str_ahead}
use Rattle.po_text.proofs.lexer.read_word.Goals as goal

pub returns-in-109-clause-ok : goal.returns-in-109-clause-ok
returns-in-109-clause-ok c =
    let reads : HasBytesAt c.args.text.now 0 (109 ∷ 115 ∷ 103 ∷ 105 ∷ 100 ∷ 32 ∷ []) = search rules in
    (Id, id_ahead c.args.text.now c.in-109.len_at_least reads, λ bytes. refl)

pub returns-in-109-text-clause-ok : goal.returns-in-109-text-clause-ok
returns-in-109-text-clause-ok c =
    let reads : HasBytesAt c.args.text.now 0 (109 ∷ 115 ∷ 103 ∷ 115 ∷ 116 ∷ 114 ∷ 32 ∷ []) = search rules in
    (Str, str_ahead c.args.text.now c.in-109-text.len_at_least reads, λ bytes. refl)
