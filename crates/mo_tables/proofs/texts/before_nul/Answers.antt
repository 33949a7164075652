use Rattle.std.proofs.Common.{ℕ, take, ap, sym, ◌∙◌}
use Rattle.mo_tables.proofs.Cuts.{offset_found}
use Rattle.mo_tables.proofs.texts.before_nul.Goals as goal

pub returns : goal.returns
returns c =
    let text = c.args.text.now in
    ap (λ (n : ℕ). take n text) (c.unwrap_or-len.ensures ∙ sym
    (offset_found 0 text c.find_byte.result c.find_byte.ensures))
