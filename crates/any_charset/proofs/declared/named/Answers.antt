use Rattle.std.proofs.Common.{◌≡◌, ℕ, ◌+◌, length, take, drop, ap, sym, ◌∙◌}
use Rattle.any_charset.specs.Declaring.{charset_mark, name_len}
use Rattle.any_charset.proofs.Offsets.{no_offset, one_offset}
use Rattle.any_charset.proofs.declared.named.Goals as goal

pub returns-in_err-at-clause-names : goal.returns-in_err-at-clause-names
returns-in_err-at-clause-names c = rw c.from_residual.ensures (λ at charset renamed d.
    no_offset c.args.text.now charset_mark at c.in_err-at.ensures d.first)

pub returns-in_err-charset-clause-names : goal.returns-in_err-charset-clause-names
returns-in_err-charset-clause-names c = rw c.from_residual-in_err-charset.ensures (λ at charset renamed d.
    let text = c.args.text.now in
    let same = one_offset text charset_mark at c.in_ok-at.at d.first c.in_ok-at.ensures in
    let after : d.after ≡ c.split_at.result.1.now = d.after_is
    ∙ ap (λ (k : ℕ). drop (k + length charset_mark) text) same
    ∙ sym c.split_at.ensures.back in
    let name : take (name_len d.after) d.after ≡ c.split_at-2.result.0.now = rw after (
    ap (λ (n : ℕ). take n c.split_at.result.1.now) (sym c.name_len.ensures.len)
    ∙ sym c.split_at-2.ensures.front) in
    c.in_err-charset.ensures charset (rw name at d.named))
