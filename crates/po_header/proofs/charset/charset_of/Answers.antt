use Rattle.std.proofs.Common.{List, ℕ, Option, sym, ap, subst, lit<}
use Rattle.std.specs.Option.{option_copied}
use Rattle.message.specs.Charset.{NamesCharset}
use Rattle.po_header.proofs.TextLemmas.{follows_is, lacks_is}
use Rattle.po_header.proofs.charset.charset_of.Goals as goal

pub returns-in_err-after : goal.returns-in_err-after
returns-in_err-after c =
    subst (λ (o : Option (List ℕ)). NamesCharset c.args.text.now o) (sym (ap option_copied c.from_residual.ensures))
    (lacks_is _ c.args.text.now (lit< tt) (sym c.in_err-after.ensures))

pub returns : goal.returns
returns c = (c.in_ok-after.after.now, follows_is _ _ _ (sym c.in_ok-after.ensures), c.before_white.ensures)
