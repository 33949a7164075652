use Rattle.po_text.proofs.Kit.{◌∙◌, ap, sym, string_of}
use Rattle.std.proofs.Common.{not}
use Rattle.po_text.proofs.CleanLemmas.{no_four}
use Rattle.po_text.proofs.strings.StringBytes.has_four.Goals as goal

pub returns-else-not-self : goal.returns-else-not-self
returns-else-not-self c =
    let is_clean = c.if-not-self.false in
    ap not is_clean ∙ sym (no_four (string_of c.args.self.now) (c.args.self.now.clean is_clean))
