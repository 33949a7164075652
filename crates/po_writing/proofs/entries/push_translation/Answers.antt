use Rattle.std.proofs.Common.{◌≡◌, Some, sym}
use Rattle.std.proofs.lemmas.Result.{on_ok_weaker}
use Rattle.po_writing.proofs.Steps.{two_pushed}
use Rattle.po_writing.proofs.entries.push_translation.Goals as goal

pub returns-in_ok-push_string-in-Some : goal.returns-in_ok-push_string-in-Some
returns-in_ok-push_string-in-Some c =
    let some : c.args.entry.now.plural ≡ Some c.in-Some.plural.now = sym c.in-Some.ensures in
    rw some (on_ok_weaker c.push_forms.result (two_pushed c.args.out.now.items c.push_string.new.out.items
    c.push_forms.new.out.items _ _ c.in_ok-push_string-in-Some.ensures) c.push_forms.ensures)
