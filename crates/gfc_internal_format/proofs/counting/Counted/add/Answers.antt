use Rattle.std.proofs.Common.{◌++◌, sym, ap, subst, Option}
use Rattle.numbered_arguments.specs.declared.Request.{Request}
use Rattle.numbered_arguments.specs.NumberedArguments.{list_of}
use Rattle.script_formats.specs.ScriptParts.{following_number}
use Rattle.gfc_internal_format.specs.declared.counting.Counted.{Counted}
use Rattle.gfc_internal_format.specs.GfcNumbers.{HasCounted}
use Rattle.gfc_internal_format.proofs.GfcNumberLemmas.{counts_more}
use Rattle.gfc_internal_format.proofs.counting.Counted.add.Goals as goal

pub returns : goal.returns
returns c = λ requests h.
    let number = c.unwrap_or-number.result in
    let new : Counted = record { asked = c.push.new.self; next = following_number number } in
    subst (λ (r : Option Request). HasCounted (requests ++ list_of r) new) (sym c.in-Some.is)
    (counts_more c.args.self.now new requests c.in-Some.request
    (rw c.unwrap_or-number.ensures at c.in_ok-push.ensures.items) (ap following_number c.unwrap_or-number.ensures) h)
