use Rattle.po_header.proofs.Kit.{◌≡◌, length, IsUtf8}
use Rattle.po_header.specs.Fields.{field_value}
use Rattle.po_header.proofs.fields.field.Given as goal

abbrev pub invariant-lines : goal.invariant-lines
invariant-lines l = (field_value l.text l.name ≡ field_value l.rest l.name) × IsUtf8 l.rest

abbrev pub decreases-lines : goal.decreases-lines
decreases-lines l = length l.rest
