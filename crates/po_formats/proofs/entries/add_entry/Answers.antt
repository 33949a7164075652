use Rattle.std.proofs.Common.{Some, ap, ◌∙◌}
use Rattle.std.specs.Prelude.{map}
use Rattle.po_formats.proofs.Checking.{entry_added}
use Rattle.po_formats.proofs.entries.add_entry.Goals as goal
use Rattle.po_formats.proofs.entries.add_entry.Goals.{in-Some, in-None}

pub returns : goal.returns
returns c = entry_added c.add_faults.result c.args.entry.now (record {
  line = c.form_line.result;
  flags = c.formats.result;
  id = c.as_bytes-2.result;
  plural = c.match-plural.plural;
  forms = c.as_slice.result;
}) c.args.often.now c.args.faults.now.items c.add_faults.new.faults.items (record {
  line = c.form_line.ensures;
  flags = c.formats.ensures;
  id = c.as_bytes-2.ensures.value ∙ c.id.ensures;
  plural = elim c.match-plural.branch [
    | in-Some w ↦ rw w.plural-is (ap (λ text. Some text) w.as_bytes.ensures.value ∙ w.in-Some.ensures)
    | in-None w ↦ rw w.plural-is w.in-None.ensures
  ];
  forms = ap (map (λ form. form.now)) c.as_slice.ensures.value ∙ c.in_ok-forms.ensures;
}) c.add_faults.ensures
