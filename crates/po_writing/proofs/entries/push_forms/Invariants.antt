use Rattle.std.proofs.Common.{◌≡◌, ◌+◌, ◌++◌, length}
use Rattle.po_writing.specs.Written.{written_forms}
use Rattle.po_writing.proofs.entries.push_forms.Given as goal

abbrev pub invariant-forms : goal.invariant-forms
invariant-forms l = record {
  written : l.out.items ++ written_forms l.escape l.k l.forms ≡ l.fn.out.items ++ written_forms l.escape 0
      l.entry.forms;
  counted : l.k + length l.forms ≡ length l.entry.forms;
}

abbrev pub decreases-forms : goal.decreases-forms
decreases-forms l = length l.forms
