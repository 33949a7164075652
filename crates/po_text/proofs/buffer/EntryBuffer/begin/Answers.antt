use Rattle.po_text.proofs.Kit.{[], None, refl, some_if}
use Rattle.po_text.proofs.Kept.{begun_lawful, is_kept}
use Rattle.po_text.proofs.buffer.EntryBuffer.begin.Goals as goal

pub invariant_of-self : goal.invariant_of-self
invariant_of-self c =
    let a = c.args in
    is_kept _ (record {
      line = a.line;
      form_line = 0;
      fuzzy = a.flags.fuzzy;
      c_format = a.flags.c_format;
      formats = a.flags.formats;
      context = some_if
          a.has_context [];
      id = [];
      plural = None;
      forms = [];
    })
    (rw (c.clear.ensures.items, c.clear-2.ensures.items, c.clear-4.ensures.items, c.clear-5.ensures.items) refl)
    (begun_lawful a.line a.flags a.has_context)
