use Rattle.po_header.proofs.FieldLemmas.{blanks_boundary}
use Rattle.po_header.proofs.fields.trim_blanks.Goals as goal

pub range_from-requires : goal.range_from-requires
range_from-requires c some = rw (c.blanks_len.ensures, c.as_bytes.ensures.value)
    (blanks_boundary c.args.text.now c.utf8.text)
