use Rattle.std.proofs.lemmas.Str.{IsUtf8-append}
use Rattle.catalogue_drafts.proofs.pool.Pool.join.Goals as goal

pub from_utf8_unchecked-requires : goal.from_utf8_unchecked-requires
from_utf8_unchecked-requires c = rw (c.copy_from_slice.ensures.after, c.copy_from_slice-2.ensures.after)
    (IsUtf8-append _ _ c.as_bytes.ensures.utf8 c.as_bytes-2.ensures.utf8)
