use Rattle.mo_tables.proofs.Kit.{◌≡◌, ◌≤◌, take, All, text_in, nuls}
use Rattle.std.specs.List.{filter_map}
use Rattle.mo_tables.specs.FileParts.{AreGaps}
use Rattle.mo_tables.specs.Rows.{single_translation}
use Rattle.mo_tables.proofs.strings.without_plural.Given as goal

abbrev pub invariant-rows : goal.invariant-rows
invariant-rows l = record {
  gaps : AreGaps l.bytes 0 l.offsets;
  once : All (λ row. nuls (text_in l.bytes row.original) ≤ 1) (take l.row-index l.rows);
  alone : l.singular.items ≡ filter_map (single_translation l.bytes) (take l.row-index l.rows);
}
