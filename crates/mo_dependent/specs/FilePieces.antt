-- Private: the parts of a file, as they are gathered before it is written.
use Rattle.std.specs.Prelude.{◌≡◌, ℕ, ◌≤◌, List, length, map}
use Rattle.std.specs.List.{AllByRecursion, sum_by}
use Rattle.mo_dependent.specs.Splits.{IsSplit, texts, text_pool}
use Rattle.mo_dependent.specs.Segments.{segments}
use Rattle.mo_dependent.specs.Layout.{descriptor_len, sizes_of, file_with, most_file, pool}
pub use Rattle.mo_dependent.specs.declared.writer.Parts.{Parts}

pub record AreParts (p : Parts) : Type 0 where
  pub splits : AllByRecursion IsSplit p.dependents.now
  pub names : map (λ n. n.now) p.names.now ≡ segments p.dependents.now
  pub name_pool : p.name_pool.now ≡ pool (segments p.dependents.now)
  pub text_pool : p.text_pool.now ≡ text_pool (texts p.dependents.now)
  pub sizes : p.sizes ≡ sizes_of p.statics.now p.dependents.now p.slots.now
  pub descriptors_len : p.descriptors_len ≡ sum_by descriptor_len (texts p.dependents.now)
  pub fits : length (file_with p.statics.now p.dependents.now p.slots.now) ≤ most_file

abbrev pub file_of_parts : Parts → List ℕ
file_of_parts p = file_with p.statics.now p.dependents.now p.slots.now
