use Rattle.std.proofs.Common.{arith, ◌∙◌}
use Rattle.mo_image.proofs.Writing.{part_lengths, file_written}
use Rattle.mo_image.proofs.writer.spell.Goals as goal

pub overflow_cast-n : goal.overflow_cast-n
overflow_cast-n g c = let h = part_lengths _ c.requires in omega arith

pub overflow_cast-originals : goal.overflow_cast-originals
overflow_cast-originals g c = let h = part_lengths _ c.requires in omega arith

pub overflow_cast-translations : goal.overflow_cast-translations
overflow_cast-translations g c = let h = part_lengths _ c.requires in omega arith

pub overflow_mul-first : goal.overflow_mul-first
overflow_mul-first g c = let h = part_lengths _ c.requires in omega arith

pub overflow_mul-first-2 : goal.overflow_mul-first-2
overflow_mul-first-2 g c = let h = part_lengths _ c.requires in omega arith

pub overflow_add-first : goal.overflow_add-first
overflow_add-first g c = let h = part_lengths _ c.requires in omega arith

pub overflow_add-first-2 : goal.overflow_add-first-2
overflow_add-first-2 g c = let h = part_lengths _ c.requires in omega arith

pub overflow_add-first-3 : goal.overflow_add-first-3
overflow_add-first-3 g c = let h = part_lengths _ c.requires in omega arith

pub overflow_cast-first : goal.overflow_cast-first
overflow_cast-first g c = let h = part_lengths _ c.requires in omega arith

pub overflow_add-first-4 : goal.overflow_add-first-4
overflow_add-first-4 g c = let h = part_lengths _ c.requires in omega arith

pub returns : goal.returns
returns g c = file_written _ _ _ _ _ _ _ _ _ c.count-n.ensures c.pool_len-originals.ensures
    (c.reserve_exact.ensures.items ∙ c.clear.ensures.items)
    c.in_ok-push_header.ensures c.in_ok-push_pairs.ensures c.in_ok-push_pairs-2.ensures c.in_ok-push_pool.ensures
    c.in_ok-push_pool-2.ensures
