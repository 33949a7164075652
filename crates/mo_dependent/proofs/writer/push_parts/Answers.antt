use Rattle.std.proofs.Common.{◌≡◌, ◌+◌, List, ℕ, length, map, ap, ◌∙◌, arith}
use Rattle.std.specs.Prelude.{nat_lt}
use Rattle.std.proofs.lemmas.List.{length-map}
use Rattle.mo_dependent.specs.Layout.{descriptors_at, strings_at, names_at, texts_at, pool}
use Rattle.mo_dependent.proofs.Writing.{part_lengths, part_flag, file_written}
use Rattle.mo_dependent.proofs.writer.push_parts.Goals as goal

pub descriptors_at-descriptors_at-requires : goal.descriptors_at-descriptors_at-requires
descriptors_at-descriptors_at-requires c = let h = part_lengths _ c.requires in omega arith

pub overflow_add-strings_at : goal.overflow_add-strings_at
overflow_add-strings_at c = let h = part_lengths _ c.requires in omega arith

pub overflow_add-names_at : goal.overflow_add-names_at
overflow_add-names_at c = let h = part_lengths _ c.requires in omega (arith, ap length c.string_pool-strings.ensures)

pub overflow_add-texts_at : goal.overflow_add-texts_at
overflow_add-texts_at c = let h = part_lengths _ c.requires in omega (arith, ap length c.string_pool-strings.ensures)

pub push_header-requires : goal.push_header-requires
push_header-requires c = let h = part_lengths _ c.requires in omega arith

pub push_strings-requires : goal.push_strings-requires
push_strings-requires c = let h = part_lengths _ c.requires in omega arith

pub push_segments-requires : goal.push_segments-requires
push_segments-requires c =
    let h = part_lengths _ c.requires in
    let names = ap pool c.requires.names in
    omega (arith, ap length c.string_pool-strings.ensures, ap length names, ap length c.requires.name_pool)

pub push_pointers-requires-clause-small : goal.push_pointers-requires-clause-small
push_pointers-requires-clause-small c = let h = part_lengths _ c.requires in omega arith

pub push_pointers-requires-clause-fits : goal.push_pointers-requires-clause-fits
push_pointers-requires-clause-fits c = let h = part_lengths _ c.requires in omega arith

pub push_descriptors-requires-clause-splits : goal.push_descriptors-requires-clause-splits
push_descriptors-requires-clause-splits c = c.requires.splits

pub push_descriptors-requires-clause-small : goal.push_descriptors-requires-clause-small
push_descriptors-requires-clause-small c = let h = part_lengths _ c.requires in omega arith

pub push_descriptors-requires-clause-names : goal.push_descriptors-requires-clause-names
push_descriptors-requires-clause-names c =
    let h = part_lengths _ c.requires in
    omega (arith, length-map c.args.parts.now.names.now (λ n. n.now), ap length c.requires.names)

pub push_descriptors-requires-clause-fits : goal.push_descriptors-requires-clause-fits
push_descriptors-requires-clause-fits c =
    let h = part_lengths _ c.requires in
    omega (arith, ap length c.string_pool-strings.ensures, ap length c.requires.text_pool)

pub returns : goal.returns
returns c =
    let p = c.args.parts.now in
    let m = p.statics.now in
    let messages = p.dependents.now in
    let slots = p.slots.now in
    let at = c.descriptors_at-descriptors_at.result in
    let strings_from = at + p.descriptors_len in
    let names_from = strings_from + length c.string_pool-strings.result.now in
    let texts_from = names_from + length p.name_pool.now in
    let sized = part_lengths p c.requires in
    let here : strings_from ≡ strings_at m messages slots = omega arith in
    let next : names_from ≡ names_at m messages slots = omega (arith, here, ap length c.string_pool-strings.ensures) in
    let last : texts_from ≡ texts_at m messages slots = omega (arith, next, ap length c.requires.name_pool) in
    file_written m messages slots p.sizes (nat_lt c.index_of.result (length p.names.now)) (map (λ n. n.now) p.names.now)
    at strings_from names_from texts_from c.string_pool-strings.result.now p.name_pool.now p.text_pool.now
    _ _ _ _ _ _ _ _ _ _
    c.requires.sizes (part_flag p c.index_of.result c.requires c.index_of.ensures.index) c.requires.names
    (c.descriptors_at-descriptors_at.ensures ∙ ap descriptors_at c.requires.sizes) here next last
    c.string_pool-strings.ensures c.requires.name_pool
    c.requires.text_pool c.in_ok-push_header.ensures c.in_ok-push_strings.ensures c.in_ok-push_slots.ensures
    c.in_ok-push_segments.ensures c.in_ok-push_pointers.ensures c.in_ok-push_descriptors.ensures
    c.in_ok-extend_from_slice.ensures.items c.in_ok-extend_from_slice-2.ensures.items
    c.in_ok-extend_from_slice-3.ensures.items
