use Rattle.std.proofs.Common.{◌≡◌, ◌+◌, ℕ, length, map, refl, sym, ap, ◌∙◌, subst, arith}
use Rattle.std.proofs.lemmas.List.{length-map}
use Rattle.mo_image.specs.Entry.{key}
use Rattle.mo_image.specs.MoFile.{pool}
use Rattle.mo_dependent.specs.Segments.{segments}
use Rattle.mo_dependent.specs.Hashing.{IsHashSize, IsHashTable}
use Rattle.mo_dependent.proofs.Primes.{more_slots, size_above_2}
use Rattle.mo_dependent.proofs.StaticStrings.{rows_lie, strings_lie}
use Rattle.mo_dependent.proofs.Writing.{length-dependent, too_long, are_parts, dependent_of}
use Rattle.mo_dependent.proofs.writer.write_dependent.Goals as goal

pub returns-then-dependents-clause-err : goal.returns-then-dependents-clause-err
returns-then-dependents-clause-err c = λ bytes f.
    omega (arith, length-dependent c.args.statics.now c.args.dependents.now bytes f)

pub returns-in_default-clause-err : goal.returns-in_default-clause-err
returns-in_default-clause-err c = λ bytes f.
    omega (arith, length-dependent c.args.statics.now c.args.dependents.now bytes f, c.in_default.ensures)

pub overflow_add-count : goal.overflow_add-count
overflow_add-count c = let h = rows_lie _ c.len-count.ensures.lawful in omega arith

pub hash_size-requires : goal.hash_size-requires
hash_size-requires c = let h = rows_lie _ c.len-count.ensures.lawful in omega arith

pub returns-in_default-hash_size-clause-err : goal.returns-in_default-hash_size-clause-err
returns-in_default-hash_size-clause-err c = λ bytes f.
    let m = c.args.statics.now in
    let messages = c.args.dependents.now in
    omega (
      arith,
      length-dependent m messages bytes f,
      c.in_default-hash_size.ensures (length f.slots)
          (subst (λ (n : ℕ). IsHashSize (n + length messages) (length f.slots)) (sym c.len-count.ensures.len) f.size),
    )

pub text_pool-requires-clause-small : goal.text_pool-requires-clause-small
text_pool-requires-clause-small c = omega arith

pub file_len-requires-clause-statics : goal.file_len-requires-clause-statics
file_len-requires-clause-statics c = let h = rows_lie _ c.len-count.ensures.lawful in omega arith

pub file_len-requires-clause-slots : goal.file_len-requires-clause-slots
file_len-requires-clause-slots c = c.in-Some-hash_size.ensures.1

pub file_len-requires-clause-dependents : goal.file_len-requires-clause-dependents
file_len-requires-clause-dependents c = omega arith

pub file_len-requires-clause-parts : goal.file_len-requires-clause-parts
file_len-requires-clause-parts c =
    let h = strings_lie c.args.statics.now in
    omega (arith, c.in-Some.ensures.1, ap length c.string_pool.ensures)

pub returns-in_default-file_len-clause-err : goal.returns-in_default-file_len-clause-err
returns-in_default-file_len-clause-err c = λ bytes f.
    let m = c.args.statics.now in
    let messages = c.args.dependents.now in
    let names = c.in_ok-names.names.items in
    let sized : IsHashSize (length m + length messages) c.in-Some-hash_size.size =
    subst (λ (n : ℕ). IsHashSize (n + length messages) c.in-Some-hash_size.size) c.len-count.ensures.len
    c.in-Some-hash_size.ensures.0 in
    let all_names : c.in_ok-name_pool.name_pool.items ≡ pool (segments messages) = c.in_ok-name_pool.ensures
    ∙ ap (λ ns. pool (map (λ n. n.now) ns)) c.as_slice.ensures.value ∙ ap pool c.in_ok-names.ensures in
    too_long m messages (map (λ n. n.now) names) (record {
      statics = c.len-count.result;
      slots = c.in-Some-hash_size.size;
      segments = c.len.result;
      dependents = length messages;
    }) c.in-Some.descriptors_len c.string_pool.result.now c.in_ok-name_pool.name_pool.items
    c.in_ok-text_pool.text_pool.items bytes f c.in_ok-names.ensures sized c.len-count.ensures.len
    (omega (arith, c.len.ensures, c.in_ok-names.names.ok, length-map names (λ n. n.now))) refl c.in-Some.ensures.0
    c.string_pool.ensures all_names
    c.in_ok-text_pool.ensures (omega (
      arith,
      c.in_default-file_len.ensures,
      c.len-2.ensures,
      c.in_ok-name_pool.name_pool.ok,
      c.len-3.ensures,
      c.in_ok-text_pool.text_pool.ok,
    ))

pub hash_table-requires-clause-some : goal.hash_table-requires-clause-some
hash_table-requires-clause-some c = size_above_2 _ _ c.in-Some-hash_size.ensures.0

pub hash_table-requires-clause-small : goal.hash_table-requires-clause-small
hash_table-requires-clause-small c = omega (arith, c.in-Some-hash_size.ensures.1)

pub hash_table-requires-clause-prime : goal.hash_table-requires-clause-prime
hash_table-requires-clause-prime c = c.in-Some-hash_size.ensures.0.prime

pub hash_table-requires-clause-room : goal.hash_table-requires-clause-room
hash_table-requires-clause-room c = omega (arith, more_slots _ _ c.in-Some-hash_size.ensures.0, c.len-count.ensures.len)

pub filled-requires : goal.filled-requires
filled-requires c =
    let all_names : c.in_ok-name_pool.name_pool.items ≡ pool (segments c.args.dependents.now)
    = c.in_ok-name_pool.ensures
    ∙ ap (λ ns. pool (map (λ n. n.now) ns)) c.as_slice.ensures.value ∙ ap pool c.in_ok-names.ensures in
    are_parts _ c.requires (ap (map (λ n. n.now)) c.as_slice-2.ensures.value ∙ c.in_ok-names.ensures)
    (c.as_slice-4.ensures.value ∙ all_names) (c.as_slice-5.ensures.value ∙ c.in_ok-text_pool.ensures)
    c.in-Some.ensures.0 c.len-count.ensures.len
    (sym (ap length c.as_slice-3.ensures.value ∙ c.in_ok-slots.ensures.len))
    (omega (arith, c.len.ensures, c.in_ok-names.names.ok, ap length c.as_slice-2.ensures.value)) refl
    c.string_pool.result.now c.string_pool.ensures
    c.in-Some-file_len.len
    (omega (
      arith,
      c.in-Some-file_len.ensures.0,
      c.len-2.ensures,
      c.in_ok-name_pool.name_pool.ok,
      c.len-3.ensures,
      c.in_ok-text_pool.text_pool.ok,
      ap length c.as_slice-4.ensures.value,
      ap length c.as_slice-5.ensures.value,
    )) c.in-Some-file_len.ensures.1

pub returns-clause-file : goal.returns-clause-file
returns-clause-file c =
    let m = c.args.statics.now in
    let messages = c.args.dependents.now in
    let slots = c.as_slice-3.result.now in
    let size = c.in-Some-hash_size.size in
    dependent_of m messages slots _ size
    (subst (λ (n : ℕ). IsHashSize (n + length messages) size) c.len-count.ensures.len c.in-Some-hash_size.ensures.0)
    (subst (IsHashTable size (map key m)) (sym c.as_slice-3.ensures.value) c.in_ok-slots.ensures.table)
    (ap length c.as_slice-3.ensures.value ∙ c.in_ok-slots.ensures.len) c.in_ok-filled.ensures.file
