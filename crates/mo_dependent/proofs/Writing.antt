-- The file, written part by part, and its length.
use Rattle.std.proofs.Common.{◌≡◌, ℕ, ◌+◌, ◌*◌, ◌≤◌, List, ◌++◌, Bool, length, map, sym, ap, ◌∙◌, subst}
use Rattle.std.proofs.Common.{arith, append_assoc, ◌<◌}
use Rattle.std.specs.Prelude.{codes, nat_lt}
use Rattle.std.proofs.lemmas.List.{length-map}
use Rattle.std.specs.List.{AllByRecursion, flat_map, sum_by}
use Rattle.mo_image.specs.Entry.{Entry, key}
use Rattle.mo_image.specs.MoFile.{most_file, word, pairs, pool}
use Rattle.mo_dependent.specs.Splits.{IsSplit, texts, text_pool, Dependent}
use Rattle.mo_dependent.specs.Segments.{index_of, segments, segment_rows}
use Rattle.mo_dependent.specs.Hashing.{IsHashSize, IsHashTable}
use Rattle.mo_dependent.specs.Layout.{header, descriptor_len, pointers, descriptors, strings, sizes_of, file_with}
use Rattle.mo_dependent.specs.Layout.{has_flag, strings_at, names_at, texts_at, descriptors_at, IsDependentFile, Sizes}
use Rattle.mo_dependent.specs.FilePieces.{AreParts, Parts}
use Rattle.mo_dependent.proofs.Lengths.{length-file}
use Rattle.mo_dependent.proofs.Primes.{one_size}

-- the parts, each behind what is written already
pub file_written : (m : List Entry) (messages : List Dependent) (slots : List ℕ) (sizes : Sizes) (flag : Bool)
    (names : List (List ℕ)) (descriptors_from strings_from names_from texts_from : ℕ) (strings_pool names_pool
    texts_pool v0 v1 v2 v3 v4 v5 v6 v7 v8 v9 : List ℕ)
    → sizes ≡ sizes_of m messages slots → flag ≡ has_flag (segments messages) → names ≡ segments messages
    → descriptors_from ≡ descriptors_at (sizes_of m messages slots) → strings_from ≡ strings_at m messages slots
    → names_from ≡ names_at m messages slots → texts_from ≡ texts_at m messages slots
    → strings_pool ≡ pool (strings m) → names_pool ≡ pool (segments messages)
    → texts_pool ≡ text_pool (texts messages)
    → v1 ≡ v0 ++ header sizes flag → v2 ≡ v1 ++ pairs strings_from (strings m) → v3 ≡ v2 ++ flat_map word slots
    → v4 ≡ v3 ++ segment_rows names_from names → v5 ≡ v4 ++ pointers descriptors_from (texts messages)
    → v6 ≡ v5 ++ descriptors names texts_from (texts messages) → v7 ≡ v6 ++ strings_pool → v8 ≡ v7 ++ names_pool
    → v9 ≡ v8 ++ texts_pool → v9 ≡ v0 ++ file_with m messages slots
file_written m messages slots sizes flag names df sf nf tf sp np tp v0 v1 v2 v3 v4 v5 v6 v7 v8 v9 es ef en ed ea eb ec
    esp enp etp e1 e2 e3 e4 e5 e6 e7 e8 e9 =
    rw (e9, e8, e7, e6, e5, e4, e3, e2, e1, etp, enp, esp, ec, eb, ea, ed, en, ef, es) (simp append_assoc)

-- the length of each file of these messages
pub length-dependent : (m : List Entry) (messages : List Dependent) (bytes : List ℕ)
    → (f : IsDependentFile m messages bytes) → length bytes
    ≡ 48 + 16 * length m + 4 * length f.slots + 8 * length (segments messages) + 8 * length messages
    + sum_by descriptor_len (texts messages) + length (pool (strings m)) + length (pool (segments messages))
    + length (text_pool (texts messages))
length-dependent m messages bytes f = ap length f.spelt ∙ length-file m messages f.slots

-- where the static strings begin, by the sizes, and the lengths of the parts together, which are at most the limit
pub part_lengths : (p : Parts) → AreParts p → (descriptors_at p.sizes ≡ 48 + 16 * length p.statics.now
    + 4 * length p.slots.now + 8 * length (segments p.dependents.now) + 8 * length p.dependents.now)
    × (descriptors_at p.sizes + p.descriptors_len + length (pool (strings p.statics.now)) + length p.name_pool.now
    + length p.text_pool.now ≤ 268435456)
part_lengths p are =
    let sizes = ap descriptors_at are.sizes in
    let whole = length-file p.statics.now p.dependents.now p.slots.now in
    (sizes, omega (arith, are.fits, are.descriptors_len, ap length are.name_pool, ap length are.text_pool))

pub part_flag : (p : Parts) (k : ℕ) → AreParts p → k ≡ index_of (map (λ n. n.now) p.names.now) (codes "I")
    → nat_lt k (length p.names.now) ≡ has_flag (segments p.dependents.now)
part_flag p k are is =
    let len : length p.names.now ≡ length (segments p.dependents.now) = sym (length-map p.names.now (λ n. n.now))
    ∙ ap length are.names in
    ap (λ (j : ℕ). nat_lt j (length p.names.now)) (is ∙ ap (λ (ns : List (List ℕ)). index_of ns (codes "I")) are.names)
    ∙ ap (nat_lt (index_of (segments p.dependents.now) (codes "I"))) len

abbrev sizes : ℕ → ℕ → ℕ → ℕ → Sizes
sizes a b c d = record { statics = a; slots = b; segments = c; dependents = d }

same_sizes : (a b c d e f g h : ℕ) → a ≡ e → b ≡ f → c ≡ g → d ≡ h → sizes a b c d ≡ sizes e f g h
same_sizes a b c d e f g h ae bf cg dh = ap (λ x. sizes x b c d) ae ∙ ap (λ x. sizes e x c d) bf
    ∙ ap (λ x. sizes e f x d) cg ∙ ap (sizes e f g) dh

-- what is gathered are the parts of a file
pub are_parts : (p : Parts) → AllByRecursion IsSplit p.dependents.now
    → map (λ n. n.now) p.names.now ≡ segments p.dependents.now
    → p.name_pool.now ≡ pool (segments p.dependents.now)
    → p.text_pool.now ≡ text_pool (texts p.dependents.now)
    → p.descriptors_len ≡ sum_by descriptor_len (texts p.dependents.now)
    → p.sizes.statics ≡ length p.statics.now → p.sizes.slots ≡ length p.slots.now
    → p.sizes.segments ≡ length p.names.now → p.sizes.dependents ≡ length p.dependents.now
    → (static_pool : List ℕ) → static_pool ≡ pool (strings p.statics.now) → (n : ℕ)
    → n ≡ descriptors_at p.sizes + (p.descriptors_len + length static_pool) + length p.name_pool.now
    + length p.text_pool.now → n ≤ most_file → AreParts p
are_parts p splits names names_pool texts_pool lens statics slots segs dependents ss all n total small =
    let segments_len : p.sizes.segments ≡ length (segments p.dependents.now) = segs
    ∙ sym (length-map p.names.now (λ n. n.now)) ∙ ap length names in
    record {
      splits = splits;
      names = names;
      name_pool = names_pool;
      text_pool = texts_pool;
      sizes = same_sizes p.sizes.statics p.sizes.slots p.sizes.segments p.sizes.dependents (length p.statics.now)
          (length p.slots.now) (length (segments p.dependents.now)) (length p.dependents.now) statics slots segments_len
          dependents;
      descriptors_len = lens;
      fits = omega (
        arith,
        length-file p.statics.now p.dependents.now p.slots.now,
        statics,
        slots,
        segments_len,
        dependents,
        lens,
        ap length all,
        ap length names_pool,
        ap length texts_pool,
        total,
        small,
      );
    }

-- what is gathered makes no file
pub too_long : (m : List Entry) (messages : List Dependent) (names : List (List ℕ)) (s : Sizes)
    (lens : ℕ) (strings_pool names_pool texts_pool bytes : List ℕ)
    → (f : IsDependentFile m messages bytes) → names ≡ segments messages
    → IsHashSize (length m + length messages) s.slots → s.statics ≡ length m → s.segments ≡ length names
    → s.dependents ≡ length messages → lens ≡ sum_by descriptor_len (texts messages)
    → strings_pool ≡ pool (strings m) → names_pool ≡ pool (segments messages)
    → texts_pool ≡ text_pool (texts messages)
    → most_file < descriptors_at s + (lens + length strings_pool) + length names_pool + length texts_pool
    → most_file < length bytes
too_long m messages names s lens sp np tp bytes f en sized statics segs dependents el esp enp etp large =
    omega (
      arith,
      length-dependent m messages bytes f,
      one_size (length m + length messages) (length f.slots) s.slots f.size sized,
      statics,
      segs,
      dependents,
      ap length en,
      el,
      ap length esp,
      ap length enp,
      ap length etp,
      large,
    )

-- a file of these slots
pub dependent_of : (m : List Entry) (messages : List Dependent) (slots bytes : List ℕ) (size : ℕ)
    → IsHashSize (length m + length messages) size → IsHashTable size (map key m) slots → length slots ≡ size
    → bytes ≡ file_with m messages slots → IsDependentFile m messages bytes
dependent_of m messages slots bytes size sized table len written = record {
  slots = slots;
  size = subst (IsHashSize (length m + length messages)) (sym len) sized;
  table = subst (λ n. IsHashTable n (map key m) slots) (sym len) table;
  spelt = written;
}
