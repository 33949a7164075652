use Rattle.mo_image.proofs.Kit.{ℕ, ◌≡◌, ◌+◌, ◌*◌, length, drop, subst, arith, ap, ◌∙◌, little_number, offset_of}
use Rattle.mo_image.proofs.Kit.{IsNamedAt, word_at}
use Rattle.std.proofs.lemmas.List.{length-take}
use Rattle.mo_image.specs.Image.{listing}
use Rattle.mo_image.proofs.ImageFacts.{entry_facts, entry_room, image_small, string_small}
use Rattle.mo_image.proofs.image.texts_of.Goals as goal

pub overflow_mul-originals : goal.overflow_mul-originals
overflow_mul-originals c = omega (arith, entry_room c.args.bytes.now c.args.i c.requires.image c.requires.within)

pub overflow_add-originals : goal.overflow_add-originals
overflow_add-originals c = omega (arith, entry_room c.args.bytes.now c.args.i c.requires.image c.requires.within)

pub overflow_mul-translations : goal.overflow_mul-translations
overflow_mul-translations c = omega (
  arith,
  c.count_of.ensures,
  entry_room c.args.bytes.now c.args.i c.requires.image
      c.requires.within,
)

pub overflow_add-translations : goal.overflow_add-translations
overflow_add-translations c = omega (
  arith,
  c.count_of.ensures,
  entry_room c.args.bytes.now c.args.i c.requires.image
      c.requires.within,
)

pub extent_at-requires : goal.extent_at-requires
extent_at-requires c = omega (
  arith,
  (entry_facts c.args.bytes.now c.args.i c.requires.image
      c.requires.within).original.row,
)

pub extent_at-requires-2 : goal.extent_at-requires-2
extent_at-requires-2 c = omega (
  arith,
  c.count_of.ensures,
  (entry_facts c.args.bytes.now c.args.i c.requires.image
      c.requires.within).small,
)

pub returns-clause-texts : goal.returns-clause-texts
returns-clause-texts c =
    let bytes = c.args.bytes.now in
    let n = length (listing bytes) in
    let i = c.args.i in
    let extent = c.extent_at-2 in
    let offset : 28 + 8 * i + 8 * c.count_of.result ≡ 28 + 8 * n + 8 * i = omega (arith, c.count_of.ensures) in
    record {
      within = c.requires.within;
      original = c.extent_at.ensures;
      translation = subst (λ (p : ℕ). IsNamedAt bytes p extent.result) offset extent.ensures;
      key_len = c.key_len.ensures.offset ∙ ap (offset_of 0) c.text.ensures;
    }

pub text-requires : goal.text-requires
text-requires c = (entry_facts c.args.bytes.now c.args.i c.requires.image c.requires.within).original

pub key_len-requires : goal.key_len-requires
key_len-requires c = rw c.text.ensures (string_small c.args.bytes.now (28 + 8 * c.args.i)
    (entry_facts c.args.bytes.now c.args.i c.requires.image c.requires.within).original
    (image_small c.args.bytes.now c.requires.image))

pub returns-clause-key : goal.returns-clause-key
returns-clause-key c =
    let bytes = c.args.bytes.now in
    let offset = 28 + 8 * c.args.i in
    omega (
      arith,
      c.key_len.ensures.within,
      ap length c.text.ensures,
      length-take (word_at little_number bytes offset) (drop (word_at little_number bytes (offset + 4)) bytes),
      c.extent_at.ensures.len,
    )
