use Rattle.mo_tables.proofs.Kit.{◌≡◌, ◌+◌, ◌-◌, ◌*◌, ◌<◌, ℕ, List, refl, sym, ap, ◌∙◌, subst, arith, IsUtf8, before_nul}
use Rattle.mo_tables.proofs.Kit.{HasNul, HasLawfulHeader, Span, part, KnowsSeparators, HasFewSeparators, string_at}
use Rattle.mo_tables.specs.FileParts.{IsPart}
use Rattle.mo_tables.proofs.Cuts.{front_utf8}
use Rattle.mo_tables.proofs.SoundRows.{IsSound, all_sound, one_sound, later_header, slice_is, text_at}
use Rattle.mo_tables.proofs.SoundRows.{has_nul_at, first_lies}
use Rattle.mo_tables.proofs.sound.are_sound.Goals as goal
use Rattle.mo_tables.proofs.sound.are_sound.Goals.{then-i-gt0+else-not-is_below, else-i-gt0+else-not-has_lawful_header}
use Rattle.mo_tables.proofs.sound.are_sound.Goals.{then-not-lacks+in-Some, else-not-lacks}

pub searched-separators-requires : goal.searched-separators-requires
searched-separators-requires g c =
    let number = g.T.ByteOrder.number_of in
    let some : 0 < c.args.n = omega (arith, c.if-n-eq0.false) in (
      omega (arith, c.max.ensures),
      omega (
        arith,
        c.max.ensures,
        c.word-first.ensures.value,
        c.word-second.ensures.value,
        first_lies number c.args.bytes.now c.args.originals c.args.n c.requires.originals some,
        first_lies number c.args.bytes.now c.args.translations c.args.n c.requires.translations some,
      ),
    )

pub has_lawful_header-requires : goal.has_lawful_header-requires
has_lawful_header-requires g c =
    let number = g.T.ByteOrder.number_of in
    let bytes = c.args.bytes.now in
    let span = c.read_span-translation.result in
    let same = slice_is number bytes (c.args.translations + 8 * c.loop-i.i) span c.start.result
    c.end.result c.read_span-translation.ensures c.start.ensures c.end.ensures in
    let there = text_at number bytes (c.args.translations + 8 * c.loop-i.i) span c.read_span-translation.ensures in
    front_utf8 0 _ (omega arith) (subst IsUtf8 (there ∙ sym same) (c.if-not-has-2.ensures refl).0)

pub loop-i-preserved : goal.loop-i-preserved
loop-i-preserved g c =
    let number = g.T.ByteOrder.number_of in
    let bytes = c.args.bytes.now in
    let i = c.loop-i.i in
    let o : List ℕ = string_at number bytes (c.args.originals + 8 * i) in
    let t : List ℕ = string_at number bytes (c.args.translations + 8 * i) in
    let o_is : part bytes c.start-start.result c.end-end.result ≡ o =
    slice_is number bytes (c.args.originals + 8 * i) c.read_span-original.result c.start-start.result
    c.end-end.result c.read_span-original.ensures c.start-start.ensures c.end-end.ensures in
    let t_is : part bytes c.start.result c.end.result ≡ t =
    slice_is number bytes (c.args.translations + 8 * i) c.read_span-translation.result c.start.result
    c.end.result c.read_span-translation.ensures c.start.ensures c.end.ensures in
    let o_utf8 : IsUtf8 o = subst IsUtf8 (text_at number bytes (c.args.originals + 8 * i) c.read_span-original.result
    c.read_span-original.ensures) (c.if-not-has.ensures refl).0 in
    let t_utf8 : IsUtf8 t = subst IsUtf8 (text_at number bytes
    (c.args.translations + 8 * i) c.read_span-translation.result
    c.read_span-translation.ensures) (c.if-not-has-2.ensures refl).0 in
    let found = rw (o_is, t_is) at c.in-Some-lawful_key.ensures in
    let lies = c.requires.originals.strings i c.loop-i-test.true in
    let is_part : IsPart bytes c.start-start.result c.end-end.result = (
      omega (arith, c.start-start.ensures, c.end-end.ensures),
      omega (arith, lies, c.end-end.ensures, ap (λ (s : Span). s.start + s.len) c.read_span-original.ensures),
    ) in
    let known : KnowsSeparators bytes c.if-not-lacks.separators × HasFewSeparators o = elim c.if-not-lacks.branch [
      | then-not-lacks+in-Some w ↦ rw w.separators-is
          (w.in-Some.ensures.0, subst HasFewSeparators o_is w.in-Some.ensures.1)
      | else-not-lacks w ↦ rw w.separators-is (
        c.loop-i.invariant.known,
        subst HasFewSeparators o_is (c.lacks.ensures bytes c.loop-i.invariant.known is_part w.if-not-lacks.false),
      )
    ] in
    let here : HasLawfulHeader o t → IsSound o t = λ header. record {
      original = record { utf8 = o_utf8; separators = known.1 };
      translation = record { utf8 = t_utf8 };
      forms = found.1;
      header = header;
    } in
    let shut : HasNul number bytes (c.args.originals + 8 * i) × HasNul number bytes
    (c.args.translations + 8 * i) = (
      has_nul_at number bytes (c.args.originals + 8 * i) c.read_span-original.result c.read_span-original.ensures
          (c.if-not-has.ensures refl).1,
      has_nul_at number bytes
          (c.args.translations + 8 * i) c.read_span-translation.result c.read_span-translation.ensures
          (c.if-not-has-2.ensures refl).1,
    ) in
    let last : i + 1 - 1 ≡ i = omega arith in
    record {
      known = known.0;
      sound = elim c.if-i-gt0.branch [
        | then-i-gt0+else-not-is_below w ↦
            let below = w.is_below.ensures.0 (w.if-not-is_below.false) in
            let key = rw (found.0, c.loop-i.invariant.key w.if-i-gt0.true) at below in
            one_sound number bytes c.args.originals c.args.translations i c.loop-i.invariant.sound shut
            (here (later_header _ o t key)) (λ some. key)
        | else-i-gt0+else-not-has_lawful_header w ↦
            let header = rw (o_is, t_is) at (w.has_lawful_header.ensures.0 w.if-not-has_lawful_header.false) in
            one_sound number bytes c.args.originals c.args.translations i c.loop-i.invariant.sound shut (here header)
            (λ some. absurd (omega (arith, some, w.if-i-gt0.false)))
      ];
      key = λ some. found.0 ∙ ap (λ k. before_nul (string_at number bytes (c.args.originals + 8 * k))) (sym last);
    }

pub returns : goal.returns
returns g c e = all_sound g.T.ByteOrder.number_of c.args.bytes.now c.args.originals c.args.translations c.args.n
    c.loop-i.i
    c.loop-i-test.false c.loop-i.invariant.sound
