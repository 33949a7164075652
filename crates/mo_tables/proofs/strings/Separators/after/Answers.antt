use Rattle.mo_tables.proofs.Kit.{◌≡◌, min, ap, ◌∙◌, sym, arith, count_by, before_nul, part}
use Rattle.mo_tables.proofs.Cuts.{is}
use Rattle.mo_tables.proofs.GapLemmas.{key_part, count_key, count_nowhere}
use Rattle.mo_tables.proofs.strings.Separators.after.Goals as goal

pub returns-then-end-to : goal.returns-then-end-to
returns-then-end-to c = (
  record { none = c.searched-none.ensures.lacks; key = c.requires.known.key; offsets = c.requires.known.offsets },
  omega (
    arith,
    count_key 4 (part c.args.bytes.now c.args.start c.args.end),
    count_nowhere c.args.bytes.now 4 c.args.start c.args.end c.searched-none.result c.searched-none.ensures
        c.requires.part.0 c.requires.part.1 (omega (arith, c.if-end-to.true, c.to.ensures)),
  ),
)

pub returns-then-count-lt2 : goal.returns-then-count-lt2
returns-then-count-lt2 c =
    let bytes = c.args.bytes.now in
    let end : c.min-key_end.result ≡ min c.args.end c.searched-key.result.to =
    c.min-key_end.ensures ∙ ap (min c.args.end) c.to-2.ensures in
    let key : before_nul (part bytes c.args.start c.args.end) ≡ part bytes c.args.start c.min-key_end.result =
    key_part bytes c.args.start c.args.end c.searched-key.result c.searched-key.ensures c.requires.part.0
    c.requires.part.1
    ∙ ap (part bytes c.args.start) (sym end) in
    let counted = c.count.ensures bytes 4 c.args.start c.searched-offsets.ensures.counts (
      omega (arith, end, c.requires.part.0, c.searched-key.ensures.around.1),
      omega (arith, end, c.requires.part.1),
    ) in (
      record {
        none = c.searched-none.ensures.lacks;
        key = c.searched-key.ensures.lacks;
        offsets =
            c.searched-offsets.ensures.gaps;
      },
      omega (arith, ap (count_by (is 4)) key, counted, c.if-count-lt2.true),
    )

pub returns-else-count-lt2 : goal.returns-else-count-lt2
returns-else-count-lt2 c few =
    let bytes = c.args.bytes.now in
    let end : c.min-key_end.result ≡ min c.args.end c.searched-key.result.to =
    c.min-key_end.ensures ∙ ap (min c.args.end) c.to-2.ensures in
    let key : before_nul (part bytes c.args.start c.args.end) ≡ part bytes c.args.start c.min-key_end.result =
    key_part bytes c.args.start c.args.end c.searched-key.result c.searched-key.ensures c.requires.part.0
    c.requires.part.1
    ∙ ap (part bytes c.args.start) (sym end) in
    let counted = c.count.ensures bytes 4 c.args.start c.searched-offsets.ensures.counts (
      omega (arith, end, c.requires.part.0, c.searched-key.ensures.around.1),
      omega (arith, end, c.requires.part.1),
    ) in
    omega (arith, ap (count_by (is 4)) key, counted, few, c.if-count-lt2.false)
