use Rattle.mo_tables.proofs.Kit.{◌≤◌, ℕ, List, [], ◌∷◌, ◌++◌, ◌∙◌, get_or, ap, sym, arith, All-more, Row, text_in, nuls}
use Rattle.mo_tables.proofs.RowSweeps.{one_more, no_more}
use Rattle.mo_tables.proofs.strings.without_plural.Goals as goal
use Rattle.mo_tables.proofs.strings.without_plural.Goals.{then-count-eq0+in_ok-push, else-count-eq0}

abbrev OnceIn : List ℕ → Row → Type 0
OnceIn bytes row = nuls (text_in bytes row.original) ≤ 1

abbrev nowhere : Row
nowhere = record { original = record { start = 0; len = 0 }; translation = record { start = 0; len = 0 } }

pub returns-then-count-eq2 : goal.returns-then-count-eq2
returns-then-count-eq2 c all =
    let lies = c.requires c.rows.row-index nowhere c.rows-test.true in
    let counted = rw (c.start.ensures, c.end-end.ensures) at (c.count-count.ensures c.args.bytes.now 0 c.start.result
    c.searched-offsets.ensures.counts (
      omega (arith, c.start.ensures, c.end-end.ensures),
      omega
          (arith, c.end-end.ensures, lies),
    )) in
    omega (arith, counted, c.if-count-eq2.true, all c.rows.row-index nowhere c.rows-test.true)

pub rows-preserved : goal.rows-preserved
rows-preserved c =
    let lies = c.requires c.rows.row-index nowhere c.rows-test.true in
    let counted = rw (c.start.ensures, c.end-end.ensures) at (c.count-count.ensures c.args.bytes.now 0 c.start.result
    c.searched-offsets.ensures.counts (
      omega (arith, c.start.ensures, c.end-end.ensures),
      omega
          (arith, c.end-end.ensures, lies),
    )) in
    record {
      gaps = c.searched-offsets.ensures.gaps;
      once = All-more (OnceIn c.args.bytes.now) c.args.rows.now c.rows.row-index nowhere c.rows-test.true
          c.rows.invariant.once
          (omega (arith, counted, c.if-count-eq2.false));
      alone = elim c.if-count-eq0.branch [
        | then-count-eq0+in_ok-push w ↦ rw w.singular-is (w.in_ok-push.ensures.items
            ∙ ap (λ l. l ++ (get_or c.args.rows.now c.rows.row-index nowhere).translation ∷ []) c.rows.invariant.alone
            ∙ sym (one_more c.args.bytes.now c.args.rows.now c.rows.row-index nowhere c.rows-test.true
            (omega (arith, counted, w.if-count-eq0.true))))
        | else-count-eq0 w ↦ rw w.singular-is (c.rows.invariant.alone ∙ sym (no_more c.args.bytes.now c.args.rows.now
            c.rows.row-index nowhere c.rows-test.true (omega (arith, counted, w.if-count-eq0.false))))
      ];
    }
