use Rattle.po_text.proofs.Kit.{◌≡◌, ℕ, ◌≤◌, true, List, ◌∷◌, length, ap, get_or, arith, prefix_len, prefix_len_passes}
use Rattle.po_text.proofs.Kit.{prefix_len-le-length, length-drop}
use Rattle.po_text.specs.Clean.{is_clean}
use Rattle.po_text.proofs.UnitLemmas.{cut_plain}
use Rattle.po_text.proofs.CleanLemmas.{clean_front, clean_plain, stops_behind}
use Rattle.po_text.proofs.units.clean_run.Goals as goal

pub split_at-requires : goal.split_at-requires
split_at-requires c = omega (arith, c.clean_len.ensures, prefix_len-le-length is_clean c.args.text.now)

pub returns-clause-units : goal.returns-clause-units
returns-clause-units c =
    cut_plain c.args.text.now c.split_at.result.0.now c.split_at.result.1.now c.clean_len.result
    c.split_at.ensures.front c.split_at.ensures.back
    (omega (arith, c.clean_len.ensures, prefix_len-le-length is_clean c.args.text.now))
    (λ i lt. clean_plain (get_or c.args.text.now i 0)
    (prefix_len_passes is_clean c.args.text.now i 0 (omega (arith, lt, c.clean_len.ensures))))

pub returns-clause-clean : goal.returns-clause-clean
returns-clause-clean c = rw (c.split_at.ensures.front, c.clean_len.ensures) (clean_front c.args.text.now)

pub returns-clause-stops : goal.returns-clause-stops
returns-clause-stops c = rw (c.split_at.ensures.back, c.clean_len.ensures) (stops_behind c.args.text.now)

starts : (byte : ℕ) (later : List ℕ) → is_clean byte ≡ true → 1 ≤ prefix_len is_clean (byte ∷ later)
starts byte later clean = rw clean (omega arith)

pub returns-clause-some : goal.returns-clause-some
returns-clause-some c byte later is clean =
    let first : 1 ≤ prefix_len is_clean c.args.text.now = rw is (starts byte later clean) in
    omega (
      arith,
      first,
      c.clean_len.ensures,
      ap length c.split_at.ensures.back,
      length-drop c.clean_len.result c.args.text.now,
      prefix_len-le-length is_clean c.args.text.now,
    )
