use Rattle.po_text.proofs.Kit.{arith, ap, length}
use Rattle.po_text.specs.Lexing.{ReadsUnit}
use Rattle.po_text.proofs.UnitLemmas.{goes_run, goes_unit}
use Rattle.po_text.proofs.CleanLemmas.{keeps_run, keeps_unit}
use Rattle.po_text.proofs.units.read_units.Goals as goal

pub units-preserved-then-is_clean_byte : goal.units-preserved-then-is_clean_byte
units-preserved-then-is_clean_byte c = record {
  taken = goes_run _ _ _ _ _ _ _ c.units.invariant.taken c.clean_run.ensures.units
      c.in_ok-extend_from_slice.ensures.items;
  shorter = omega (arith, c.clean_run.ensures.shorter, c.units.invariant.shorter);
  clean = λ t. keeps_run _ c.units.rest.now _ c.units.out.items _ c.clean_run.result.0.now _
      (c.units.invariant.clean t) c.clean_run.ensures.parts c.clean_run.ensures.clean c.clean_run.ensures.stops
      c.in_ok-extend_from_slice.ensures.items;
}

pub units-preserved : goal.units-preserved
units-preserved c =
    let unit : ReadsUnit c.units.rest.now c.in_ok-value.value c.in_ok-value.behind.now
    = rw c.in-Some.ensures c.in_ok-value.ensures.ok in
    record {
      taken = goes_unit _ c.units.out.items c.push.new.self.items c.args.text.now c.units.rest.now
          c.in_ok-value.behind.now c.in_ok-value.value c.units.invariant.taken unit c.in_ok-push.ensures.items;
      shorter = omega (
        arith,
        c.in_ok-value.ensures.shorter,
        ap length c.in-Some.ensures,
        c.units.invariant.shorter,
      );
      clean = λ t.
          let (before, low, small) = c.stays_clean-is_clean.ensures t in
          keeps_unit _ c.units.rest.now _ c.units.out.items _ c.in_ok-value.behind.now c.in_ok-value.value
          (c.units.invariant.clean before) unit low small c.in_ok-push.ensures.items;
    }
