use Rattle.std.proofs.Common.{◌≡◌, ◌+◌, ◌++◌, ◌∷◌, [], suc, ℕ, List, Option, refl, sym, ap, ◌∙◌, arith, below_more}
use Rattle.std.specs.Prelude.{option_map}
use Rattle.std.proofs.lemmas.List.{map-append}
use Rattle.mo_segments.specs.Machine.{value, value_text}
use Rattle.mo_segments.specs.Descriptors.{segment_values, texts_of}
use Rattle.mo_segments.proofs.segments.read_segments.Goals as goal

pub segments-preserved : goal.segments-preserved
segments-preserved g c =
    let number = g.T.ByteOrder.number_of in
    let before = segment_values number c.args.bytes.now c.args.table c.segments.i in
    let next : c.segments.i + 1 ≡ suc c.segments.i = omega arith in
    record {
      values = ap texts_of c.in_ok-push.ensures.items
          ∙ map-append (λ v. option_map value_text v) c.segments.values.items (c.value_of.result ∷ [])
          ∙ ap (λ (t : List (Option (List ℕ))). t ++ option_map value_text c.value_of.result ∷ [])
          c.segments.invariant.values
          ∙ ap (λ (v : Option (List ℕ)). before ++ v ∷ []) (c.value_of.ensures ∙ ap value c.name.ensures)
          ∙ ap (segment_values number c.args.bytes.now c.args.table) (sym next);
      each = below_more _ _ c.segments.invariant.each (c.if-not-is_segment.ensures.0 refl);
    }
