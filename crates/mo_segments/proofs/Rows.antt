-- One more row of a descriptor.
use Rattle.std.proofs.Common.{◌≡◌, ℕ, suc, ◌+◌, ◌<◌, Bool, false, List, ◌++◌, length, get_or, Option, Some, None}
use Rattle.std.proofs.Common.{sym, ap, ◌∙◌, arith, below_more}
use Rattle.std.specs.Prelude.{IsTrue, ◌↔◌, slice_get, option_map}
use Rattle.std.proofs.lemmas.Bool.{false≢true}
use Rattle.std.proofs.lemmas.List.{get_or_default, length-map}
use Rattle.mo_image.proofs.Lists.{image_at}
use Rattle.mo_segments.specs.Machine.{value_text}
use Rattle.mo_segments.specs.declared.machine.Value.{Value}
use Rattle.mo_segments.specs.Descriptors.{Descriptor, GoesOn, Knows, RowLies, PieceLies, piece_start, piece_len, piece}
use Rattle.mo_segments.specs.Descriptors.{text_to, known_text, segment_after, no_segment, texts_of}

-- the value that was read of a segment
pub value_at : (values : List (Option Value)) (i : ℕ) (v : Option Value) → i < length values
    → get_or values i None ≡ v → slice_get (texts_of values) i ≡ Some (option_map value_text v)
value_at values i v lt is =
    let same = length-map values (λ (w : Option Value). option_map value_text w) in
    let long : i < length (texts_of values) = omega (arith, lt, same) in
    image_at (λ (w : Option Value). option_map value_text w) values i v long
    (sym is ∙ get_or_default values i None v lt)

module _ (d : Descriptor) (k : ℕ) where
  next : k + 1 ≡ suc k
  next = omega arith

  pub goes_on_more : GoesOn d k → RowLies d k → PieceLies d k → segment_after d k < length d.values
      → (segment_after d k ≡ no_segment → ⊥) → GoesOn d (k + 1)
  goes_on_more before row piece segment more = record {
    rows = below_more _ _ before.rows row;
    pieces = below_more _ _ before.pieces piece;
    segments = below_more _ _ before.segments segment;
    more = below_more _ _ before.more more;
  }

  pub text_more : (b p a : List ℕ) → b ≡ text_to d k → p ≡ piece d k
      → a ≡ known_text (slice_get d.values (segment_after d k)) → (b ++ p) ++ a ≡ text_to d (k + 1)
  text_more b p a eb ep ea =
      ap (λ (x : List ℕ). (x ++ p) ++ a) eb ∙ ap (λ (x : List ℕ). (text_to d k ++ x) ++ a) ep
      ∙ ap (λ (x : List ℕ). (text_to d k ++ piece d k) ++ x) ea ∙ ap (text_to d) (sym next)

  pub start_more : (start len : ℕ) → start ≡ piece_start d k → len ≡ piece_len d k → start + len
      ≡ piece_start d (k + 1)
  start_more start len es el =
      ap (λ (n : ℕ). n + len) es ∙ ap (λ (n : ℕ). piece_start d k + n) el ∙ ap (piece_start d) (sym next)

  pub knows_more : (known : Bool) (t : List ℕ) → (IsTrue known ↔ Knows d k)
      → slice_get d.values (segment_after d k) ≡ Some (Some t) → IsTrue known ↔ Knows d (k + 1)
  knows_more known t test found = (
    λ yes. below_more _ _ (test.0 yes) (λ e. absurd (cc (e, found))),
    λ all. test.1 (λ j lt. all j (omega arith)),
  )

  pub knows_no_more : slice_get d.values (segment_after d k) ≡ Some None → IsTrue false ↔ Knows d (k + 1)
  knows_no_more found = (
    λ yes. absurd (false≢true yes),
    λ all. absurd (all k (omega arith) found),
  )
