-- A text with one more segment in its place.
use Rattle.std.proofs.Common.{◌≡◌, ℕ, ◌+◌, ◌-◌, ◌<◌, ◌≤◌, List, ◌∷◌, ◌++◌, length, take, drop, get_or, Some, None}
use Rattle.std.proofs.Common.{refl, sym, ap, subst, ◌∙◌}
use Rattle.std.specs.Prelude.{Option, option_map}
use Rattle.std.proofs.lemmas.List.{append_assoc, drop_more}
use Rattle.mo_segments.specs.Machine.{value, value_text}
use Rattle.mo_segments.specs.declared.machine.Value.{Value}
use Rattle.mo_dependent.specs.Splits.{end_of, name_at, LieFrom}
use Rattle.mo_dependent.proofs.Steps.{lies_to}
use Rattle.dependent_files.specs.MessagesHere.{joined_text, expanded_from, Split}

behind : (out piece own : List ℕ) (rest : Option (List ℕ))
    → option_map (λ r. ((out ++ piece) ++ own) ++ r) rest
    ≡ option_map (λ r. out ++ r) (joined_text piece (Some own) rest)
behind out piece own None = refl
behind out piece own (Some rest) = ap Some (
    append_assoc (out ++ piece) own rest ∙ append_assoc out piece (own ++ rest)
    ∙ ap (λ (l : List ℕ). out ++ l) (sym (append_assoc piece own rest)))

module _ (ss : List Split) (i : ℕ) (s : Split) (lt : i < length ss) (is : s ≡ get_or ss i s) where
  left : drop i ss ≡ s ∷ drop (i + 1) ss
  left = drop_more ss i s lt ∙ ap (λ (t : Split). t ∷ drop (i + 1) ss) (sym is)

  pub lies_next : (text : List ℕ) (from : ℕ) → LieFrom text from (drop i ss)
      → (from ≤ s.start) × (0 < s.len) × LieFrom text (end_of s) (drop (i + 1) ss)
  lies_next text from lies = subst (LieFrom text from) left lies

  pub lies_within : (text : List ℕ) (from : ℕ) → LieFrom text from (drop i ss) → end_of s ≤ length text
  lies_within text from lies = lies_to text (end_of s) (drop (i + 1) ss) (lies_next text from lies).2

  split_off : (text out : List ℕ) (from : ℕ) (whole : Option (List ℕ))
      → option_map (λ r. out ++ r) (expanded_from text from (drop i ss)) ≡ whole
      → option_map (λ r. out ++ r) (joined_text (take (s.start - from) (drop from text)) (value (name_at text s))
      (expanded_from text (end_of s) (drop (i + 1) ss))) ≡ whole
  split_off text out from whole told =
      ap (λ (l : List Split). option_map (λ r. out ++ r) (expanded_from text from l)) (sym left) ∙ told

  pub next : (text out after : List ℕ) (from : ℕ) (whole : Option (List ℕ)) (v : Value)
      → option_map (λ r. out ++ r) (expanded_from text from (drop i ss)) ≡ whole
      → Some (value_text v) ≡ value (name_at text s)
      → after ≡ (out ++ take (s.start - from) (drop from text)) ++ value_text v
      → option_map (λ r. after ++ r) (expanded_from text (end_of s) (drop (i + 1) ss)) ≡ whole
  next text out after from whole v told known e =
      let piece = take (s.start - from) (drop from text) in
      let rest = expanded_from text (end_of s) (drop (i + 1) ss) in
      rw e (behind out piece (value_text v) rest)
      ∙ ap (λ (o : Option (List ℕ)). option_map (λ r. out ++ r) (joined_text piece o rest)) known
      ∙ split_off text out from whole told

  pub unknown : (text out : List ℕ) (from : ℕ) (whole : Option (List ℕ))
      → option_map (λ r. out ++ r) (expanded_from text from (drop i ss)) ≡ whole
      → None ≡ value (name_at text s) → None ≡ whole
  unknown text out from whole told none =
      ap (λ (o : Option (List ℕ)). option_map (λ r. out ++ r) (joined_text (take (s.start - from) (drop from text)) o
      (expanded_from text (end_of s) (drop (i + 1) ss)))) none
      ∙ split_off text out from whole told
