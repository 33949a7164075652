-- Private: forms that are added to a translation, with their splits.
use Rattle.std.specs.Prelude.{◌≡◌, ℕ, ◌-◌, Bool, true, false, if◌then◌else◌, List, ◌∷◌, ◌++◌, length, map, string_bytes}
use Rattle.std.specs.List.{join_with_byte}
use Rattle.c_macros.specs.declared.Side.TheVariants as side
pub use Rattle.dependent_po.specs.SplitMessages.{split_behind, AreFormSplits, AreSplitsIf, IsSplitAt, Split}
pub use Rattle.dependent_po.specs.declared.dependent.Translation.{Translation}

-- the splits of a form that was put at a place were added, if they are looked for
abbrev pub AddsSplits : Bool → List ℕ → ℕ → List Split → List Split → Type 0
AddsSplits true form at old new = (own : List Split) × IsSplitAt side.Translation form own
    × (new ≡ old ++ map (split_behind at) own)
AddsSplits false form at old new = new ≡ old

-- a form was added
pub record AddsForm (looks is_first : Bool) (form : List ℕ) (old new : Translation) : Type 0 where
  pub text : string_bytes new.text ≡ (if is_first then string_bytes old.text ++ form
      else string_bytes old.text ++ 0 ∷ form)
  pub splits : AddsSplits looks form (length (string_bytes new.text) - length form) old.splits.items new.splits.items

-- the forms joined, and their splits
pub record HasTranslation (looks : Bool) (forms : List (List ℕ)) (t : Translation) : Type 0 where
  pub text : string_bytes t.text ≡ join_with_byte 0 forms
  pub splits : AreSplitsIf looks (AreFormSplits 0 forms) t.splits.items
