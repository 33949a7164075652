-- The set and the version after one more batch.
use Rattle.std.proofs.Common.{◌≡◌, ◌≢◌, ◌+◌, ◌∷◌, ◌++◌, [], List, length, fold, sym, refl, ap, ◌∙◌}
use Rattle.std.proofs.lemmas.List.{append-nil}
use Rattle.live_set.specs.Loads.{LoadValue}
use Rattle.live_set.specs.Sets.{SetValue, with_load, fold as fold_of}
use Rattle.live_set.proofs.Folding.{map_in-fold}
use Rattle.live_loads.specs.Batches.{joined_loads, version_of, after_publish}
use Rattle.live_loads.proofs.Joining.{joined-append, fold-append_of, version-add}
use Rattle.snapshot_store.specs.Holding.{IsSetOf}

-- the loads of one more batch
pub joined_add : (v : List (List LoadValue)) (batch : List LoadValue) → joined_loads (v ++ batch ∷ [])
    ≡ joined_loads v ++ batch
joined_add v batch = joined-append v (batch ∷ []) ∙ ap (λ l. joined_loads v ++ l) (append-nil batch)

-- the set after one more batch
pub set_add : (v : List (List LoadValue)) (batch : List LoadValue) → fold with_load (fold_of (joined_loads v)) batch
    ≡ fold_of (joined_loads (v ++ batch ∷ []))
set_add v batch = sym (fold-append_of (joined_loads v) batch) ∙ ap fold_of (sym (joined_add v batch))

-- the set of a version has the maps of its loads
pub set_of : (batches : List (List LoadValue)) (set : SetValue) → set ≡ fold_of (joined_loads batches)
    → IsSetOf batches set
set_of batches set is = record {
  is = is;
  maps = λ domain locale. rw is (map_in-fold (joined_loads batches) domain locale);
}

-- pending loads become one new last batch, if there are any
pub published_some : (v : List (List LoadValue)) (loads : List LoadValue) → loads ≢ [] → after_publish v loads
    ≡ v ++ loads ∷ []
published_some v [] some = absurd (some refl)
published_some v (x ∷ xs) some = refl

-- the version after one more batch
pub version_added : (v : List (List LoadValue)) (batch : List LoadValue) → version_of (v ++ batch ∷ [])
    ≡ version_of v + length batch
version_added = version-add
