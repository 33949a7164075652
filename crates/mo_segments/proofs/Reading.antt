-- One more system-dependent message of a file.
use Rattle.std.proofs.Common.{◌≡◌, ℕ, suc, ◌+◌, ◌-◌, ◌*◌, ◌<◌, ◌≤◌, List, [], ◌∷◌, ◌++◌, Option, inl, inr}
use Rattle.std.proofs.Common.{ap, ◌∙◌, subst, arith}
use Rattle.std.specs.Prelude.{IsTrue}
use Rattle.mo_image.specs.Tables.{word_at}
use Rattle.mo_segments.specs.Expanding.{descriptor_at, IsExpandedOf, HasFaultOf}
use Rattle.mo_segments.specs.MessageStrings.{Strings}
use Rattle.mo_segments.specs.Dependents.{dependent_count, dependent_originals, dependent_translations}
use Rattle.mo_segments.specs.Dependents.{IsReadTo, AreRead, IsFaultIn}
use Rattle.mo_segments.specs.declared.descriptors.Expanded.{Expanded}
use Rattle.mo_segments.specs.declared.fault.DependentFault.{DependentFault}
use Rattle.mo_segments.specs.declared.fault.DependentFault.TheVariants.{Memory}

module _ (number : ℕ → List ℕ → ℕ) (bytes : List ℕ) (values : List (Option (List ℕ))) (statics : List Strings) where
  -- the word of row i, by what was read of the header
  pub row_word : (base table i a : ℕ) → base ≡ table → a ≡ word_at number bytes (base + 4 * i)
      → a ≡ word_at number bytes (table + 4 * i)
  row_word base table i a eb ea = ea ∙ ap (λ (b : ℕ). word_at number bytes (b + 4 * i)) eb

  -- what was read at a place that is a descriptor's
  expanded_at : (a b room : ℕ) (e : Expanded) → a ≡ b → IsExpandedOf (descriptor_at number bytes values a) room e
      → IsExpandedOf (descriptor_at number bytes values b) room e
  expanded_at a b room e is h = subst (λ (n : ℕ). IsExpandedOf (descriptor_at number bytes values n) room e) is h

  pub read_more : (i room a b : ℕ) (o t : Expanded) (before after : List Strings)
      → a ≡ word_at number bytes (dependent_originals number bytes + 4 * i)
      → b ≡ word_at number bytes (dependent_translations number bytes + 4 * i)
      → IsReadTo number bytes values statics i room before
      → IsExpandedOf (descriptor_at number bytes values a) room o
      → IsExpandedOf (descriptor_at number bytes values b) (room - o.cost) t
      → (IsTrue o.known → IsTrue t.known → after ≡ before ++ (o.text.items, t.text.items) ∷ [])
      → (¬ (IsTrue o.known × IsTrue t.known) → after ≡ before)
      → IsReadTo number bytes values statics (i + 1) (room - o.cost - t.cost) after
  read_more i room a b o t before after ea eb so_far eo et known left_out =
      let ho = expanded_at a (word_at number bytes (dependent_originals number bytes + 4 * i)) room o ea eo in
      let ht = expanded_at b (word_at number bytes (dependent_translations number bytes + 4 * i)) (room - o.cost) t eb
      et in
      let next : suc i ≡ i + 1 = omega arith in
      subst (λ (n : ℕ). IsReadTo number bytes values statics n (room - o.cost - t.cost) after) next (
        room,
        before,
        so_far,
        record {
          original_splits = ho.splits;
          original = o.text.items;
          is_original = record { ends = ho.ends; closed = ho.closed; spelt = ho.spelt };
          translation_splits = ht.splits;
          translation = t.text.items;
          is_translation = record { ends = ht.ends; closed = ht.closed; spelt = ht.spelt };
          known = λ ko kt. known (ho.knows.1 ko) (ht.knows.1 kt);
          left_out = λ no. left_out (λ both. no (ho.knows.0 both.0, ht.knows.0 both.1));
          room_is = omega (arith, ho.taken, ho.fits, ht.taken, ht.fits);
        },
      )

  pub all_read : (i end room : ℕ) (messages : List Strings) → i ≤ end → end ≤ i → end ≡ dependent_count number bytes
      → IsReadTo number bytes values statics i room messages → AreRead number bytes values statics messages
  all_read i end room messages le ge is h =
      let same : i ≡ end = omega (arith, le, ge) in
      (room, subst (λ (n : ℕ). IsReadTo number bytes values statics n room messages) (same ∙ is) h)

  module _ (i end room : ℕ) (messages : List Strings) (lt : i < end) (is : end ≡ dependent_count number bytes)
      (before : IsReadTo number bytes values statics i room messages) where
    within : i < dependent_count number bytes
    within = subst (λ (n : ℕ). i < n) is lt

    pub memory_runs_out : IsFaultIn number bytes values statics Memory
    memory_runs_out = record {
      i = i;
      within = within;
      room = room;
      messages = messages;
      before = before;
      fails = inl tt;
    }

    pub original_fails : (a : ℕ) (fault : DependentFault)
        → a ≡ word_at number bytes (dependent_originals number bytes + 4 * i)
        → HasFaultOf (descriptor_at number bytes values a) room fault → IsFaultIn number bytes values statics fault
    original_fails a fault ea f = record {
      i = i;
      within = within;
      room = room;
      messages = messages;
      before = before;
      fails = inl (subst (λ (n : ℕ). HasFaultOf (descriptor_at number bytes values n) room fault) ea f);
    }

    pub translation_fails : (a b : ℕ) (o : Expanded) (fault : DependentFault)
        → a ≡ word_at number bytes (dependent_originals number bytes + 4 * i)
        → b ≡ word_at number bytes (dependent_translations number bytes + 4 * i)
        → IsExpandedOf (descriptor_at number bytes values a) room o
        → HasFaultOf (descriptor_at number bytes values b) (room - o.cost) fault
        → IsFaultIn number bytes values statics fault
    translation_fails a b o fault ea eb eo f =
        let at = word_at number bytes (dependent_translations number bytes + 4 * i) in
        let ho = expanded_at a (word_at number bytes (dependent_originals number bytes + 4 * i)) room o ea eo in
        let there : HasFaultOf (descriptor_at number bytes values at) (room - o.cost) fault =
        subst (λ (n : ℕ). HasFaultOf (descriptor_at number bytes values n) (room - o.cost) fault) eb f in
        record {
          i = i;
          within = within;
          room = room;
          messages = messages;
          before = before;
          fails = inr (
            ho.splits,
            ho.ends,
            ho.fits,
            ho.closed,
            subst (λ (c : ℕ). HasFaultOf (descriptor_at number bytes values at) (room - c) fault) ho.taken there,
          );
        }
