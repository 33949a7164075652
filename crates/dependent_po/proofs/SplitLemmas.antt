-- Splits that are moved, and those of forms that follow one another.
use Rattle.std.proofs.Common.{◌≡◌, ℕ, zero, suc, ◌+◌, ◌<◌, ◌≤◌, Bool, true, false, List, [], ◌∷◌, ◌++◌, length, map}
use Rattle.std.proofs.Common.{◌^◌, take, get_or, Some, refl, sym, ap, ◌∙◌, subst, append_assoc, arith, length-append}
use Rattle.std.specs.Prelude.{slice_get, string_bytes, ◌==◌}
use Rattle.std.specs.List.{join_with_byte}
use Rattle.std.proofs.lemmas.List.{append-nil, map-append, take_more}
use Rattle.std.proofs.lemmas.Option.{get_or_from_slice_get, slice_get_within}
use Rattle.po_text.proofs.Sizes.{forms_size}
use Rattle.mo_image.proofs.Joining.{joined_step}
use Rattle.c_macros.specs.MacroSplits.{AreWithin, IsSplitAt}
use Rattle.c_macros.specs.declared.Side.TheVariants as side
use Rattle.dependent_po.specs.FormAdding.{AddsForm, AddsSplits, HasTranslation, Split, Translation}
use Rattle.dependent_po.specs.SplitMessages.{split_behind, AreFormSplits, AreSplitsIf}

-- ---- splits within a text

rises_to : (from : ℕ) (parts : List Split) (to : ℕ) → AreWithin from parts to → from ≤ to
rises_to from [] to within = within
rises_to from (p ∷ ps) to (low, some, rest) = omega (arith, low, rises_to (p.start + p.len) ps to rest)

within_at : (from : ℕ) (parts : List Split) (to : ℕ) → AreWithin from parts to → (k : ℕ) (d : Split)
    → k < length parts → (get_or parts k d).start ≤ to
within_at from [] to within k d lt = absurd (omega (arith, lt))
within_at from (p ∷ ps) to (low, some, rest) zero d lt = omega (arith, rises_to (p.start + p.len) ps to rest)
within_at from (p ∷ ps) to (low, some, rest) (suc k) d lt = within_at (p.start + p.len) ps to rest k d
    (omega (arith, lt))

pub moved_fits : (by end k : ℕ) (own : List Split) (d : Split) → AreWithin 0 own end → by + end < 2 ^ 64
    → k < length own → by + (get_or own k d).start < 2 ^ 64
moved_fits by end k own d within fits lt = omega (arith, fits, within_at 0 own end within k d lt)

-- ---- splits that are moved

longer : {X : Type 0} (xs : List X) (k : ℕ) (x : X) → slice_get xs k ≡ Some x → take (k + 1) xs ≡ take k xs ++ x ∷ []
longer xs k x at = take_more xs k x (slice_get_within xs k x at)
    ∙ ap (λ y. take k xs ++ y ∷ []) (get_or_from_slice_get xs k x x at)

pub moved_step : (by k : ℕ) (own : List Split) (d : Split) (start old new : List Split) → k < length own → old
    ≡ start ++ map (split_behind by) (take k own) → new ≡ old ++ split_behind by (get_or own k d) ∷ [] → new
    ≡ start ++ map (split_behind by) (take (k + 1) own)
moved_step by k own d start old new lt so_far grown =
    grown ∙ ap (λ (xs : List Split). xs ++ split_behind by (get_or own k d) ∷ []) so_far
    ∙ append_assoc start (map (split_behind by) (take k own)) (split_behind by (get_or own k d) ∷ [])
    ∙ ap (λ (xs : List Split). start ++ xs) (sym (map-append (split_behind by) (take k own) (get_or own k d ∷ []))
    ∙ ap (map (split_behind by)) (sym (take_more own k d lt)))

-- ---- forms

joined_len : (fs : List (List ℕ)) (f : List ℕ) → length (join_with_byte 0 (fs ++ f ∷ [])) ≡ forms_size fs + length f
joined_len [] f = omega arith
joined_len (g ∷ []) f = omega (arith, length-append g (0 ∷ f))
joined_len (g ∷ h ∷ fs) f =
    let rest = joined_len (h ∷ fs) f in
    omega (arith, length-append g (0 ∷ join_with_byte 0 ((h ∷ fs) ++ f ∷ [])), rest)

splits_push : (at : ℕ) (fs : List (List ℕ)) (f : List ℕ) (splits own : List Split) (by : ℕ) → by ≡ at + forms_size fs
    → AreFormSplits at fs splits → IsSplitAt side.Translation f own
    → AreFormSplits at (fs ++ f ∷ []) (splits ++ map (split_behind by) own)
splits_push at [] f splits own by by_is none is =
    let same : by ≡ at = omega (arith, by_is) in (
      own,
      [],
      is,
      refl,
      ap (λ (xs : List Split). xs ++ map (split_behind by) own) none ∙ ap (λ (n : ℕ). map (split_behind n) own) same
          ∙ sym (append-nil (map (split_behind at) own)),
    )
splits_push at (g ∷ fs) f splits own by by_is (first, later, its, more, cut) is = (
  first,
  later ++ map (split_behind by) own,
  its,
  splits_push (at + length g + 1) fs f later own by (omega (arith, by_is)) more is,
  ap (λ (xs : List Split). xs ++ map (split_behind by) own) cut
      ∙ append_assoc (map (split_behind at) first) later (map (split_behind by) own),
)

some_splits : (looks : Bool) (fs : List (List ℕ)) (f : List ℕ) (old new : List Split) (at : ℕ) → at ≡ forms_size fs
    → AreSplitsIf looks (AreFormSplits 0 fs) old → AddsSplits looks f at old new
    → AreSplitsIf looks (AreFormSplits 0 (fs ++ f ∷ [])) new
some_splits true fs f old new at at_is are (own, is, grown) = subst (AreFormSplits 0 (fs ++ f ∷ [])) (sym grown)
    (splits_push 0 fs f old own at (omega (arith, at_is)) are is)
some_splits false fs f old new at at_is are same = same ∙ are

pub one_more_form : (looks : Bool) (forms : List (List ℕ)) (k : ℕ) (form : List ℕ) (is_first : Bool)
    (old new : Translation) → slice_get forms k ≡ Some form → is_first ≡ (k == 0)
    → HasTranslation looks (take k forms) old → AddsForm looks is_first form old new
    → HasTranslation looks (take (k + 1) forms) new
one_more_form looks forms k form is_first old new at first has adds =
    let text : string_bytes new.text ≡ join_with_byte 0 (take (k + 1) forms) = joined_step forms k form []
    (string_bytes old.text) (string_bytes new.text) at has.text (rw first at adds.text) in
    let all : take (k + 1) forms ≡ take k forms ++ form ∷ [] = longer forms k form at in
    let size : length (string_bytes new.text) ≡ forms_size (take k forms) + length form = ap length text
    ∙ ap (λ (fs : List (List ℕ)). length (join_with_byte 0 fs)) all ∙ joined_len (take k forms) form in
    record {
      text = text;
      splits = subst (λ (fs : List (List ℕ)). AreSplitsIf looks (AreFormSplits 0 fs) new.splits.items) (sym all)
          (some_splits looks (take k forms) form old.splits.items new.splits.items _ (omega (arith, size)) has.splits
          adds.splits);
    }

pub no_form : (looks : Bool) (forms : List (List ℕ)) (t : Translation) → string_bytes t.text ≡ [] → t.splits.items ≡ []
    → HasTranslation looks (take 0 forms) t
no_form true forms t text splits = record { text = text; splits = splits }
no_form false forms t text splits = record { text = text; splits = splits }

-- ---- a form that was put at the end

pub form_fits : (old new form : List ℕ) (is_first : Bool) → new
    ≡ (Rattle.std.specs.Prelude.cond is_first (old ++ form) (old ++ 0 ∷ form)) → length form ≤ length new
form_fits old new form true is = omega (arith, ap length is, length-append old form)
form_fits old new form false is = omega (arith, ap length is, length-append old (0 ∷ form))
