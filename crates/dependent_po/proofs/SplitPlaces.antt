-- The splits of a message lie in its strings, one after another.
use Rattle.std.proofs.Common.{◌≡◌, ℕ, ◌+◌, ◌≤◌, Bool, true, false, List, [], ◌∷◌, ◌++◌, length, map, Some, None, sym}
use Rattle.std.proofs.Common.{Option, subst, cond, arith, ◌∙◌}
use Rattle.std.specs.List.{filter, join_with_byte, AllByRecursion}
use Rattle.std.proofs.lemmas.List.{append-nil, length-append}
use Rattle.po_text.specs.Entries as po
use Rattle.po_checks.specs.Kept.{kept_entries, message_of}
use Rattle.mo_image.specs.Entry.{key_bytes, original, translation, with_plural}
use Rattle.c_macros.specs.MacroSplits.{AreWithin}
use Rattle.c_macros.specs.declared.Side.TheVariants as side
use Rattle.c_macros.proofs.SplitLemmas.{split_within}
use Rattle.mo_dependent.specs.Splits.{end_of, IsSplit, LieFrom}
use Rattle.dependent_po.specs.MacroMeaning.{Means, Options, DependentCompiled}
use Rattle.dependent_po.specs.SplitMessages.{front_len, split_behind, AreFormSplits, AreMessages, AreOriginalSplits}
use Rattle.dependent_po.specs.SplitMessages.{AreSplitsIf, has_split, IsMessageOf, Message, Split}
use Rattle.dependent_po.specs.SplitViews.{messages_in, Dependent}

-- ---- splits of a part of the text, and those behind it

lie_sooner : (text : List ℕ) (from later : ℕ) (ss : List Split) → from ≤ later → LieFrom text later ss
    → LieFrom text from ss
lie_sooner text from later [] le lie = omega (arith, le, lie)
lie_sooner text from later (s ∷ ss) le (begins, some, more) = (omega (arith, le, begins), some, more)

lie_after : (text : List ℕ) (from middle : ℕ) (own ss : List Split) → AreWithin from own middle
    → LieFrom text middle ss → LieFrom text from (own ++ ss)
lie_after text from middle [] ss le lie = lie_sooner text from middle ss le lie
lie_after text from middle (s ∷ own) ss (begins, some, more) lie = (
  begins,
  some,
  lie_after text (end_of s) middle own ss more lie,
)

moved_within : (by from to : ℕ) (own : List Split) → AreWithin from own to
    → AreWithin (by + from) (map (split_behind by) own) (by + to)
moved_within by from to [] le = omega (arith, le)
moved_within by from to (s ∷ own) (begins, some, more) =
    let end : by + (s.start + s.len) ≡ by + s.start + s.len = omega arith in (
      omega (arith, begins),
      some,
      subst (λ (n : ℕ). AreWithin n (map (split_behind by) own) (by + to)) end
          (moved_within by (s.start + s.len) to own more),
    )

-- a text's splits, moved to the place at which the text is
placed : (at : ℕ) (own : List Split) (len : ℕ) → AreWithin 0 own len
    → AreWithin at (map (split_behind at) own) (at + len)
placed at own len within =
    let same : at + 0 ≡ at = omega arith in
    subst (λ (n : ℕ). AreWithin n (map (split_behind at) own) (at + len)) same (moved_within at 0 len own within)

-- ---- originals

front_fits : (context : Option (List ℕ)) (id : List ℕ) → front_len context + length id ≤ length (key_bytes context id)
front_fits None id = omega arith
front_fits (Some context) id = omega (arith, length-append context (4 ∷ id))

plural_fits : (k : List ℕ) (plural : Option (List ℕ)) → length k ≤ length (with_plural k plural)
plural_fits k None = omega arith
plural_fits k (Some plural) = omega (arith, length-append k (0 ∷ plural))

original_lies : (e : po.Entry) (ss : List Split) → AreOriginalSplits e ss → LieFrom (original (message_of e)) 0 ss
original_lies e ss (own, is, are) =
    let text = original (message_of e) in
    let front = front_len e.context in
    let fits : front + length e.id ≤ length text = omega (
      arith,
      front_fits e.context e.id,
      plural_fits (key_bytes e.context e.id) e.plural,
    ) in
    let within = placed front own (length e.id) (split_within side.Original e.id own is) in
    let lie : LieFrom text front (map (split_behind front) own ++ []) = lie_after text front (front + length e.id)
    (map (split_behind front) own) [] within fits in
    subst (LieFrom text 0) (append-nil (map (split_behind front) own) ∙ sym are)
    (lie_sooner text 0 front _ (omega arith) lie)

-- ---- translations

forms_lie : (text : List ℕ) (at : ℕ) (fs : List (List ℕ)) (ss : List Split) → AreFormSplits at fs ss
    → at + length (join_with_byte 0 fs) ≤ length text → LieFrom text at ss
forms_lie text at [] ss none le = rw none (omega (arith, le))
forms_lie text at (f ∷ []) ss (own, later, is, none, cut) le = rw cut (lie_after text at (at + length f)
    (map (split_behind at) own) later (placed at own (length f) (split_within side.Translation f own is))
    (rw none (omega (arith, le))))
forms_lie text at (f ∷ g ∷ fs) ss (own, later, is, more, cut) le =
    let size = length-append f (0 ∷ join_with_byte 0 (g ∷ fs)) in
    rw cut (lie_after text at (at + length f) (map (split_behind at) own) later
    (placed at own (length f) (split_within side.Translation f own is))
    (lie_sooner text (at + length f) (at + length f + 1) later (omega arith)
    (forms_lie text (at + length f + 1) (g ∷ fs) later more (omega (arith, le, size)))))

-- ---- messages

lie_if : (looks : Bool) (Are : List Split → Type 0) (text : List ℕ) (ss : List Split)
    → ((xs : List Split) → Are xs → LieFrom text 0 xs) → AreSplitsIf looks Are ss → LieFrom text 0 ss
lie_if true Are text ss lie are = lie ss are
lie_if false Are text ss lie none = rw none (omega arith)

-- the splits of both strings lie in them
abbrev HasPlaces : Message → Type 0
HasPlaces m = LieFrom m.strings.0 0 m.original_splits × LieFrom m.strings.1 0 m.translation_splits

message_lies : (e : po.Entry) (m : Message) → IsMessageOf e m → HasPlaces m
message_lies e m is = rw is.strings_are (
  lie_if e.c_format (AreOriginalSplits e) (original (message_of e)) m.original_splits (original_lies e)
      is.original_splits_are,
  lie_if e.c_format (AreFormSplits 0 e.forms) (translation (message_of e)) m.translation_splits
      (λ ss are. forms_lie (translation (message_of e)) 0 e.forms ss are (omega arith)) is.translation_splits_are,
)

messages_lie : (es : List po.Entry) (ms : List Message) → AreMessages es ms → AllByRecursion HasPlaces ms
messages_lie [] [] are = tt
messages_lie [] (m ∷ ms) are = absurd are
messages_lie (e ∷ es) [] are = absurd are
messages_lie (e ∷ es) (m ∷ ms) (is, are) = (message_lies e m is, messages_lie es ms are)

filtered_lie : (ms : List Message) → AllByRecursion HasPlaces ms → AllByRecursion HasPlaces (filter has_split ms)
filtered_lie [] all = tt
filtered_lie (m ∷ ms) (here, all) = of (has_split m) (filter has_split ms) (filtered_lie ms all)
  where
    of : (b : Bool) (others : List Message) → AllByRecursion HasPlaces others
        → AllByRecursion HasPlaces (cond b (m ∷ others) others)
    of true others lie = (here, lie)
    of false others lie = lie

held_lie : (ds : List Dependent) → AllByRecursion HasPlaces (messages_in ds) → AllByRecursion IsSplit ds
held_lie [] all = tt
held_lie (d ∷ ds) (here, all) = (here, held_lie ds all)

pub means_split : (text : List ℕ) (o : Options) (compiled : DependentCompiled) → Means text o compiled
    → AllByRecursion IsSplit compiled.dependents.items
means_split text o compiled means =
    let parts = means.parts_are in
    held_lie compiled.dependents.items (subst (AllByRecursion HasPlaces) (sym parts.dependents_are)
    (filtered_lie parts.messages (messages_lie (kept_entries o means.entries) parts.messages parts.are)))
