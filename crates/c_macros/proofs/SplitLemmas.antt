-- The parts of a text, in order and within it.
use Rattle.std.proofs.Common.{◌≡◌, ℕ, ◌+◌, ◌-◌, ◌<◌, ◌≤◌, List, [], ◌∷◌, ◌++◌, length}
use Rattle.std.proofs.Common.{take, get_or, refl, sym, ap, subst, ◌∙◌, arith, inl, inr}
use Rattle.std.specs.Prelude.{◌==◌}
use Rattle.std.specs.List.{flat_map}
use Rattle.std.proofs.lemmas.Bool.{cases_Bool}
use Rattle.std.proofs.lemmas.List.{append-nil, append_assoc, length-append, length-take-le, take_more}
use Rattle.format_arguments.proofs.TextLemmas.{one_asked}
use Rattle.c_signature.specs.Directives as c
use Rattle.c_macros.specs.MacroDirectives.{Directive, Spelled, Named, Head, HeadAt}
use Rattle.c_macros.specs.MacroFormat.{IsInvalid, IsFormat, percent}
use Rattle.c_macros.specs.MacroSplits.{other_digits, split, flag_splits, head_splits, macro_split, Parted, HasPartsAt}
use Rattle.c_macros.specs.MacroSplits.{PartedAt, HasParts, IsOf, Splits, IsSplitAt, AreWithin, Split, Side}
use Rattle.c_macros.proofs.MacroLemmas.{macro_shorter}
use Rattle.c_macros.proofs.MacroDirectiveLemmas.{places, are_parted}

-- ---- one flag more

flag_push : (start : ℕ) (xs : List ℕ) (x at : ℕ) → at ≡ start + length xs → flag_splits start (xs ++ x ∷ [])
    ≡ flag_splits start xs ++ flag_splits at (x ∷ [])
flag_push start [] x at e =
    let same : at ≡ start = omega (arith, e) in
    rw same refl
flag_push start (y ∷ xs) x at e =
    let later = flag_push (start + 1) xs x at (omega (arith, e)) in
    elim (cases_Bool (y == other_digits)) [
      | inl is ↦ rw is (ap (λ (t : List Split). split start 1 ∷ t) later)
      | inr is ↦ rw is later
    ]

pub flags_on : (flags : List ℕ) (i d start at : ℕ) (old now new : List Split) → i < length flags
    → now ≡ old ++ flag_splits start (take i flags) → at ≡ start + i
    → new ≡ now ++ flag_splits at (get_or flags i d ∷ []) → new ≡ old ++ flag_splits start (take (i + 1) flags)
flags_on flags i d start at old now new lt so_far place e =
    let there : at ≡ start + length (take i flags) = omega (arith, place, length-take-le i flags (omega (arith, lt))) in
    e ∙ ap (λ (t : List Split). t ++ flag_splits at (get_or flags i d ∷ [])) so_far
    ∙ append_assoc old (flag_splits start (take i flags)) (flag_splits at (get_or flags i d ∷ []))
    ∙ ap (λ (t : List Split). old ++ t) (sym (flag_push start (take i flags) (get_or flags i d) at there))
    ∙ ap (λ (t : List ℕ). old ++ flag_splits start t) (sym (take_more flags i d lt))

-- ---- in order

within_later : (from start to : ℕ) (parts : List Split) → from ≤ start → AreWithin start parts to
    → AreWithin from parts to
within_later from start to [] le within = omega (arith, le, within)
within_later from start to (part ∷ more) le (begins, some, later) = (omega (arith, le, begins), some, later)

within_append : (from middle to : ℕ) (parts more : List Split) → AreWithin from parts middle
    → AreWithin middle more to → AreWithin from (parts ++ more) to
within_append from middle to [] more front back = within_later from middle to more front back
within_append from middle to (part ∷ parts) more (begins, some, later) back =
    (begins, some, within_append (part.start + part.len) middle to parts more later back)

within_sooner : (from middle to : ℕ) (parts : List Split) → middle ≤ to → AreWithin from parts middle
    → AreWithin from parts to
within_sooner from middle to parts le within =
    subst (λ (t : List Split). AreWithin from t to) (append-nil parts)
    (within_append from middle to parts [] within le)

flags_within : (start : ℕ) (flags : List ℕ) → AreWithin start (flag_splits start flags) (start + length flags)
flags_within start [] = omega arith
flags_within start (flag ∷ more) =
    let same : start + 1 + length more ≡ start + length (flag ∷ more) = omega arith in
    let later = subst (λ (n : ℕ). AreWithin (start + 1) (flag_splits (start + 1) more) n) same
    (flags_within (start + 1) more) in
    elim (cases_Bool (flag == other_digits)) [
      | inl is ↦ rw is (omega arith, omega arith, later)
      | inr is ↦ rw is (within_later start (start + 1) _ _ (omega arith) later)
    ]

head_within : (total : ℕ) (h : Head) (text rest : List ℕ) (x : HeadAt h text rest) → length text ≤ total
    → AreWithin (total - length text) (head_splits total h text rest x) (total - length rest)
head_within total h text rest x le =
    let there = places h text rest x in
    let start = total - length x.behind_number in
    let within = within_sooner start (start + length h.flags) (total - length rest) (flag_splits start h.flags)
    (omega (arith, there.flags, there.tail, there.number, le)) (flags_within start h.flags) in
    within_later (total - length text) start (total - length rest) (flag_splits start h.flags)
    (omega (arith, there.number)) within

directive_within : (total : ℕ) (d : Directive) (parts : List Split) (text rest : List ℕ) → length text ≤ total
    → HasPartsAt total d parts text rest → AreWithin (total - length text) parts (total - length rest)
directive_within total (Spelled d) parts text rest le (x, e) =
    let tail : length rest ≤ length x.behind_head = tail_within d x.behind_head rest x.tail in
    rw e (within_sooner (total - length text) (total - length x.behind_head) (total - length rest) _
    (omega (arith, tail)) (head_within total d.head text x.behind_head x.head le))
  where
    tail_within : (d : c.Directive) (text rest : List ℕ) → c.TailAt d text rest → length rest ≤ length text
    tail_within d text rest x = omega (
      arith,
      ap length x.modifier_at.text_is,
      length-append x.modifier_at.front x.behind_modifier,
      ap length x.conversion_at,
    )
directive_within total (Named h k) parts text rest le (x, e) =
    let there = places h text x.behind_head x.head_at in
    let shorter = macro_shorter k x.behind_head rest x.macro_at in
    let part = macro_split total x.behind_head rest in
    rw e (within_append (total - length text) (total - length x.behind_head) (total - length rest)
    (head_splits total h text x.behind_head x.head_at) (part ∷ [])
    (head_within total h text x.behind_head x.head_at le)
    (omega arith, omega (arith, shorter), omega (arith, shorter, there.flags, there.tail, there.number, le)))

format_within : (total : ℕ) (ds : List Parted) (text : List ℕ) → length text ≤ total
    → IsFormat percent (PartedAt total) ds text
    → AreWithin (total - length text) (flat_map (λ d. d.parts) ds) total
format_within total [] text le end = omega arith
format_within total (d ∷ more) text le (at, after, skips, x, others) =
    let shorter : length at ≤ length text = omega (arith, ap length skips.text_is, length-append skips.plain at) in
    let less : length after < length at = (are_parted total).shorter d at after x in
    within_later (total - length text) (total - length at) total _ (omega (arith, shorter))
    (within_append (total - length at) (total - length after) total d.parts _
    (directive_within total d.directive d.parts at after (omega (arith, shorter, le)) x)
    (format_within total more after (omega (arith, less, shorter, le)) others))

pub parts_within : (text : List ℕ) (parts : List Split) → HasParts text parts → AreWithin 0 parts (length text)
parts_within text parts (ds, format, e) =
    let start : length text - length text ≡ 0 = omega arith in
    rw e (subst (λ (n : ℕ). AreWithin n (flat_map (λ d. d.parts) ds) (length text)) start
    (format_within (length text) ds text (omega arith) format))

pub split_within : (side : Side) (text : List ℕ) (parts : List Split) → IsSplitAt side text parts
    → AreWithin 0 parts (length text)
split_within side text parts (inl splits) = parts_within text parts splits.has
split_within side text parts (inr (none, refused)) = rw none (omega arith)

-- ---- one way to split

pub one_parts : (text : List ℕ) (parts others : List Split) → HasParts text parts → HasParts text others
    → parts ≡ others
one_parts text parts others (ds, f, e) (es, g, h) =
    e ∙ one_asked percent (PartedAt (length text)) (are_parted (length text)) (λ d. d.parts) ds es text f g ∙ sym h

pub not_of : (side : Side) (text : List ℕ) (parts : List Split) → HasParts text parts → (IsOf side parts → ⊥)
    → (others : List Split) → Splits side text others → ⊥
not_of side text parts has other others splits =
    other (subst (λ (t : List Split). IsOf side t) (one_parts text others parts splits.has has) splits.of)

-- ---- the parts of a text on one side

pub none_invalid : (side : Side) (text : List ℕ) (none : List Split) → none ≡ [] → IsInvalid text
    → IsSplitAt side text none
none_invalid side text none e invalid = inr (e, λ others splits. invalid splits.kinds splits.lists)

pub none_of : (side : Side) (text : List ℕ) (parts none : List Split) → none ≡ [] → HasParts text parts
    → (IsOf side parts → ⊥) → IsSplitAt side text none
none_of side text parts none e has other = inr (e, not_of side text parts has other)
